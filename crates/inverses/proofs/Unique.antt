-- Any two outcomes that a public function's contract allows are equal: each contract leaves one. Assumes nothing.
use mathlib.Core.Path.{◌≡◌, sym, ◌∙◌}
use Rattle.inverses.proofs.inlines.silk_INVERSE32_varQ.Reads as silk-INVERSE32-varQ
use Rattle.inverses.proofs.inlines.silk_DIV32_varQ.Reads as silk-DIV32-varQ

pub silk-INVERSE32-varQ-unique : (κs a r s e : _) → silk-INVERSE32-varQ.Post κs a r e → silk-INVERSE32-varQ.Post κs a s e → r ≡ s
silk-INVERSE32-varQ-unique κs a r s e p q = p ∙ sym q

pub silk-DIV32-varQ-unique : (κs a r s e : _) → silk-DIV32-varQ.Post κs a r e → silk-DIV32-varQ.Post κs a s e → r ≡ s
silk-DIV32-varQ-unique κs a r s e p q = p ∙ sym q
