-- Any two outcomes that a public function's contract allows are equal: each contract leaves one. Assumes nothing.
use mathlib.Core.Path.{◌≡◌, sym, ◌∙◌}
use Rattle.silk.proofs.structs.NsqState.fresh.Reads as fresh

pub fresh-unique : (κs a r s e : _) → fresh.Post κs a r e → fresh.Post κs a s e → r ≡ s
fresh-unique κs a r s e p q = p ∙ sym q
