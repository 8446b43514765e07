-- Each public function's contract leaves one outcome: any two results that it allows are equal. Stated over the contracts as the checker
-- reads them, so that these theorems cannot drift from the code.
use mathlib.Core.Path.{◌≡◌, ◌∙◌, sym}
use Rattle.fixed.proofs.wrap.low32.Reads as low32
use Rattle.fixed.proofs.wrap.low16.Reads as low16
use Rattle.fixed.proofs.wrap.high16.Reads as high16
use Rattle.fixed.proofs.wrap.low8.Reads as low8
use Rattle.fixed.proofs.wrap.add32.Reads as add32
use Rattle.fixed.proofs.wrap.sub32.Reads as sub32
use Rattle.fixed.proofs.wrap.neg32.Reads as neg32
use Rattle.fixed.proofs.wrap.mul32.Reads as mul32

pub low32-unique : (κs a r s e : _) → low32.Post κs a r e → low32.Post κs a s e → r ≡ s
low32-unique κs a r s e p q = p ∙ sym q

pub low16-unique : (κs a r s e : _) → low16.Post κs a r e → low16.Post κs a s e → r ≡ s
low16-unique κs a r s e p q = p ∙ sym q

pub high16-unique : (κs a r s e : _) → high16.Post κs a r e → high16.Post κs a s e → r ≡ s
high16-unique κs a r s e p q = p ∙ sym q

pub low8-unique : (κs a r s e : _) → low8.Post κs a r e → low8.Post κs a s e → r ≡ s
low8-unique κs a r s e p q = p ∙ sym q

pub add32-unique : (κs a r s e : _) → add32.Post κs a r e → add32.Post κs a s e → r ≡ s
add32-unique κs a r s e p q = p ∙ sym q

pub sub32-unique : (κs a r s e : _) → sub32.Post κs a r e → sub32.Post κs a s e → r ≡ s
sub32-unique κs a r s e p q = p ∙ sym q

pub neg32-unique : (κs a r s e : _) → neg32.Post κs a r e → neg32.Post κs a s e → r ≡ s
neg32-unique κs a r s e p q = p ∙ sym q

pub mul32-unique : (κs a r s e : _) → mul32.Post κs a r e → mul32.Post κs a s e → r ≡ s
mul32-unique κs a r s e p q = p ∙ sym q
