-- Each contract leaves one outcome: two results that meet it are equal, and so are the words that a row is left with.
-- Assumes nothing.
use mathlib.Core.Path.{◌≡◌, sym, ◌∙◌}
use Rattle.harmonic.proofs.terms.harm_shape_packed.Reads as harm-shape-packed
use Rattle.harmonic.proofs.terms.n_LTP.Reads as n-LTP

pub harm-shape-packed-unique : (κs a r s e : _) → harm-shape-packed.Post κs a r e → harm-shape-packed.Post κs a s e → r ≡ s
harm-shape-packed-unique κs a r s e p q = p ∙ sym q

pub n-LTP-unique : (κs a r s e : _) → n-LTP.Post κs a r e → n-LTP.Post κs a s e → r ≡ s
n-LTP-unique κs a r s e p q = p ∙ sym q
