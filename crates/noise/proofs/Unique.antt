-- Each contract leaves one outcome: two results that meet it are equal, and so are the words that a row is left with.
-- Assumes nothing.
use mathlib.Core.Path.{◌≡◌, sym, ◌∙◌}
use Rattle.noise.proofs.noise_terms.n_AR.Reads as n-AR
use Rattle.noise.proofs.noise_terms.n_LF.Reads as n-LF
use Rattle.noise.proofs.residual.residual.Reads as residual
use Rattle.noise.proofs.output.pulse_of.Reads as pulse-of
use Rattle.noise.proofs.output.xq_out.Reads as xq-out

pub n-AR-unique : (κs a r s e : _) → n-AR.Post κs a r e → n-AR.Post κs a s e → r ≡ s
n-AR-unique κs a r s e p q = p ∙ sym q

pub n-LF-unique : (κs a r s e : _) → n-LF.Post κs a r e → n-LF.Post κs a s e → r ≡ s
n-LF-unique κs a r s e p q = p ∙ sym q

pub residual-unique : (κs a r s e : _) → residual.Post κs a r e → residual.Post κs a s e → r ≡ s
residual-unique κs a r s e p q = p ∙ sym q

pub pulse-of-unique : (κs a r s e : _) → pulse-of.Post κs a r e → pulse-of.Post κs a s e → r ≡ s
pulse-of-unique κs a r s e p q = p ∙ sym q

pub xq-out-unique : (κs a r s e : _) → xq-out.Post κs a r e → xq-out.Post κs a s e → r ≡ s
xq-out-unique κs a r s e p q = p ∙ sym q
