-- Each public function's contract leaves one outcome: any two results that it allows are equal.
-- Assumes nothing.
use mathlib.Core.Path.{◌≡◌, sym, ◌∙◌}
use Rattle.residuals.proofs.offset.quant_offset.Reads as quant-offset
use Rattle.residuals.proofs.residual.turned.Reads as turned
use Rattle.residuals.proofs.residual.signed_residual.Reads as signed-residual
use Rattle.residuals.proofs.residual.signed_excitation.Reads as signed-excitation
use Rattle.residuals.proofs.residual.pulse_of.Reads as pulse-of
use Rattle.residuals.proofs.residual.seed_with.Reads as seed-with

pub quant-offset-unique : (κs a r s e : _) → quant-offset.Post κs a r e → quant-offset.Post κs a s e → r ≡ s
quant-offset-unique κs a r s e p q = p ∙ sym q

pub turned-unique : (κs a r s e : _) → turned.Post κs a r e → turned.Post κs a s e → r ≡ s
turned-unique κs a r s e p q = p ∙ sym q

pub signed-residual-unique : (κs a r s e : _) → signed-residual.Post κs a r e → signed-residual.Post κs a s e → r ≡ s
signed-residual-unique κs a r s e p q = p ∙ sym q

pub signed-excitation-unique : (κs a r s e : _) → signed-excitation.Post κs a r e → signed-excitation.Post κs a s e → r ≡ s
signed-excitation-unique κs a r s e p q = p ∙ sym q

pub pulse-of-unique : (κs a r s e : _) → pulse-of.Post κs a r e → pulse-of.Post κs a s e → r ≡ s
pulse-of-unique κs a r s e p q = p ∙ sym q

pub seed-with-unique : (κs a r s e : _) → seed-with.Post κs a r e → seed-with.Post κs a s e → r ≡ s
seed-with-unique κs a r s e p q = p ∙ sym q
