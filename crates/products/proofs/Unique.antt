-- Each public function's contract leaves one outcome: any two results that it allows are equal. Stated over the contracts as the checker
-- reads them, so that these theorems cannot drift from the code.
use mathlib.Core.Path.{◌≡◌, ◌∙◌, sym}
use Rattle.products.proofs.product.mul16.Reads as mul16
use Rattle.products.proofs.product.smulbb.Reads as smulbb
use Rattle.products.proofs.product.smlabb.Reads as smlabb
use Rattle.products.proofs.product.smulwb.Reads as smulwb
use Rattle.products.proofs.product.smlawb.Reads as smlawb
use Rattle.products.proofs.product.smulwt.Reads as smulwt
use Rattle.products.proofs.product.smlawt.Reads as smlawt
use Rattle.products.proofs.product.smulww.Reads as smulww
use Rattle.products.proofs.product.smlaww.Reads as smlaww
use Rattle.products.proofs.product.smmul.Reads as smmul

pub mul16-unique : (κs a r s e : _) → mul16.Post κs a r e → mul16.Post κs a s e → r ≡ s
mul16-unique κs a r s e p q = p ∙ sym q

pub smulbb-unique : (κs a r s e : _) → smulbb.Post κs a r e → smulbb.Post κs a s e → r ≡ s
smulbb-unique κs a r s e p q = p ∙ sym q

pub smlabb-unique : (κs a r s e : _) → smlabb.Post κs a r e → smlabb.Post κs a s e → r ≡ s
smlabb-unique κs a r s e p q = p ∙ sym q

pub smulwb-unique : (κs a r s e : _) → smulwb.Post κs a r e → smulwb.Post κs a s e → r ≡ s
smulwb-unique κs a r s e p q = p ∙ sym q

pub smlawb-unique : (κs a r s e : _) → smlawb.Post κs a r e → smlawb.Post κs a s e → r ≡ s
smlawb-unique κs a r s e p q = p ∙ sym q

pub smulwt-unique : (κs a r s e : _) → smulwt.Post κs a r e → smulwt.Post κs a s e → r ≡ s
smulwt-unique κs a r s e p q = p ∙ sym q

pub smlawt-unique : (κs a r s e : _) → smlawt.Post κs a r e → smlawt.Post κs a s e → r ≡ s
smlawt-unique κs a r s e p q = p ∙ sym q

pub smulww-unique : (κs a r s e : _) → smulww.Post κs a r e → smulww.Post κs a s e → r ≡ s
smulww-unique κs a r s e p q = p ∙ sym q

pub smlaww-unique : (κs a r s e : _) → smlaww.Post κs a r e → smlaww.Post κs a s e → r ≡ s
smlaww-unique κs a r s e p q = p ∙ sym q

pub smmul-unique : (κs a r s e : _) → smmul.Post κs a r e → smmul.Post κs a s e → r ≡ s
smmul-unique κs a r s e p q = p ∙ sym q
