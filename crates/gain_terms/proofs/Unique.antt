-- Any two outcomes that a public function's contract allows are equal: each contract leaves one. Assumes nothing.
use mathlib.Core.Path.{◌≡◌, sym, ◌∙◌}
use Rattle.gain_terms.proofs.gains.inv_gain_Q31.Reads as inv-gain-Q31
use Rattle.gain_terms.proofs.gains.inv_gain_Q26.Reads as inv-gain-Q26
use Rattle.gain_terms.proofs.gains.x_sc_Q10.Reads as x-sc-Q10
use Rattle.gain_terms.proofs.gains.ltp_scaled_inv_gain.Reads as ltp-scaled-inv-gain
use Rattle.gain_terms.proofs.gains.gain_adj_Q16.Reads as gain-adj-Q16

pub inv-gain-Q31-unique : (κs a r s e : _) → inv-gain-Q31.Post κs a r e → inv-gain-Q31.Post κs a s e → r ≡ s
inv-gain-Q31-unique κs a r s e p q = p ∙ sym q

pub inv-gain-Q26-unique : (κs a r s e : _) → inv-gain-Q26.Post κs a r e → inv-gain-Q26.Post κs a s e → r ≡ s
inv-gain-Q26-unique κs a r s e p q = p ∙ sym q

pub x-sc-Q10-unique : (κs a r s e : _) → x-sc-Q10.Post κs a r e → x-sc-Q10.Post κs a s e → r ≡ s
x-sc-Q10-unique κs a r s e p q = p ∙ sym q

pub ltp-scaled-inv-gain-unique : (κs a r s e : _) → ltp-scaled-inv-gain.Post κs a r e → ltp-scaled-inv-gain.Post κs a s e → r ≡ s
ltp-scaled-inv-gain-unique κs a r s e p q = p ∙ sym q

pub gain-adj-Q16-unique : (κs a r s e : _) → gain-adj-Q16.Post κs a r e → gain-adj-Q16.Post κs a s e → r ≡ s
gain-adj-Q16-unique κs a r s e p q = p ∙ sym q
