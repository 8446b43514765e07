-- Any two outcomes that the contract of `call::clean` allows are equal: the settings handed back, and every word of the six rows. Assumes nothing.
use mathlib.Core.Path.{◌≡◌, refl, sym, ap, ◌∙◌}
use mathlib.Core.List.{List, []}
use lib.IntN.{ℤ}
use Rattle.silk.specs.declared.structs.NsqState.{NsqState}
use Rattle.silk.specs.declared.structs.Settings.{Settings}
use Rattle.silk.specs.State.{fresh_state, with_lag}
use Rattle.steps.specs.Call.{Call, call_of}
use Rattle.cleaning.proofs.call.clean.Reads as clean

-- a state with that lagPrev, fresh in all else: the contract speaks of it among others
abbrev lagged : ℤ → NsqState
lagged lagPrev = with_lag fresh_state lagPrev

-- the settings and the rows of a call that cleaning may change
parts : (y : ℤ) {r s : Settings} {p q l m a b h i t u g k : List ℤ} → call_of r (lagged y) p l a h t [] [] g ≡ call_of s (lagged y) q m b i u [] [] k
    → (r ≡ s) × (p ≡ q) × (l ≡ m) × (a ≡ b) × (h ≡ i) × (t ≡ u) × (g ≡ k)
parts y e = (
  ap (λ (c : Call). c.settings) e,
  ap (λ (c : Call). c.PredCoef_Q12) e,
  ap (λ (c : Call). c.LTPCoef_Q14) e,
  ap (λ (c : Call). c.AR_Q13) e,
  ap (λ (c : Call). c.HarmShapeGain_Q14) e,
  ap (λ (c : Call). c.Tilt_Q14) e,
  ap (λ (c : Call). c.pitchL) e,
)

-- the rows in the order of the parameters: prediction, long-term prediction, shaping, harmonic gains, tilts, lags
pub clean-unique : (κs a r s e f : _) → clean.Post κs a r e → clean.Post κs a s f
    → (r ≡ s) × (e.1.1.0.now ≡ f.1.1.0.now) × (e.1.1.1.0.now ≡ f.1.1.1.0.now) × (e.1.1.1.1.0.now ≡ f.1.1.1.1.0.now)
    × (e.1.1.1.1.1.0.now ≡ f.1.1.1.1.1.0.now) × (e.1.1.1.1.1.1.0.now ≡ f.1.1.1.1.1.1.0.now)
    × (e.1.1.1.1.1.1.1.0.now ≡ f.1.1.1.1.1.1.1.0.now)
clean-unique κs a r s e f p q = let y = a.1.0 in parts y (p (lagged y) [] [] refl ∙ sym (q (lagged y) [] [] refl))
