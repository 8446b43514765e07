-- What two calls that agree in what counts have in common: their counts, each subframe's scalars, and what it reads of its rows. Assumes nothing.
use Prim.Native.Nat.{ℕ, ◌+◌, ◌*◌, ◌/◌, ◌<◌, ◌≤◌}
use native.Mathlib.Omega.{arith}
use native.Mathlib.Nat.{zero-mul, zero-add, one-mul}
use mathlib.Core.Path.{◌≡◌, refl, sym, ap, ◌∙◌}
use mathlib.Core.Bool.{Bool, true, false}
use mathlib.Core.List.{List}
use lib.ListN.{take, drop}
use lib.IntN.{ℤ, pos}
use lib.Dec.{eqb, ltb}
use borrow.Author.Tests.{ltb-true, ltb-false}
use Rattle.fixed.specs.Iter.{either}
use Rattle.fixed.specs.Wrap.{wrap16}
use Rattle.word_steps.specs.Gains.{inv_gain_Q31, ltp_scaled_inv_gain}
use Rattle.word_steps.specs.Harmonic.{packed_gain}
use Rattle.fixed.specs.Row.{word}
use Rattle.limits.specs.Count.{nat_z, same_z}
use Rattle.steps.specs.declared.structs.Given.{Given}
use Rattle.steps.specs.Call.{Call, voiced_by, voiced_delay, quiet_delay, delay_by, given_by, given_of, count_of, lag_by, lag_of, twice_by, second_by, rewhites_by, since_by, row_by, fix_by, fix_of, halves_by, rows_by, rows_of, white_by}
use Rattle.steps.proofs.Sound.{rewhites-voiced}
use Rattle.counts.specs.Agree.{OneRow, RowZeroOnly, Agree}
use Rattle.counts.proofs.Rows.{either_same, part-word}
use Rattle.counts.proofs.Conditions.{is-voiced, not-voiced, voiced-is, quiet_is, two-rows, one-row, zero-only-two, zero-only-rows, no-lag-quiet, no-lag-zero}
use Rattle.counts.proofs.Sample.{RowsSame}
use Rattle.counts.proofs.Accepted.{Ready}

-- ---- its settings, as given
pub record Settled (c : Call) (g : Given) : Type 0 where
  pub count : g.nb_subfr ≡ nat_z c.settings.nb_subfr
  pub order : g.predictLPCOrder ≡ nat_z c.settings.predictLPCOrder
  pub shaping : g.shapingLPCOrder ≡ nat_z c.settings.shapingLPCOrder
  pub length : g.subfr_length ≡ nat_z c.settings.subfr_length
  pub warping : g.warping_Q16 ≡ c.settings.warping_Q16
  pub scale : g.LTP_scale_Q14 ≡ c.settings.LTP_scale_Q14
  pub lagPrev : g.lagPrev ≡ nat_z c.state.lagPrev

pub settled : (c : Call) → Settled c (given_of c)
unfolding given_by
settled c = record { count = refl; order = refl; shaping = refl; length = refl; warping = refl; scale = refl; lagPrev = refl }

-- ---- what is given, with another warping, LTP scale and lagPrev
abbrev pub other : Given → ℤ → ℤ → ℕ → Given
other g warping scale lagPrev =
    record {
      subfr_length = g.subfr_length;
      nb_subfr = g.nb_subfr;
      predictLPCOrder = g.predictLPCOrder;
      shapingLPCOrder = g.shapingLPCOrder;
      nStates = g.nStates;
      voiced = g.voiced;
      interpolated = g.interpolated;
      offset_Q10 = g.offset_Q10;
      Lambda_Q10 = g.Lambda_Q10;
      LTP_scale_Q14 = scale;
      warping_Q16 = warping;
      seed = g.seed;
      lagPrev = lagPrev;
      delay = g.delay;
    }

-- .. that of the call d beside c
abbrev pub other_of : Call → Call → Given
other_of c d = other (given_of c) d.settings.warping_Q16 d.settings.LTP_scale_Q14 (nat_z d.state.lagPrev)

-- where subframe k stands does not go by those three
pub second-other : (g : Given) (w s : ℤ) (p k : ℕ) → second_by (other g w s p) k ≡ second_by g k
unfolding second_by twice_by
second-other g w s p k = refl

pub rewhites-other : (g : Given) (w s : ℤ) (p k : ℕ) → rewhites_by (other g w s p) k ≡ rewhites_by g k
unfolding rewhites_by second_by twice_by
rewhites-other g w s p k = refl

pub since-other : (g : Given) (w s : ℤ) (p k : ℕ) → since_by (other g w s p) k ≡ since_by g k
unfolding since_by twice_by
since-other g w s p k = refl

-- which row of prediction coefficients: 0 only where there are two, 1 only where it is reached
row_is : (c : Call) (k : ℕ) (Q : ℕ → Type 0) → k < count_of c → count_of c ≤ 4 → ((OneRow c → ⊥) → Q 0) → ((RowZeroOnly c → ⊥) → Q 1) → Q (row_by (given_of c) k)
unfolding row_by
row_is c k Q h few f g = go (given_of c).interpolated refl
  where
    go : (b : Bool) → (given_of c).interpolated ≡ b → Q (either b (k / 2) 1)
    go false e = g (λ z. zero-only-rows c z (one-row c e))
    go true e = half (ltb k 2) refl
      where
        half : (b : Bool) → ltb k 2 ≡ b → Q (k / 2)
        half true q = let z = ltb-true k 2 q in let o : k / 2 ≡ 0 = omega arith in rw o (f (two-rows c e))
        half false q = let z = ltb-false k 2 q in let o : k / 2 ≡ 1 = omega arith in rw o (g (λ w. absurd (omega (arith, (settled c).count, ap nat_z (zero-only-two c w)))))

-- of the LTP scale the low half is read
low-scale : (inv a b : ℤ) → wrap16 a ≡ wrap16 b → ltp_scaled_inv_gain inv a ≡ ltp_scaled_inv_gain inv b
unfolding ltp_scaled_inv_gain
low-scale inv a b e = rw e refl

-- ---- two calls
module _ (c d : Call) (x y p q : List ℤ) (h : Agree c x p d y q) where
  -- D
  delay-same : (l n : ℕ)
      → delay_by (voiced_by c.settings.signalType) l n (nat_z c.state.lagPrev) c.pitchL
      ≡ delay_by (voiced_by c.settings.signalType) l n (nat_z d.state.lagPrev) d.pitchL
  unfolding delay_by voiced_by
  delay-same l n =
      either_same (same_z c.settings.signalType (pos 2)) _ _ _ _ (λ v. ap (voiced_delay l n) (h.lags (is-voiced c v)))
      (λ v. ap (λ (z : ℤ). quiet_delay l (nat_z z)) (h.lagPrev (not-voiced c v)))

  -- all counts
  pub given-same : given_of d ≡ other_of c d
  unfolding given_by
  given-same =
      rw (
        ← h.subfr_length,
        ← h.nb_subfr,
        ← h.predictLPCOrder,
        ← h.shapingLPCOrder,
        ← h.nStatesDelayedDecision,
        ← h.signalType,
        ← h.quantOffsetType,
        ← h.NLSFInterpCoef_Q2,
        ← h.Seed,
        ← h.Lambda_Q10,
        ← delay-same (nat_z c.settings.subfr_length) (nat_z c.settings.nb_subfr),
      ) refl

  -- the lag of subframe k
  lag-same : (k : ℕ) → lag_of c k ≡ lag_by (other_of c d) d.pitchL k
  unfolding lag_by
  lag-same k =
      either_same (given_of c).voiced _ _ _ _ (λ v. ap (λ (r : List ℤ). nat_z (word r k)) (h.lags (voiced-is c v)))
      (λ v. (settled c).lagPrev ∙ ap nat_z (h.lagPrev (quiet_is c v)))

  -- its scalars
  pub fix-same : (k : ℕ) → fix_of c k ≡ fix_by (other_of c d) d.pitchL d.LF_shp_Q14 d.Gains_Q16 k
  unfolding fix_by
  fix-same k =
      rw (← lag-same k, since-other (given_of c) d.settings.warping_Q16 d.settings.LTP_scale_Q14 (nat_z d.state.lagPrev) k, ← h.lf, ← h.gains) refl

  -- what a rewhitened work row is multiplied by
  pub inv-same : (gain : ℤ) (k : ℕ) → rewhites_by (given_of c) k ≡ true → white_by (given_of c) gain k ≡ white_by (other_of c d) gain k
  unfolding white_by
  inv-same gain k e =
      either_same (eqb k 0) _ _ _ _
      (λ z. low-scale (inv_gain_Q31 gain) (given_of c).LTP_scale_Q14 d.settings.LTP_scale_Q14
      (ap wrap16 (settled c).scale ∙ h.scale (voiced-is c (rewhites-voiced (given_of c) k e))))
      (λ z. refl)

  -- its prediction coefficients
  pred-same : Ready c x p → (k : ℕ) → k < count_of c → (j : ℕ) → j < (given_of c).predictLPCOrder
      → word c.PredCoef_Q12 (row_by (given_of c) k * 16 + j) ≡ word d.PredCoef_Q12 (row_by (given_of c) k * 16 + j)
  pred-same r k b j o =
      row_is c k (λ (i : ℕ). word c.PredCoef_Q12 (i * 16 + j) ≡ word d.PredCoef_Q12 (i * 16 + j)) b r.sound.few
      (λ v. simp (zero-mul, zero-add) (h.pred0 v j (omega (arith, (settled c).order)))) (λ v. simp one-mul (h.pred1 v j (omega (arith, (settled c).order))))

  -- the harmonic gains count where there is a lag
  harm-same : (k : ℕ) → 0 < lag_of c k → c.HarmShapeGain_Q14 ≡ d.HarmShapeGain_Q14
  unfolding lag_by
  harm-same k e = go (given_of c).voiced refl e
    where
      go : (v : Bool) → (given_of c).voiced ≡ v → 0 < either v (nat_z (word c.pitchL k)) (given_of c).lagPrev → c.HarmShapeGain_Q14 ≡ d.HarmShapeGain_Q14
      go true v b = h.harm (λ z. no-lag-quiet c z (voiced-is c v))
      go false v b = h.harm (λ z. absurd (omega (arith, (settled c).lagPrev, ap nat_z (no-lag-zero c z))))

  -- all that is read of its rows
  pub rows_same : Ready c x p → (k : ℕ) → k < count_of c
      → RowsSame (fix_of c k) (rows_of c k) (rows_by (other_of c d) d.PredCoef_Q12 d.LTPCoef_Q14 d.AR_Q13 d.Tilt_Q14 d.HarmShapeGain_Q14 k)
  unfolding fix_by rows_by halves_by row_by
  rows_same r k b =
      record {
        a = λ j o.
            let i : j < 16 = omega (arith, r.sound.order16) in
            part-word 16 (row_by (given_of c) k * 16) c.PredCoef_Q12 j i ∙ pred-same r k b j o ∙ sym (part-word 16 (row_by (given_of c) k * 16) d.PredCoef_Q12 j i);
        ten = r.sound.order10;
        ar = λ j o.
            let i : j < 24 = omega (arith, r.sound.shaping24) in
            part-word 24 (k * 24) c.AR_Q13 j i ∙ h.ar k j (omega (arith, (settled c).count)) (omega (arith, (settled c).shaping)) ∙ sym (part-word 24 (k * 24) d.AR_Q13 j i);
        one = let z = r.sound.shaping2 in omega arith;
        b = λ v. ap (λ (l : List ℤ). take 5 (drop (k * 5) l)) (h.ltp (voiced-is c v));
        warping = ap wrap16 (settled c).warping ∙ h.warping;
        tilt = h.tilt.words k (let z = r.tilts in omega arith);
        harm = λ o. ap (λ (l : List ℤ). packed_gain (word l k)) (harm-same k o);
      }
