-- A call with every number cleared that doesn't count: docs/RULES.md, "What counts", down its list in its order, by the same tests as
-- `counts:Agree`. A number that doesn't count is 0; one that counts in its low 16 bits becomes the number that those bits are with their sign. The
-- state stays, and so does the length of each row. Every call has its cleaned call, good or not. Assumes nothing.
use Rattle.std.specs.Prelude.{ℕ, suc, ◌-◌, ◌%◌, ◌≡◌, Bool, not, ◌&&◌, ◌||◌, List, [], ◌∷◌, length, ℤ, pos, eqb, leb, ltb}
use Rattle.fixed.specs.Iter.{either}
use Rattle.fixed.specs.Wrap.{wrap16}
use Rattle.silk.specs.declared.structs.Settings.{Settings}
use Rattle.limits.specs.Count.{nat_z}
use Rattle.steps.specs.Call.{Call, call_of}
use Rattle.counts.specs.Conditions.{voiced, one_row, row_zero_only, no_lag}

-- ---- rows, place by place
-- f at each place; the first is place i
unfoldable pub placed : (ℕ → ℤ → ℤ) → ℕ → List ℤ → List ℤ
placed f i [] = []
placed f i (z ∷ zs) = f i z ∷ placed f (suc i) zs

-- a number that counts, else 0
unfoldable pub kept_if : Bool → ℤ → ℤ
kept_if counts z = either counts z (pos 0)

-- a row whose numbers are kept at the places that count; the first is place 0
unfoldable pub kept_at : (ℕ → Bool) → List ℤ → List ℤ
kept_at counts row = placed (λ i z. kept_if (counts i) z) 0 row

-- a row of the low 16 bits of its numbers, with their sign
unfoldable pub low_row : List ℤ → List ℤ
low_row row = placed (λ i z. wrap16 z) 0 row

-- ---- PredCoef: not the slots from the order on, not row 0 when interpolation is 4, not row 1 when n is 2 and interpolation is not 4
-- place i as a slot of row 0
unfoldable pub row0_counts : Settings → ℕ → Bool
row0_counts s i = not (one_row s) && ltb i (nat_z s.predictLPCOrder)

-- as a slot of row 1, which begins at place 16
unfoldable pub row1_counts : Settings → ℕ → Bool
row1_counts s i = not (row_zero_only s) && (leb 16 i && ltb (i - 16) (nat_z s.predictLPCOrder))

-- as either
unfoldable pub pred_counts : Settings → ℕ → Bool
pred_counts s i = row0_counts s i || row1_counts s i

-- ---- AR: not the slots from the shaping order on, in each subframe's 24
unfoldable pub ar_counts : Settings → ℕ → Bool
ar_counts s i = ltb (i % 24) (nat_z s.shapingLPCOrder)

-- ---- not voiced: not LTPCoef, not the LTP scale, no lag but the last; with lagPrev 0 too, not the harmonic gains
unfoldable pub ltp_counts : Settings → ℕ → Bool
ltp_counts s i = voiced s

-- place i of m lags
unfoldable pub lag_counts : Settings → ℕ → ℕ → Bool
lag_counts s m i = voiced s || eqb (suc i) m

-- all of them, or none
unfoldable pub harm_counts : Settings → ℤ → ℕ → Bool
harm_counts s lagPrev i = not (no_lag s lagPrev)

-- ---- not the bits from 16 up of warping, tilt and LTP scale
unfoldable pub cleaned_settings : Settings → Settings
cleaned_settings s =
    record {
      subfr_length = s.subfr_length;
      nb_subfr = s.nb_subfr;
      predictLPCOrder = s.predictLPCOrder;
      shapingLPCOrder = s.shapingLPCOrder;
      nStatesDelayedDecision = s.nStatesDelayedDecision;
      warping_Q16 = wrap16 s.warping_Q16;
      signalType = s.signalType;
      quantOffsetType = s.quantOffsetType;
      NLSFInterpCoef_Q2 = s.NLSFInterpCoef_Q2;
      Seed = s.Seed;
      Lambda_Q10 = s.Lambda_Q10;
      LTP_scale_Q14 = kept_if (voiced s) (wrap16 s.LTP_scale_Q14);
    }

-- ---- the call
unfoldable pub cleaned : Call → Call
cleaned c =
    call_of (cleaned_settings c.settings) c.state
    (kept_at (pred_counts c.settings) c.PredCoef_Q12)
    (kept_at (ltp_counts c.settings) c.LTPCoef_Q14)
    (kept_at (ar_counts c.settings) c.AR_Q13)
    (kept_at (harm_counts c.settings c.state.lagPrev) c.HarmShapeGain_Q14)
    (low_row c.Tilt_Q14)
    c.LF_shp_Q14
    c.Gains_Q16
    (kept_at (lag_counts c.settings (length c.pitchL)) c.pitchL)

-- ---- two calls, c with samples x and d with samples y, that hold the same numbers: all that the ten sections of a sheet hold
pub record SameNumbers (c : Call) (x : List ℤ) (d : Call) (y : List ℤ) : Type 0 where
  pub settings : c.settings ≡ d.settings
  pub samples : x ≡ y
  pub pred : c.PredCoef_Q12 ≡ d.PredCoef_Q12
  pub ltp : c.LTPCoef_Q14 ≡ d.LTPCoef_Q14
  pub ar : c.AR_Q13 ≡ d.AR_Q13
  pub harm : c.HarmShapeGain_Q14 ≡ d.HarmShapeGain_Q14
  pub tilt : c.Tilt_Q14 ≡ d.Tilt_Q14
  pub lf : c.LF_shp_Q14 ≡ d.LF_shp_Q14
  pub gains : c.Gains_Q16 ≡ d.Gains_Q16
  pub lags : c.pitchL ≡ d.pitchL
