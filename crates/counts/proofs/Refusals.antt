-- Calls that agree in what counts get the same number, whatever it is. Assumes nothing.
use mathlib.Core.Path.{◌≡◌, refl, ap, ◌∙◌}
use mathlib.Core.Bool.{◌||◌}
use mathlib.Core.List.{List}
use lib.IntN.{ℤ, pos}
use Rattle.limits.specs.Count.{same_z}
use Rattle.limits.specs.Tests.{quiet_lag_refused, some_lag, last_of, lags_refused}
use Rattle.refusal_rules.specs.Table.{table, answer_of}
use Rattle.steps.specs.Call.{Call}
use Rattle.steps.specs.Entry.{answered}
use Rattle.steps.specs.Sizes.{sizes_of}
use Rattle.counts.specs.Agree.{Agree}
use Rattle.counts.proofs.Conditions.{is-voiced, not-voiced}
use Rattle.counts.proofs.Rows.{either_same}

module _ (c d : Call) (x y p q : List ℤ) (h : Agree c x p d y q) where
  -- ---- the lengths of all rows
  sizes-same : sizes_of c x p ≡ sizes_of d y q
  unfolding sizes_of
  sizes-same = rw (h.samples, h.pred_long, h.ltp_long, h.ar_long, h.harm_long, h.tilt.long, h.lf, h.pulses_long) refl

  -- ---- the lags
  lags-same : lags_refused c.settings.subfr_length c.settings.signalType c.state.lagPrev c.pitchL
      ≡ lags_refused d.settings.subfr_length d.settings.signalType d.state.lagPrev d.pitchL
  unfolding lags_refused
  lags-same =
      rw (← h.subfr_length, ← h.signalType)
      (either_same (same_z c.settings.signalType (pos 2)) _ _ _ _
      (λ v. ap (some_lag c.settings.subfr_length) (h.lags (is-voiced c v)))
      (λ v.
      ap (λ (z : ℤ). quiet_lag_refused c.settings.subfr_length z || quiet_lag_refused c.settings.subfr_length (last_of c.pitchL)) (h.lagPrev (not-voiced c v))
      ∙ ap (λ (z : ℤ). quiet_lag_refused c.settings.subfr_length d.state.lagPrev || quiet_lag_refused c.settings.subfr_length z) h.last))

  -- ---- the table, and the answer
  pub answer-same : answered c x p ≡ answered d y q
  unfolding answered answer_of table
  answer-same =
      rw (
        sizes-same,
        lags-same,
        h.subfr_length,
        h.nb_subfr,
        h.predictLPCOrder,
        h.shapingLPCOrder,
        h.nStatesDelayedDecision,
        h.signalType,
        h.quantOffsetType,
        h.NLSFInterpCoef_Q2,
        h.Seed,
        h.gains,
        h.state.gain,
        h.lags_long,
      ) refl
