-- What `sheet` printed before request E3; and first frames that are computed whole (proofs/Computed.antt): silence as a sheet, and two frames that are
-- not voiced and have harmonic gains. Assumes nothing.
use Rattle.std.specs.Prelude.{ℕ, List, [], ◌∷◌, replicate, ℤ, pos, negsuc}
use Rattle.silk.specs.State.{zeros, fresh_state}
use Rattle.silk.specs.declared.structs.Settings.{Settings}
use Rattle.steps.specs.Among.{Rule, keeps_first}
use Rattle.steps.specs.Call.{Call, call_of}
use Rattle.steps.specs.Entry.{Outcome, outcome}
use Rattle.sheet_text.specs.Text.{accepted_text}
use Rattle.sheet_page.specs.Calls.{settings_in, samples_in, sheet_call, defaulted, pulses_for}
use Rattle.sheet_page.specs.Page.{outcome_text}
use Rattle.cleaning.specs.Cleaned.{cleaned}
use Rattle.clean_page.specs.Sheets.{sections_of}
use Rattle.fresh_lag.specs.Lags.{first_before}

-- ---- sheets
-- what came of a readable sheet's call before request E3
unfoldable pub outcome_before : Rule → List (List ℤ) → Outcome
outcome_before rule rows = outcome rule (first_before (defaulted (sheet_call rows))) (samples_in rows) (pulses_for (settings_in rows))

-- .. and what `sheet` printed for it
unfoldable pub text_before : Rule → List (List ℤ) → List ℕ
text_before rule rows = outcome_text (outcome_before rule rows)

-- the ten sections that `clean` made of a sheet's before request E3
unfoldable pub cleaned_before : List (List ℤ) → List (List ℤ)
cleaned_before rows = sections_of (cleaned (first_before (sheet_call rows))) (samples_in rows)

-- ---- the silence of docs/RULES.md
-- its ten sections
unfoldable pub silence : List (List ℤ)
silence =
    (pos 40 ∷ pos 2 ∷ pos 10 ∷ pos 2 ∷ pos 1 ∷ pos 0 ∷ pos 0 ∷ pos 0 ∷ pos 4 ∷ pos 0 ∷ pos 0 ∷ pos 0 ∷ [])
    ∷ zeros 80
    ∷ zeros 32
    ∷ zeros 10
    ∷ zeros 48
    ∷ zeros 2
    ∷ zeros 2
    ∷ zeros 2
    ∷ replicate 2 (pos 65536)
    ∷ zeros 2
    ∷ []

-- what `sheet` prints for it, before request E3 and since: `answer 0`, `seed 0`, and four lines of twenty `0`
unfoldable pub silence_text : List ℕ
silence_text = accepted_text (pos 0) (zeros 80)

-- ---- two frames with L 40 and n 4, not voiced, in which the lag of the fresh state is heard
-- L 40, n 4, prediction order 10, shaping order 2, so many paths, interpolation 4, all else 0
unfoldable pub quiet_settings : ℤ → Settings
quiet_settings paths =
    record {
      subfr_length = pos 40;
      nb_subfr = pos 4;
      predictLPCOrder = pos 10;
      shapingLPCOrder = pos 2;
      nStatesDelayedDecision = paths;
      warping_Q16 = pos 0;
      signalType = pos 0;
      quantOffsetType = pos 0;
      NLSFInterpCoef_Q2 = pos 4;
      Seed = pos 0;
      Lambda_Q10 = pos 0;
      LTP_scale_Q14 = pos 0;
    }

-- in each subframe the same harmonic gain and the same gain, every other row 0
unfoldable pub quiet_call : ℤ → ℤ → ℤ → Call
quiet_call paths harm gain =
    call_of (quiet_settings paths) fresh_state (zeros 32) (zeros 20) (zeros 96) (replicate 4 harm) (zeros 4) (zeros 4) (replicate 4 gain) (zeros 4)

-- one path, harmonic gains of 16000, gains of 3 in Q16
unfoldable pub one_path : Call
one_path = quiet_call (pos 1) (pos 16000) (pos 196608)

-- its samples: 160 times 4
unfoldable pub one_path_samples : List ℤ
one_path_samples = replicate 160 (pos 4)

-- four paths, harmonic gains of 32767, the same gains
unfoldable pub four_paths : Call
four_paths = quiet_call (pos 4) (pos 32767) (pos 196608)

-- its samples, on which the paths part
unfoldable pub four_paths_samples : List ℤ
four_paths_samples =
    negsuc 3 ∷ pos 4 ∷ pos 6 ∷ pos 8 ∷ negsuc 1 ∷ pos 2 ∷ pos 8 ∷ pos 2 ∷ negsuc 7 ∷ pos 2 ∷ negsuc 1 ∷ pos 2 ∷ negsuc 1 ∷ negsuc 3 ∷ pos 6 ∷ pos 8 ∷
    negsuc 3 ∷ pos 0 ∷ negsuc 1 ∷ pos 2 ∷ negsuc 5 ∷ negsuc 5 ∷ pos 6 ∷ pos 4 ∷ negsuc 7 ∷ pos 0 ∷ pos 4 ∷ pos 4 ∷ pos 8 ∷ negsuc 3 ∷ negsuc 5 ∷ pos 6 ∷
    pos 8 ∷ pos 0 ∷ negsuc 3 ∷ pos 4 ∷ pos 4 ∷ negsuc 1 ∷ negsuc 5 ∷ pos 0 ∷ negsuc 1 ∷ negsuc 5 ∷ pos 0 ∷ negsuc 1 ∷ negsuc 5 ∷ pos 0 ∷ pos 2 ∷ pos 2 ∷
    negsuc 3 ∷ pos 8 ∷ pos 6 ∷ negsuc 1 ∷ negsuc 3 ∷ negsuc 5 ∷ negsuc 5 ∷ pos 2 ∷ pos 2 ∷ negsuc 1 ∷ pos 2 ∷ negsuc 1 ∷ negsuc 3 ∷ pos 8 ∷ negsuc 3 ∷ negsuc 3 ∷
    pos 4 ∷ negsuc 3 ∷ negsuc 3 ∷ negsuc 1 ∷ negsuc 7 ∷ negsuc 5 ∷ pos 8 ∷ pos 8 ∷ negsuc 5 ∷ pos 8 ∷ pos 6 ∷ negsuc 1 ∷ negsuc 5 ∷ negsuc 5 ∷ pos 4 ∷ negsuc 5 ∷
    negsuc 1 ∷ pos 0 ∷ pos 4 ∷ pos 6 ∷ negsuc 7 ∷ pos 4 ∷ pos 8 ∷ negsuc 5 ∷ pos 4 ∷ negsuc 7 ∷ pos 6 ∷ pos 4 ∷ pos 0 ∷ negsuc 5 ∷ negsuc 3 ∷ pos 8 ∷
    pos 4 ∷ pos 8 ∷ negsuc 5 ∷ negsuc 5 ∷ negsuc 1 ∷ pos 4 ∷ pos 6 ∷ pos 4 ∷ pos 8 ∷ pos 2 ∷ pos 6 ∷ negsuc 7 ∷ pos 2 ∷ negsuc 3 ∷ negsuc 7 ∷ pos 2 ∷
    negsuc 5 ∷ negsuc 3 ∷ negsuc 7 ∷ pos 8 ∷ pos 2 ∷ pos 8 ∷ negsuc 7 ∷ pos 0 ∷ negsuc 3 ∷ negsuc 1 ∷ negsuc 3 ∷ pos 2 ∷ pos 4 ∷ negsuc 5 ∷ negsuc 3 ∷ negsuc 7 ∷
    pos 4 ∷ pos 4 ∷ pos 0 ∷ pos 8 ∷ negsuc 1 ∷ pos 8 ∷ pos 0 ∷ negsuc 1 ∷ pos 4 ∷ negsuc 1 ∷ negsuc 3 ∷ negsuc 1 ∷ pos 6 ∷ negsuc 1 ∷ negsuc 1 ∷ pos 8 ∷
    pos 8 ∷ negsuc 5 ∷ pos 4 ∷ pos 4 ∷ negsuc 3 ∷ pos 0 ∷ negsuc 3 ∷ negsuc 5 ∷ pos 8 ∷ negsuc 7 ∷ pos 0 ∷ pos 8 ∷ negsuc 5 ∷ pos 2 ∷ pos 6 ∷ pos 4 ∷ []

-- the pulses of a call with 160 samples, by the Rust's rule
abbrev pub pulses_of : Call → List ℤ → List ℤ
pulses_of c x = (outcome keeps_first c x (zeros 160)).pulses
