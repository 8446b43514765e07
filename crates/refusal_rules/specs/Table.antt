-- When a call is refused, and with which answer: the tables of docs/RULES.md, "What a call is given" and "Which number comes
-- back", row by row. Every number is a whole number of any size and sign; a row's words are a list. What that text calls
-- L and n are `l` and `n` here, N is n times L.
-- Assumes nothing.
use Rattle.std.specs.Prelude.{ℕ, ◌*◌, Bool, false, not, ◌||◌, List, [], ◌∷◌, get_or, length, ℤ, eqb, Err}
use Rattle.fixed.specs.Iter.{either}
use Rattle.silk.specs.declared.structs.Settings.{Settings}
use Rattle.limits.specs.Count.{nat_z}
use Rattle.limits.specs.Tests.{lengths_refused, orders_refused, paths_refused, kinds_refused, gains_refused, lags_refused}
use Rattle.refusal_rules.specs.declared.answer.Refusal.TheVariants.{Lengths, Orders, Paths, Kinds, Rows, Gains, Lags}
use Rattle.refusal_rules.specs.declared.answer.Sizes.{Sizes}
use Rattle.refusal_rules.specs.Code.{Answer, Accepted}

-- two lengths differ
abbrev pub another : ℕ → ℕ → Bool
another have want = not (eqb have want)

-- ---- Number 5: a row has another length
-- the five rows with one word for each of the n subframes
unfoldable pub each_refused : ℕ → Sizes → ℕ → ℕ → Bool
each_refused n z gains lags = another z.harm_gain n || another z.tilt n || another z.lf n || another gains n || another lags n

-- samples N, PredCoef 32, LTPCoef 5n, AR 24n, pulses N, and those five
unfoldable pub rows_refused : ℤ → ℤ → Sizes → ℕ → ℕ → Bool
rows_refused l n z gains lags =
    another z.samples (nat_z n * nat_z l)
    || another z.pred_coef 32
    || another z.ltp_coef (5 * nat_z n)
    || another z.ar (24 * nat_z n)
    || another z.pulses (nat_z n * nat_z l)
    || each_refused (nat_z n) z gains lags

-- ---- The table
-- place k says whether number k applies; place 0 is no refusal
unfoldable pub table : Settings → Sizes → ℤ → ℤ → List ℤ → List ℤ → List Bool
table s z lagPrev prev_gain_Q16 gains lags =
    false
    ∷ lengths_refused s.subfr_length s.nb_subfr
    ∷ orders_refused s.subfr_length s.predictLPCOrder s.shapingLPCOrder
    ∷ paths_refused s.nStatesDelayedDecision
    ∷ kinds_refused s.signalType s.quantOffsetType s.NLSFInterpCoef_Q2 s.Seed
    ∷ rows_refused s.subfr_length s.nb_subfr z (length gains) (length lags)
    ∷ gains_refused prev_gain_Q16 gains
    ∷ lags_refused s.subfr_length s.signalType lagPrev lags
    ∷ []

-- does number k apply?
abbrev pub applies : Settings → Sizes → ℤ → ℤ → List ℤ → List ℤ → ℕ → Bool
applies s z lagPrev prev_gain_Q16 gains lags k = get_or (table s z lagPrev prev_gain_Q16 gains lags) k false

-- the answer with the lowest number that applies, else accepted
unfoldable pub answer_of : Settings → Sizes → ℤ → ℤ → List ℤ → List ℤ → Answer
answer_of s z lagPrev prev_gain_Q16 gains lags =
    let is = applies s z lagPrev prev_gain_Q16 gains lags in
    either (is 1) (Err Lengths)
    (either (is 2) (Err Orders)
    (either (is 3) (Err Paths)
    (either (is 4) (Err Kinds)
    (either (is 5) (Err Rows)
    (either (is 6) (Err Gains)
    (either (is 7) (Err Lags) Accepted))))))
