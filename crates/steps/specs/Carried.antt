-- Request E9: each path carries all pulses that it chose in this frame, and they are copied with the path. The Rust has no such rows; they stand beside
-- its run, which is that of specs/Turn.antt to specs/Frame.antt, and change nothing in it. What a path notes at a sample is a parameter: the pulse
-- that it chose is what the code carries, and what else is said of a path's past is said by another note. Assumes nothing.
use Rattle.std.specs.Prelude.{ℕ, ◌+◌, List, [], get_or, set, replicate, ℤ}
use Rattle.fixed.specs.Iter.{iter, either}
use Rattle.silk.specs.State.{zeros}
use Rattle.noise.specs.Output.{pulse_of}
use Rattle.path.specs.declared.structs.Candidate.{Candidate}
use Rattle.path.specs.declared.structs.Fix.{Fix}
use Rattle.path.specs.declared.structs.Swap.{Swap}
use Rattle.path.specs.Data.{Running, Rows, ring_q, ring_at}
use Rattle.winner.specs.Winner.{least_of}
use Rattle.penalty.specs.Penalty.{penalised}
use Rattle.places.specs.Places.{down, delayed}
use Rattle.steps.specs.declared.structs.Given.{Given}
use Rattle.steps.specs.declared.structs.Prior.{Prior}
use Rattle.steps.specs.Among.{Rule, swap_of}
use Rattle.steps.specs.Each.{moves, pairs}
use Rattle.steps.specs.Shared.{common}
use Rattle.steps.specs.Turn.{turn}
use Rattle.steps.specs.Call.{Call, given_of, fix_by, rows_by}
use Rattle.steps.specs.Frame.{Framed, start, before, prior_by, run_by}

-- ---- who becomes whose copy at a sample: the values that `settled` computes
-- the candidates of all paths at sample i
unfoldable pub candidates_at : Fix → Rows → List ℤ → ℕ → Running → List (List Candidate)
candidates_at f v x i t =
    pairs f v.a (common f v x i t) i t.core.smpl_buf_idx (moves f v.half v.ar t.core.ps.owns) t.core.ps.lpcs t.core.ps.rings

-- .. with the penalties
unfoldable pub fined_at : Fix → Rows → List ℤ → ℕ → Running → List (List Candidate)
fined_at f v x i t =
    penalised (candidates_at f v x i t) t.core.ps.rings f.nStates (least_of (candidates_at f v x i t) 0 f.nStates) (delayed f (down t.core.smpl_buf_idx))

-- which path is replaced by which, from the candidates c and the rings on; `last` is the place at the delay
abbrev pub swap_from : List (List Candidate) → List (List (List ℤ)) → ℕ → ℕ → Swap
swap_from c rings n last = swap_of (penalised c rings n (least_of c 0 n) last) n

-- .. at sample i
unfoldable pub swap_at : Fix → Rows → List ℤ → ℕ → Running → Swap
swap_at f v x i t = swap_of (fined_at f v x i t) f.nStates

-- ---- what a path notes
-- what path k notes at a sample: by the frame in work before it, the replacement, and the frame in work after it
abbrev pub Note : Type 0
Note = Running → Swap → Running → ℕ → ℤ

-- Q_Q10 of path k at smpl_buf_idx: the level that it took at the sample coded last
abbrev pub level_of : Running → ℕ → ℤ
level_of t k = ring_at t.core.ps.rings k ring_q t.core.smpl_buf_idx

-- the pulse that it chose
abbrev pub chosen : Note
chosen t s u k = pulse_of (level_of u k)

-- ---- one sample
-- row `to` becomes a copy of row `by`, where there is a replacement
unfoldable pub copied_row : Swap → List (List ℤ) → List (List ℤ)
copied_row s rows = either s.yes (set rows s.to (get_or rows s.by [])) rows

-- row k with a word at place g
abbrev pub note_turn : ℕ → (ℕ → ℤ) → ℕ → List (List ℤ) → List (List ℤ)
note_turn g value k rows = set rows k (set (get_or rows k []) g (value k))

-- n rows with a word at place g
unfoldable pub noted : ℕ → ℕ → (ℕ → ℤ) → List (List ℤ) → List (List ℤ)
noted n g value rows = iter (note_turn g value) n rows

-- .. with the pulse of the level that each path's ring has at place r
abbrev pub pulses_noted : ℕ → ℕ → ℕ → List (List (List ℤ)) → List (List ℤ) → List (List ℤ)
pulses_noted n g r rings rows = noted n g (λ k. pulse_of (ring_at rings k ring_q r)) rows

-- the rows after sample i of a subframe, t the frame in work before it: first the copy, then one word more each, at the sample's place in the frame
unfoldable pub carry_turn : Note → Rule → Fix → Rows → List ℤ → ℕ → Running → List (List ℤ) → List (List ℤ)
carry_turn note rule f v x i t rows =
    noted f.nStates (f.base + i) (note t (swap_at f v x i t) (turn rule f v x i t)) (copied_row (swap_at f v x i t) rows)

-- ---- a subframe, all subframes
-- sample i of a subframe whose samples begin at t
abbrev pub carry_at : Note → Rule → Fix → Rows → List ℤ → Running → ℕ → List (List ℤ) → List (List ℤ)
carry_at note rule f v x t i rows = carry_turn note rule f v x i (iter (turn rule f v x) i t) rows

-- l samples of it
unfoldable pub carried_in : Note → Rule → Fix → Rows → List ℤ → Running → ℕ → List (List ℤ) → List (List ℤ)
carried_in note rule f v x t l rows = iter (carry_at note rule f v x t) l rows

-- a subframe: the flush, the rewhitening and the change of gain before it leave the rows as they are
unfoldable pub carry_step : Note → Rule → Fix → Rows → List ℤ → Prior → Framed → List (List ℤ) → List (List ℤ)
carry_step note rule f v x p t rows =
    carried_in note rule f v x (before p.again p.rewhite f v.a p.gain1 p.inv t.prev_gain_Q16 t.run t.sLTP).run f.subfr_length rows

-- subframe k, by what is given and the rows of the call
unfoldable pub carry_by : Note → Rule → Given → List ℤ → List ℤ → List ℤ → List ℤ → List ℤ → List ℤ → List ℤ → List ℤ → List ℤ → ℕ → Framed → List (List ℤ)
    → List (List ℤ)
carry_by note rule g x pred ltp ar tilt harm lf gains lags k t rows =
    carry_step note rule (fix_by g lags lf gains k) (rows_by g pred ltp ar tilt harm k) x (prior_by g gains k) t rows

-- .. of a frame that begins at t
abbrev pub carry_from : Note → Rule → Given → List ℤ → List ℤ → List ℤ → List ℤ → List ℤ → List ℤ → List ℤ → List ℤ → List ℤ → Framed → ℕ → List (List ℤ)
    → List (List ℤ)
carry_from note rule g x pred ltp ar tilt harm lf gains lags t k rows =
    carry_by note rule g x pred ltp ar tilt harm lf gains lags k (run_by rule g x pred ltp ar tilt harm lf gains lags k t) rows

-- n subframes
unfoldable pub carried_by : Note → Rule → Given → List ℤ → List ℤ → List ℤ → List ℤ → List ℤ → List ℤ → List ℤ → List ℤ → List ℤ → ℕ → Framed
    → List (List ℤ)
    → List (List ℤ)
carried_by note rule g x pred ltp ar tilt harm lf gains lags n t rows = iter (carry_from note rule g x pred ltp ar tilt harm lf gains lags t) n rows

-- the rows before the first sample: four, each with room for a frame's 320 words
unfoldable pub no_rows : List (List ℤ)
no_rows = replicate 4 (zeros 320)

-- the rows after k subframes of a call
abbrev pub carried_of : Note → Rule → Call → List ℤ → List ℤ → ℕ → List (List ℤ)
carried_of note rule c x out k =
    carried_by note rule (given_of c) x c.PredCoef_Q12 c.LTPCoef_Q14 c.AR_Q13 c.Tilt_Q14 c.HarmShapeGain_Q14 c.LF_shp_Q14
    c.Gains_Q16
    c.pitchL
    k
    (start c out)
    no_rows
