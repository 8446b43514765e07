-- The rows that each path carries, under two rules of replacement: they are the same for every note that reads no LPC word, and so is the report,
-- which is made of the pulses chosen. Assumes nothing.
use Prim.Native.Nat.{ℕ, ◌+◌, ◌*◌, ◌<◌}
use mathlib.Core.Path.{◌≡◌, refl, sym, ap, ap₂, ◌∙◌}
use mathlib.Core.List.{List, []}
use lib.IntN.{ℤ}
use Rattle.fixed.proofs.Iters.{iter-same}
use Rattle.path.specs.declared.structs.Path.{Path}
use Rattle.path.specs.declared.structs.Candidate.{Candidate}
use Rattle.path.specs.declared.structs.Fix.{Fix}
use Rattle.path.specs.declared.structs.Swap.{Swap}
use Rattle.path.specs.Data.{paths, Running, Rows}
use Rattle.winner.specs.Winner.{least_of}
use Rattle.penalty.specs.Penalty.{penalised}
use Rattle.places.specs.Places.{down, delayed}
use Rattle.steps.specs.declared.structs.Given.{Given}
use Rattle.steps.specs.declared.structs.Prior.{Prior}
use Rattle.steps.specs.Among.{Rule, swap_of}
use Rattle.steps.specs.Shared.{common}
use Rattle.steps.specs.Turn.{turn}
use Rattle.steps.specs.Subframe.{with_lpcs}
use Rattle.steps.specs.Call.{Call, given_of, length_of, count_of, paths_of, fix_by, rows_by}
use Rattle.steps.specs.Frame.{Framed, Done, prior_by}
use Rattle.steps.specs.Carried.{candidates_at, fined_at, swap_at, Note, chosen, copied_row, noted, carry_turn, carry_at, carried_in, carry_step, carry_by, carried_by, no_rows, carried_of}
use Rattle.steps.specs.Report.{differ, best_row, winners_row, frame_report}
use Rattle.full_copy.specs.Copy.{Copies}
use Rattle.full_copy.proofs.Windows.{Win}
use Rattle.full_copy.proofs.Sample.{pairs-win}
use Rattle.full_copy.proofs.Subframe.{with_paths, LpcRel, Ends, turn-win, turns-win}
use Rattle.full_copy.proofs.Frame.{FramedRel, prior-win, runs-win, run-win, frame-win}

-- ---- all but the LPC words
-- a frame in work without them
abbrev pub bare : Running → Running
bare t = with_lpcs t []

-- a note that reads no LPC word
abbrev pub NoLpc : Note → Type 0
NoLpc note = (t u : Running) (s : Swap) → note t s u ≡ note (bare t) s (bare u)

-- the pulse chosen is one
pub chosen-no-lpc : NoLpc chosen
chosen-no-lpc t u s = refl

-- what two runs have in common
bare-same : {n : ℕ} {W : List ℤ → List ℤ → Type 0} (t u : Running) → LpcRel n W t u → bare t ≡ bare u
bare-same t u w =
    ap₂ with_paths w.rest
    (ap₂ (λ (o : List Path) (z : List (List (List ℤ))). paths o [] z) w.ps.owns w.ps.rings)

-- ---- one sample
-- the same candidates, with the penalties too, and the same replacement
candidates-same : (f : Fix) (v : Rows) (x : List ℤ) (i : ℕ) (t u : Running) → LpcRel f.nStates (Win i (16 + i)) t u
    → candidates_at f v x i t ≡ candidates_at f v x i u
unfolding candidates_at common
candidates-same f v x i t u w =
    pairs-win f v.a _ i _ _ t.core.ps.lpcs u.core.ps.lpcs t.core.ps.rings w.ps.lpcs
    ∙ ap (λ (z : Running). candidates_at f v x i (with_lpcs z u.core.ps.lpcs)) (bare-same t u w)

fined-same : (f : Fix) (v : Rows) (x : List ℤ) (i : ℕ) (t u : Running) → LpcRel f.nStates (Win i (16 + i)) t u → fined_at f v x i t ≡ fined_at f v x i u
unfolding fined_at
fined-same f v x i t u w =
    ap₂ (λ (c : List (List Candidate)) (z : Running).
    penalised c z.core.ps.rings f.nStates (least_of c 0 f.nStates) (delayed f (down z.core.smpl_buf_idx)))
    (candidates-same f v x i t u w) (bare-same t u w)

swap-same : (f : Fix) (v : Rows) (x : List ℤ) (i : ℕ) (t u : Running) → LpcRel f.nStates (Win i (16 + i)) t u → swap_at f v x i t ≡ swap_at f v x i u
unfolding swap_at
swap-same f v x i t u w = ap (λ (c : List (List Candidate)). swap_of c f.nStates) (fined-same f v x i t u w)

-- the rows after it, with the replacement and what is noted as arguments of their own
carry_turn-by : (note : Note) (r : Rule) (f : Fix) (v : Rows) (x : List ℤ) (i : ℕ) (t : Running) (rows : List (List ℤ)) (s : Swap) (value : ℕ → ℤ)
    → swap_at f v x i t ≡ s → note t s (turn r f v x i t) ≡ value
    → carry_turn note r f v x i t rows ≡ noted f.nStates (f.base + i) value (copied_row s rows)
unfolding carry_turn
carry_turn-by note r f v x i t rows s value e k =
    ap (λ (z : Swap). noted f.nStates (f.base + i) (note t z (turn r f v x i t)) (copied_row z rows)) e
    ∙ ap (λ (z : ℕ → ℤ). noted f.nStates (f.base + i) z (copied_row s rows)) k

-- they are the same for a note that reads no LPC word
module _ (note : Note) (no_lpc : NoLpc note) (r r' : Rule) (g : Copies r) (g' : Copies r') where
  note-same : {n m : ℕ} {U W : List ℤ → List ℤ → Type 0} (t t' u u' : Running) (s : Swap) → LpcRel n U t t' → LpcRel m W u u' → note t s u ≡ note t' s u'
  note-same t t' u u' s w z =
      no_lpc t u s ∙ ap₂ (λ (a b : Running). note a s b) (bare-same t t' w) (bare-same u u' z) ∙ sym (no_lpc t' u' s)

  carry_turn-same : (f : Fix) (v : Rows) (x : List ℤ) → 0 < f.nStates → (i : ℕ) (t u : Running) (rows : List (List ℤ)) → LpcRel f.nStates (Win i (16 + i)) t u
      → carry_turn note r f v x i t rows ≡ carry_turn note r' f v x i u rows
  carry_turn-same f v x n0 i t u rows w =
      let s = swap_at f v x i u in
      let value = note u s (turn r' f v x i u) in
      carry_turn-by note r f v x i t rows s value (swap-same f v x i t u w)
      (note-same t u (turn r f v x i t) (turn r' f v x i u) s w (turn-win r r' g g' f v x n0 i t u w))
      ∙ sym (carry_turn-by note r' f v x i u rows s value refl refl)

  -- ---- a subframe, all subframes: the rows are the same if the frames in work before it are in the relation
  carried_in-same : (f : Fix) (v : Rows) (x : List ℤ) → 0 < f.nStates → (t u : Running) (l : ℕ) (rows : List (List ℤ)) → LpcRel f.nStates (Win 0 16) t u
      → carried_in note r f v x t l rows ≡ carried_in note r' f v x u l rows
  unfolding carried_in
  carried_in-same f v x n0 t u l rows w =
      iter-same (carry_at note r f v x t) (carry_at note r' f v x u) l rows
      (λ i h z. carry_turn-same f v x n0 i _ _ z (turns-win r r' g g' f v x n0 i t u w))

  carry_step-same : (f : Fix) (v : Rows) (x : List ℤ) (p : Prior) → 0 < f.nStates → (t u : Framed) (rows : List (List ℤ))
      → FramedRel f.nStates (Ends f.subfr_length) t u → carry_step note r f v x p t rows ≡ carry_step note r' f v x p u rows
  unfolding carry_step
  carry_step-same f v x p n0 t u rows w =
      carried_in-same f v x n0 _ _ f.subfr_length rows (prior-win p.again p.rewhite f v.a p.gain1 p.inv t u w).run

  carry_by-same : (c : Given) (x pred ltp ar tilt harm lf gains lags : List ℤ) (k : ℕ) → 0 < c.nStates → (t u : Framed) (rows : List (List ℤ))
      → FramedRel c.nStates (Ends c.subfr_length) t u
      → carry_by note r c x pred ltp ar tilt harm lf gains lags k t rows ≡ carry_by note r' c x pred ltp ar tilt harm lf gains lags k u rows
  unfolding carry_by fix_by
  carry_by-same c x pred ltp ar tilt harm lf gains lags k n0 t u rows w =
      carry_step-same (fix_by c lags lf gains k) (rows_by c pred ltp ar tilt harm k) x (prior_by c gains k) n0 t u rows w

  -- the rows after n subframes of a call
  pub carried_same : (c : Call) (x out : List ℤ) (n : ℕ) → 0 < paths_of c → carried_of note r c x out n ≡ carried_of note r' c x out n
  unfolding carried_by
  carried_same c x out n n0 =
      iter-same _ _ n no_rows
      (λ k h rows. carry_by-same (given_of c) x c.PredCoef_Q12 c.LTPCoef_Q14 c.AR_Q13 c.Tilt_Q14 c.HarmShapeGain_Q14 c.LF_shp_Q14 c.Gains_Q16
      c.pitchL k n0 _ _ rows (runs-win r r' g g' c x out n0 k))

  -- the final winner's row
  pub winners_row-same : (c : Call) (x out : List ℤ) → 0 < paths_of c → winners_row note r c x out ≡ winners_row note r' c x out
  unfolding winners_row
  winners_row-same c x out n0 =
      ap₂ (λ (o : List Path) (rows : List (List ℤ)). best_row o (paths_of c) rows) (run-win r r' g g' c x out n0).run.ps.owns (carried_same c x out (count_of c) n0)

-- ---- the report of an accepted call
pub frame_report-same : (r r' : Rule) → Copies r → Copies r' → (c : Call) (x out : List ℤ) → 0 < paths_of c → frame_report r c x out ≡ frame_report r' c x out
unfolding frame_report
frame_report-same r r' g g' c x out n0 =
    ap₂ (λ (d : Done) (row : List ℤ). differ d.pulses row (count_of c * length_of c)) (frame-win r r' g g' c x out n0)
    (winners_row-same chosen chosen-no-lpc r r' g g' c x out n0)
