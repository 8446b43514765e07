-- A sample reads the first coefficients of its rows up to the order, the first shaping slots up to the shaping order, and the low 16 bits of warping
-- and tilt. Assumes nothing.
use Prim.Native.Nat.{ℕ, ◌+◌, ◌-◌, ◌/◌, ◌<◌, ◌≤◌}
use native.Mathlib.Omega.{arith}
use mathlib.Core.Path.{◌≡◌, refl, ap, ◌∙◌}
use mathlib.Core.Bool.{true}
use mathlib.Core.List.{List, []}
use lib.ListN.{get_or, replicate}
use lib.IntN.{ℤ, pos}
use lib.Dec.{eqb}
use borrow.Author.Tests.{eqb-true}
use Rattle.fixed.specs.Iter.{iter}
use Rattle.fixed.specs.Wrap.{wrap16}
use Rattle.fixed.proofs.Iters.{iter-same, either-all}
use Rattle.shaping.specs.Taps.{tap, tap_count, short_prediction}
use Rattle.warped.specs.WarpedFilter.{Filter, write, turn, begin, warped_filter}
use Rattle.noise.specs.NoiseTerms.{ar_term}
use Rattle.path.specs.declared.structs.Path.{Path}
use Rattle.path.specs.declared.structs.Fix.{Fix}
use Rattle.path.specs.declared.structs.Common.{Common}
use Rattle.path.specs.declared.structs.Moves.{Moves}
use Rattle.fixed.specs.Row.{word}
use Rattle.path.specs.Data.{no_path, no_candidate, Paths, paths, Rows}
use Rattle.path.specs.Path.{filter_of, moved, terms_of, pair_of, pair}
use Rattle.steps.specs.Among.{Rule}
use Rattle.steps.specs.Each.{move_turn, unmoved, moves, pair_turn, pairs}
use Rattle.steps.specs.Settled.{settled}
use Rattle.steps.specs.Sample.{tried, sample}

-- what a subframe with the scalars f reads of its rows is the same in v and w
pub record RowsSame (f : Fix) (v w : Rows) : Type 0 where
  pub a : (j : ℕ) → j < f.predictLPCOrder → word v.a j ≡ word w.a j
  pub ten : 10 ≤ f.predictLPCOrder
  pub ar : (j : ℕ) → j < f.shapingLPCOrder → word v.ar j ≡ word w.ar j
  pub one : 1 ≤ f.shapingLPCOrder
  pub b : f.voiced ≡ true → v.b ≡ w.b
  pub warping : wrap16 v.half.warping_Q16 ≡ wrap16 w.half.warping_Q16
  pub tilt : wrap16 v.half.Tilt_Q14 ≡ wrap16 w.half.Tilt_Q14
  pub harm : 0 < f.lag → v.half.HarmShapeFIRPacked_Q14 ≡ w.half.HarmShapeFIRPacked_Q14

-- rows are as themselves
pub rows_refl : (f : Fix) (v : Rows) → 10 ≤ f.predictLPCOrder → 1 ≤ f.shapingLPCOrder → RowsSame f v v
rows_refl f v ten one =
    record { a = λ j h. refl; ten = ten; ar = λ j h. refl; one = one; b = λ e. refl; warping = refl; tilt = refl; harm = λ h. refl }

-- ---- short prediction
-- no more taps than the order has
taps-few : (order : ℕ) → 10 ≤ order → tap_count order ≤ order
taps-few order h =
    either-all (λ (m : ℕ). m ≤ order) (eqb order 16) 16 10 (λ e. omega (arith, eqb-true order 16 e)) (λ e. h)

short-same : (buf : List ℤ) (at : ℕ) (a b : List ℤ) (order : ℕ) → 10 ≤ order → ((j : ℕ) → j < order → word a j ≡ word b j)
    → short_prediction buf at a order ≡ short_prediction buf at b order
unfolding short_prediction
short-same buf at a b order ten e =
    iter-same (tap buf at a) (tap buf at b) (tap_count order) (pos (order / 2)) (λ j h s. rw (e j (omega (arith, taps-few order ten))) refl)

-- ---- the warped filter
warped-same : (s a b : List ℤ) (order : ℕ) (v w diff : ℤ) → 1 ≤ order → ((j : ℕ) → j < order → word a j ≡ word b j) → v ≡ w
    → warped_filter s a order v diff ≡ warped_filter s b order w diff
unfolding warped_filter
warped-same s a b order v w diff one e l =
    ap (write a (order - 1)) (begins l ∙ iter-same (turn a w) (turn b w) (order - 1) (begin s order w diff) (λ j h t. rw (e j (omega arith)) refl))
    ∙ last (iter (turn b w) (order - 1) (begin s order w diff))
  where
    begins : v ≡ w → iter (turn a v) (order - 1) (begin s order v diff) ≡ iter (turn a w) (order - 1) (begin s order w diff)
    begins q = ap (λ (z : ℤ). iter (turn a z) (order - 1) (begin s order z diff)) q

    last : (t : Filter) → write a (order - 1) t ≡ write b (order - 1) t
    last t = rw (e (order - 1) (omega arith)) refl

filter_same : (f : Fix) (v w : Rows) → RowsSame f v w → (p : Path) → filter_of f v.half v.ar p ≡ filter_of f w.half w.ar p
filter_same f v w s p = warped-same p.sAR2_Q14 v.ar w.ar f.shapingLPCOrder _ _ p.Diff_Q14 s.one s.ar s.warping

tilt-same : (n lf a b : ℤ) → wrap16 a ≡ wrap16 b → ar_term n lf a ≡ ar_term n lf b
unfolding ar_term
tilt-same n lf a b e = rw e refl

moved_same : (f : Fix) (v w : Rows) → RowsSame f v w → (p : Path) → moved f v.half v.ar p ≡ moved f w.half w.ar p
unfolding moved
moved_same f v w s p =
    rw (filter_same f v w s p, tilt-same (filter_of f w.half w.ar p).n_AR_Q14 p.LF_AR_Q14 v.half.Tilt_Q14 w.half.Tilt_Q14 s.tilt) refl

moves-same : (f : Fix) (v w : Rows) → RowsSame f v w → (o : List Path) → moves f v.half v.ar o ≡ moves f w.half w.ar o
unfolding moves
moves-same f v w s o =
    iter-same (move_turn f v.half v.ar) (move_turn f w.half w.ar) f.nStates (unmoved o)
    (λ k h m. rw (moved_same f v w s (get_or m.owns k no_path)) refl)

-- ---- the candidates
terms-same : (f : Fix) (v w : Rows) → RowsSame f v w → (s : Common) (i r0 : ℕ) (p : Path) (n : ℤ) (lpc : List ℤ) (ring : List (List ℤ))
    → terms_of f v.a s i r0 p n lpc ring ≡ terms_of f w.a s i r0 p n lpc ring
unfolding terms_of
terms-same f v w q s i r0 p n lpc ring = rw (short-same lpc (15 + i) v.a w.a f.predictLPCOrder q.ten q.a) refl

pair_same : (f : Fix) (v w : Rows) → RowsSame f v w → (s : Common) (i r0 : ℕ) (p : Path) (n : ℤ) (lpc : List ℤ) (ring : List (List ℤ))
    → pair f v.a s i r0 p n lpc ring ≡ pair f w.a s i r0 p n lpc ring
unfolding pair
pair_same f v w q s i r0 p n lpc ring = ap (pair_of f s.n_LTP_Q14 p.RD_Q10) (terms-same f v w q s i r0 p n lpc ring)

pairs-same : (f : Fix) (v w : Rows) → RowsSame f v w → (s : Common) (i r0 : ℕ) (m : Moves) (lpcs : List (List ℤ)) (rings : List (List (List ℤ)))
    → pairs f v.a s i r0 m lpcs rings ≡ pairs f w.a s i r0 m lpcs rings
unfolding pairs
pairs-same f v w q s i r0 m lpcs rings =
    iter-same (pair_turn f v.a s i r0 m lpcs rings) (pair_turn f w.a s i r0 m lpcs rings) f.nStates (replicate 4 (replicate 2 no_candidate))
    (λ k h c. rw (pair_same f v w q s i r0 (get_or m.owns k no_path) (word m.n_AR_Q14 k) (get_or lpcs k []) (get_or rings k [])) refl)

tried_same : (rule : Rule) (f : Fix) (v w : Rows) → RowsSame f v w → (s : Common) (i r0 r last : ℕ) (m : Moves) (p : Paths)
    → tried rule f v.a s i r0 r last m p ≡ tried rule f w.a s i r0 r last m p
unfolding tried
tried_same rule f v w q s i r0 r last m p =
    ap (λ c. settled rule c f.nStates i r last (paths m.owns p.lpcs p.rings)) (pairs-same f v w q s i r0 m p.lpcs p.rings)

-- ---- the sample
pub sample-same : (rule : Rule) (f : Fix) (v w : Rows) → RowsSame f v w → (s : Common) (i r0 r last : ℕ) (p : Paths)
    → sample rule f v.half v.a v.ar s i r0 r last p ≡ sample rule f w.half w.a w.ar s i r0 r last p
unfolding sample
sample-same rule f v w q s i r0 r last p =
    ap (λ (m : Moves). tried rule f v.a s i r0 r last m p) (moves-same f v w q p.owns)
    ∙ tried_same rule f v w q s i r0 r last (moves f w.half w.ar p.owns) p
