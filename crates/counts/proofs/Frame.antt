-- A frame taken apart, for two calls side by side: its start, its subframes, its end. Assumes nothing.
use Prim.Native.Nat.{ℕ, suc, ◌<◌}
use mathlib.Core.Path.{◌≡◌, refl, subst}
use mathlib.Core.List.{List}
use lib.IntN.{ℤ}
use Rattle.fixed.specs.Iter.{iter}
use Rattle.fixed.proofs.Iters.{iter-rel}
use Rattle.fixed.specs.Row.{word}
use Rattle.steps.specs.Among.{Rule}
use Rattle.steps.specs.declared.structs.Given.{Given}
use Rattle.steps.specs.Call.{Call, count_of, second_by, rewhites_by, fix_by, rows_by, white_by}
use Rattle.steps.specs.Flush.{best_of}
use Rattle.steps.specs.Frame.{Framed, start, step, prior_by, turn_by, subframe_turn, run, ended_with, ended_by, ended, frame}

-- subframe k
pub turn_is : (rule : Rule) (g : Given) (x pred ltp ar tilt harm lf gains lags : List ℤ) (k : ℕ) (t : Framed)
    → turn_by rule g x pred ltp ar tilt harm lf gains lags k t
    ≡ step rule (fix_by g lags lf gains k) (rows_by g pred ltp ar tilt harm k) x (second_by g k) (rewhites_by g k) (word gains 1) (white_by g (word gains k) k) t
unfolding turn_by prior_by
turn_is rule g x pred ltp ar tilt harm lf gains lags k t = refl

-- what each subframe of two frames keeps
pub run-rel : (R : ℕ → Framed → Framed → Type 0) (rule : Rule) (c d : Call) (x y p q : List ℤ) → count_of c ≡ count_of d
    → ((k : ℕ) → k < count_of c → (t u : Framed) → R k t u → R (suc k) (subframe_turn rule c x k t) (subframe_turn rule d y k u))
    → R 0 (start c p) (start d q) → R (count_of c) (run rule c x p) (run rule d y q)
unfolding run
run-rel R rule c d x y p q e h r =
    subst (λ (n : ℕ). R (count_of c) (iter (subframe_turn rule c x) (count_of c) (start c p)) (iter (subframe_turn rule d y) n (start d q))) e
    (iter-rel R (subframe_turn rule c x) (subframe_turn rule d y) (count_of c) h (start c p) (start d q) r)

-- the end, by the final winner
pub ended_is : (g : Given) (last lag : ℤ) (words : List ℤ) (t : Framed) → ended_by g last lag words t ≡ ended_with g last lag words t (best_of t.run.core.ps.owns g.nStates)
unfolding ended_by
ended_is g last lag words t = refl

-- all of it
pub frame_is : (rule : Rule) (c : Call) (x p : List ℤ) → frame rule c x p ≡ ended c (run rule c x p)
unfolding frame
frame_is rule c x p = refl
