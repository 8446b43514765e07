-- Of an accepted call: each path at each sample of each subframe, whatever the frame in work holds, and so at each sample that its run comes to.
-- Assumes nothing.
use Prim.Native.Nat.{ℕ, ◌≤◌, ◌<◌}
use native.Mathlib.Omega.{arith}
use mathlib.Core.Path.{◌≡◌, refl, sym, subst}
use mathlib.Core.List.{List, []}
use lib.ListN.{get_or, replicate}
use lib.IntN.{ℤ}
use Rattle.fixed.specs.Row.{word}
use Rattle.fixed.proofs.Fills.{fill-at}
use Rattle.limits.specs.Count.{nat_z}
use Rattle.path.specs.declared.structs.Candidate.{Candidate}
use Rattle.path.specs.declared.structs.Fix.{Fix}
use Rattle.path.specs.Data.{no_candidate, Running, Rows, paths, candidate_at}
use Rattle.places.specs.Places.{down, delayed}
use Rattle.refusal_rules.specs.Code.{code_of}
use Rattle.steps.specs.Among.{Rule}
use Rattle.steps.specs.Each.{pairs}
use Rattle.steps.specs.Settled.{settled}
use Rattle.steps.specs.Sample.{tried, sample}
use Rattle.steps.specs.Shared.{common}
use Rattle.steps.specs.Turn.{took_from, took}
use Rattle.steps.specs.Call.{Call, given_by, given_of, paths_of, fix_by, fix_of, rows_of}
use Rattle.steps.specs.Entry.{answered}
use Rattle.steps.proofs.Outcomes.{accepted-good}
use Rattle.cheapest.specs.Cheapest.{CheapestOf, FairLambda}
use Rattle.cheapest.specs.Looked.{moved_at, looked_at, path_in, residual_in, pair_in}
use Rattle.cheapest.proofs.Theorems.{path-cheapest}

-- the definition settles each sample from these candidates: winner, penalty and replacement come after them
pub looked-settled : (rule : Rule) (f : Fix) (v : Rows) (x : List ℤ) (i : ℕ) (t : Running)
    → took rule f v x i t
    ≡ settled rule (looked_at f v x i t) f.nStates i (down t.core.smpl_buf_idx) (delayed f (down t.core.smpl_buf_idx))
    (paths (moved_at f v t).owns t.core.ps.lpcs t.core.ps.rings)
unfolding took took_from sample tried
looked-settled rule f v x i t = refl

-- path j's are its own
pub looked-own : (f : Fix) (v : Rows) (x : List ℤ) (i j : ℕ) (t : Running) → f.nStates ≤ 4 → j < f.nStates
    → get_or (looked_at f v x i t) j [] ≡ pair_in f v x i t j
unfolding pairs
looked-own f v x i j t four h =
    fill-at (λ k. k) (pair_in f v x i t) f.nStates (replicate 4 (replicate 2 no_candidate)) [] (λ a b k e. omega arith) (λ a k. omega arith) j h

-- path j at sample i of subframe k: no pulse number is cheaper than its first candidate of those that are looked at
module _ (c : Call) (x out : List ℤ) (e : code_of (answered c x out) ≡ 0) (fair : FairLambda c.settings.Lambda_Q10) where
  pub call-cheapest : (k i j : ℕ) (t : Running) → j < paths_of c
      → CheapestOf (residual_in (fix_of c k) (rows_of c k) x i t j) c.settings.Lambda_Q10 (given_of c).offset_Q10
      (path_in (fix_of c k) (rows_of c k) t j).RD_Q10 (candidate_at (looked_at (fix_of c k) (rows_of c k) x i t) j 0)
  unfolding fix_by given_by
  call-cheapest k i j t h =
      let g = (accepted-good c x out e).settings in
      let f = fix_of c k in
      let v = rows_of c k in
      subst (λ (row : List Candidate). CheapestOf (residual_in f v x i t j) f.Lambda_Q10 f.offset_Q10 (path_in f v t j).RD_Q10 (get_or row 0 no_candidate))
      (sym (looked-own f v x i j t g.paths.most h))
      (path-cheapest f (nat_z c.settings.signalType) (nat_z c.settings.quantOffsetType) g.kind.most g.offset.most fair refl v.a (common f v x i t) i
      t.core.smpl_buf_idx
      (path_in f v t j)
      (word (moved_at f v t).n_AR_Q14 j)
      (get_or t.core.ps.lpcs j [])
      (get_or t.core.ps.rings j []))
