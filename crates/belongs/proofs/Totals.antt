-- No total wraps: that of each candidate at a sample is the sum of the path's cost, of its own and of the penalty where there is one; and at a flush a
-- path's cost with the penalty doesn't wrap either. Assumes nothing.
use Prim.Native.Nat.{ℕ, suc, ◌+◌, ◌-◌, ◌*◌, ◌<◌, ◌≤◌}
use native.Mathlib.Omega.{arith}
use mathlib.Core.Path.{◌≡◌, ap, ◌∙◌}
use mathlib.Core.Bool.{Bool, true, false}
use mathlib.Core.List.{List}
use lib.ListN.{get_or}
use lib.IntN.{ℤ, pos, negsuc, ◌+ℤ◌}
use lib.Signed.{◌≤ℤ◌}
use Rattle.fixed.specs.Wrap.{wrap32}
use Rattle.fixed.proofs.Lin.{P, N, le-lin, le-of-lin}
use Rattle.fixed.proofs.Wraps.{wrap32-id}
use Rattle.path.specs.declared.structs.Fix.{Fix}
use Rattle.path.specs.Data.{no_path, Running, Rows}
use Rattle.path.specs.Taken.{penalty}
use Rattle.heard.proofs.Candidates.{Tabled}
use Rattle.belongs.specs.Costs.{range, fine}
use Rattle.belongs.specs.Totals.{lowest_total, highest_total, Summed, agrees_at, SummedAt}
use Rattle.belongs.proofs.Tried.{fined_rd, priced-at, fined-row-at}
use Rattle.belongs.proofs.Offsets.{Off, off-fits, off-add, off-plus}
use Rattle.belongs.proofs.Held.{Ledger, Held, below-12}

-- how far a number of a frame can go, with at most 13 penalties
off-range : {t m : ℕ} {z : ℤ} → Off t z m → t ≤ 320 → m ≤ t * range + 13 * fine → (lowest_total ≤ℤ z) × (z ≤ℤ highest_total)
off-range {t} {m} {z} o h k =
    let a = o.is in (le-of-lin lowest_total z (omega arith), le-of-lin z highest_total (omega arith))

module _ {g u : ℕ} {rd c : ℤ} (g320 : g < 320) (o : Off g rd u) (small : u ≤ g * range + 12 * fine)
    (least : negsuc 1044179 ≤ℤ c) (most : c ≤ℤ pos 1045828) where
  -- the cost as a number
  cost : ℕ
  cost = P c + 1044180 - N c

  cost-small : (P c + 1044180 ≡ cost + N c) × (cost ≤ range)
  unfolding cost
  cost-small = let a = le-lin least in let b = le-lin most in (omega arith, omega arith)

  sum : Off (suc g) (rd +ℤ c) (u + cost)
  sum = off-add o c cost cost-small.0

  summed : (agrees : Bool) {z : ℤ} → z ≡ fined_rd agrees (wrap32 (rd +ℤ c)) → Summed rd agrees z
  summed true {z} e =
      let b = cost-small.1 in
      let is : z ≡ rd +ℤ c = e ∙ wrap32-id (off-fits sum (omega arith) (omega arith)) in
      let r = off-range sum (omega arith) (omega arith) in
      record { cost = c; least = least; most = most; is = is; low = rw is r.0; high = rw is r.1 }
  summed false {z} e =
      let b = cost-small.1 in
      let is : z ≡ rd +ℤ c +ℤ penalty =
      e
      ∙ ap (λ (y : ℤ). wrap32 (y +ℤ penalty)) (wrap32-id (off-fits sum (omega arith) (omega arith)))
      ∙ wrap32-id (off-fits (off-plus sum) (omega arith) (omega arith)) in
      let r = off-range (off-plus sum) (omega arith) (omega arith) in
      record { cost = c; least = least; most = most; is = is; low = rw is r.0; high = rw is r.1 }

-- ---- both totals of a path
pub summed_at : (f : Fix) (v : Rows) (x : List ℤ) (i : ℕ) (t : Running) → Tabled f → f.nStates ≤ 4 → {l : Ledger} {len g e ψ : ℕ} → g < 320
    → Held f.offset_Q10 f.nStates len g e ψ l t → (k : ℕ) → k < f.nStates → SummedAt f v x i t k
summed_at f v x i t tb n4 g320 s k h =
    let p = priced-at f v x i t tb k h (omega arith) (omega (arith, s.owns4)) in
    let r = fined-row-at f v x i t k h (omega arith) in
    let o = (s.paths k h).cost in
    let order = le-lin p.order in
    let least2 : negsuc 1044179 ≤ℤ p.c2 = le-of-lin (negsuc 1044179) p.c2 (omega (arith, le-lin p.least)) in
    let most1 : p.c1 ≤ℤ pos 1045828 = le-of-lin p.c1 (pos 1045828) (omega (arith, le-lin p.most)) in (
      summed g320 o (below-12 s k h) p.least most1 (agrees_at f v x i t k) (r.rd1 ∙ ap (fined_rd (agrees_at f v x i t k)) p.rd1),
      summed g320 o (below-12 s k h) least2 p.most (agrees_at f v x i t k) (r.rd2 ∙ ap (fined_rd (agrees_at f v x i t k)) p.rd2),
    )

-- ---- and a path's cost with the penalty, at a flush
pub raised_at : {o : ℤ} {n len g e ψ : ℕ} {l : Ledger} {t : Running} → g ≤ 320 → Held o n len g e ψ l t → (k : ℕ) → k < n
    → wrap32 ((get_or t.core.ps.owns k no_path).RD_Q10 +ℤ penalty) ≡ (get_or t.core.ps.owns k no_path).RD_Q10 +ℤ penalty
raised_at g320 s k h = wrap32-id (off-fits (off-plus (s.paths k h).cost) g320 (omega (arith, below-12 s k h)))
