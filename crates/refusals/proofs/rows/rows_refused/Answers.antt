-- `refusals::rows::rows_refused` meets its contract. Assumes nothing.
use mathlib.Core.Path.{◌≡◌, sym, ap, ◌∙◌}
use mathlib.Core.Bool.{not, ◌||◌}
use Prim.Native.Nat.{◌*◌}
use borrow.Author.Tests.{ne_eqb, eq-eqb}
use Rattle.fixed.proofs.Fit.{read}
use Rattle.limits.specs.Count.{nat_z}
use Rattle.limits.proofs.Laws.{or-then, or-else}
use Rattle.refusal_rules.specs.Table.{another, rows_refused}
use Rattle.refusals.proofs.rows.rows_refused.Goals as goal
use Rattle.refusals.proofs.rows.rows_refused.Goals.{then-z-frame, else-z-frame, then-z-ne32, else-z-ne32, then-z-subframes, else-z-subframes, then-z-subframes-2, else-z-subframes-2}

pub returns-then-z-frame-2 : goal.returns-then-z-frame-2
unfolding rows_refused
returns-then-z-frame-2 c =
    let z = c.args.z in
    let n = c.count-subframes.result in
    let l = c.count.result in
    let of_n : n ≡ nat_z c.args.n = rw (read c.ranges.n) at c.count-subframes.ensures in
    let of_l : l ≡ nat_z c.args.l = rw (read c.ranges.l) at c.count.ensures in
    let x1 = another z.samples (n * l) in
    let x2 = another z.pred_coef 32 in
    let x3 = another z.ltp_coef (5 * n) in
    let x4 = another z.ar (24 * n) in
    let x5 = another z.pulses (n * l) in
    let v2 : c.if-z-frame.t-13 ≡ (x1 || x2) =
    elim c.if-z-frame.branch [
      | then-z-frame w ↦ or-then _ w.t-13-is (ap not (ne_eqb _ _ w.if-z-frame.true))
      | else-z-frame w ↦ or-else (ap not (eq-eqb _ _ w.if-z-frame.false)) w.t-13-is
    ] in
    let v3 : c.if-z-ne32.value ≡ (x1 || x2 || x3) =
    elim c.if-z-ne32.branch [
      | then-z-ne32 w ↦ or-then _ (w.value-is ∙ v2) (sym v2 ∙ w.if-z-ne32.true-raw)
      | else-z-ne32 w ↦ or-else (sym v2 ∙ w.if-z-ne32.false-raw) w.value-is
    ] in
    let v4 : c.if-z-subframes.value ≡ (x1 || x2 || x3 || x4) =
    elim c.if-z-subframes.branch [
      | then-z-subframes w ↦ or-then _ (w.value-is ∙ v3) (sym v3 ∙ w.if-z-subframes.true)
      | else-z-subframes w ↦ or-else (sym v3 ∙ w.if-z-subframes.false) w.value-is
    ] in
    let v5 : c.if-z-subframes-2.value ≡ (x1 || x2 || x3 || x4 || x5) =
    elim c.if-z-subframes-2.branch [
      | then-z-subframes-2 w ↦ or-then _ (w.value-is ∙ v4) (sym v4 ∙ w.if-z-subframes-2.true)
      | else-z-subframes-2 w ↦ or-else (sym v4 ∙ w.if-z-subframes-2.false) w.value-is
    ] in
    rw (← of_n, ← of_l) (or-then _ v5 (sym v5 ∙ c.if-z-frame-2.true))

pub returns-else-z-frame-2 : goal.returns-else-z-frame-2
unfolding rows_refused
returns-else-z-frame-2 c =
    let z = c.args.z in
    let n = c.count-subframes.result in
    let l = c.count.result in
    let of_n : n ≡ nat_z c.args.n = rw (read c.ranges.n) at c.count-subframes.ensures in
    let of_l : l ≡ nat_z c.args.l = rw (read c.ranges.l) at c.count.ensures in
    let x1 = another z.samples (n * l) in
    let x2 = another z.pred_coef 32 in
    let x3 = another z.ltp_coef (5 * n) in
    let x4 = another z.ar (24 * n) in
    let x5 = another z.pulses (n * l) in
    let v2 : c.if-z-frame.t-13 ≡ (x1 || x2) =
    elim c.if-z-frame.branch [
      | then-z-frame w ↦ or-then _ w.t-13-is (ap not (ne_eqb _ _ w.if-z-frame.true))
      | else-z-frame w ↦ or-else (ap not (eq-eqb _ _ w.if-z-frame.false)) w.t-13-is
    ] in
    let v3 : c.if-z-ne32.value ≡ (x1 || x2 || x3) =
    elim c.if-z-ne32.branch [
      | then-z-ne32 w ↦ or-then _ (w.value-is ∙ v2) (sym v2 ∙ w.if-z-ne32.true-raw)
      | else-z-ne32 w ↦ or-else (sym v2 ∙ w.if-z-ne32.false-raw) w.value-is
    ] in
    let v4 : c.if-z-subframes.value ≡ (x1 || x2 || x3 || x4) =
    elim c.if-z-subframes.branch [
      | then-z-subframes w ↦ or-then _ (w.value-is ∙ v3) (sym v3 ∙ w.if-z-subframes.true)
      | else-z-subframes w ↦ or-else (sym v3 ∙ w.if-z-subframes.false) w.value-is
    ] in
    let v5 : c.if-z-subframes-2.value ≡ (x1 || x2 || x3 || x4 || x5) =
    elim c.if-z-subframes-2.branch [
      | then-z-subframes-2 w ↦ or-then _ (w.value-is ∙ v4) (sym v4 ∙ w.if-z-subframes-2.true)
      | else-z-subframes-2 w ↦ or-else (sym v4 ∙ w.if-z-subframes-2.false) w.value-is
    ] in
    rw (← of_n, ← of_l) (or-else (sym v5 ∙ c.if-z-frame-2.false) c.each_refused.ensures)
