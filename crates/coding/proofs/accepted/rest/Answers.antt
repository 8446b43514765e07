-- `coding::accepted::rest` meets its contract. Assumes nothing.
use mathlib.Core.Path.{◌≡◌, ap, ◌∙◌}
use mathlib.Core.List.{List}
use lib.IntN.{ℤ, pos}
use Prim.Native.Nat.{◌-◌, ◌*◌}
use Rattle.fixed.proofs.Fit.{got32}
use Rattle.fixed.specs.Row.{word}
use Rattle.steps.specs.Among.{full_copy}
use Rattle.steps.specs.Carried.{chosen}
use Rattle.steps.specs.Frame.{Framed, Done, ended_by}
use Rattle.steps.specs.Lent.{framed_at, run_in, carried_on}
use Rattle.steps.specs.Report.{differ, best_row}
use Rattle.coding.proofs.accepted.rest.Goals as goal

pub returns : goal.returns
returns c =
    let a = c.args in
    let n = a.g.nb_subfr in
    let ran = c.run.ensures in
    let l1 = got32 c.last_of-last.result c.last_of-last.type_inv ∙ c.last_of-last.ensures in
    let l2 = got32 c.last_of-lag.result c.last_of-lag.type_inv ∙ c.last_of-lag.ensures in
    let all = rw (l1, l2) at c.ended.ensures in
    let began = framed_at a.t.now a.pulses.now in
    let last = framed_at c.run.new.t c.run.new.pulses in
    let turns = run_in full_copy a.g a.r n began in
    let coded : last ≡ turns = ran.words.0 in
    let ends : Framed → Done = λ t. ended_by a.g (word a.r.gains.now (n - 1)) (word a.r.lags.now (n - 1)) a.words t in
    let rows : List (List ℤ) → List (List ℤ) = λ w. carried_on chosen full_copy a.g a.r n began w in
    let reported : Framed → List (List ℤ) → ℤ = λ t w.
    pos (differ c.ended.new.pulses (best_row t.run.core.ps.owns a.g.nStates w) (n * a.g.subfr_length)) in
    record {
      words = all.words ∙ ap ends coded;
      report = λ none. all.report ∙ ap (λ (t : Framed). reported t c.run.new.t.work.chosen) coded ∙ ap (reported turns) (ran.chosen ∙ ap rows none);
    }
