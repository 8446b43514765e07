-- `paths::turn::turn` meets its contract. Assumes nothing.
use mathlib.Core.Path.{◌≡◌, refl, ap, ◌∙◌}
use Prim.Native.Nat.{ℕ, ◌+◌, ◌-◌}
use mathlib.Core.List.{List}
use lib.IntN.{ℤ}
use lib.ListN.{set}
use mir.Syntax.{w32}
use mir.Val.{of_z, to_z}
use Rattle.fixed.specs.Shift.{shr32}
use Rattle.fixed.proofs.Fit.{back, got32}
use Rattle.path.specs.declared.structs.Common.{Common}
use Rattle.fixed.specs.Row.{word}
use Rattle.path.specs.Data.{Running, running, paths_of, rows_of_coefs}
use Rattle.steps.specs.Among.{full_copy}
use Rattle.steps.specs.Carried.{pulses_noted}
use Rattle.steps.specs.Settled.{Settled}
use Rattle.path.proofs.Told.{fix}
use Rattle.steps.specs.Turn.{put_at, turn}
use Rattle.steps.specs.Leaving.{leaves}
use Rattle.steps.specs.Shared.{common_from, predicted}
use Rattle.places.specs.Places.{delayed}
use Rattle.paths.proofs.Turns.{made, written, turn_with, turn_is, carry-is}
use Rattle.paths.proofs.turn.turn.Goals as goal

pub returns : goal.returns
returns c =
    let a = c.args in
    let f = fix a.f c.struct_told-1.given in
    let r = c.down-r.result in
    let v = rows_of_coefs a.v in
    let start = running a.w.now a.pulses.now in
    let w = word a.w.now.delayedGain_Q10 (delayed a.f r) in
    let p = a.f.base + a.i - a.f.«decisionDelay» in
    let t = c.sample-t.result in
    let after : Settled → Running = λ t. put_at a.f a.i (leaves a.f a.i) w p r t start in
    let u = rw (back w32 w c.g-1.given) at c.emit.ensures in
    let kept = u.kept in
    let left = kept.0.0 in
    let q : c.shr32.result ≡ shr32 a.f.Gain_Q16 6 = rw f.gain at c.shr32.ensures in
    let g10 = got32 c.shr32.result c.shr32.type_inv ∙ q in
    let shared = common_from a.f a.v.half.HarmShapeFIRPacked_Q14 a.w.now.sLTP_shp_Q14 a.x.now a.i (predicted a.f a.v.b.now a.w.now.sLTP_Q15 a.i) in
    let o : c.common-s.result ≡ shared = c.common-s.ensures in
    let e = c.emit.new.w in
    let read = to_z w32 (of_z w32 c.shr32.result) in
    let done = made (paths_of e.states) e.sLTP_Q15 (set e.delayedGain_Q10 r read) r e.xq e.sLTP_shp_Q14 c.emit.new.pulses in
    let whole : done ≡ turn full_copy a.f v a.x.now a.i start =
    written a.f a.i (leaves a.f a.i) w p r t (paths_of c.sample-t.new.ps) start done
    (
    record {
      left = ap paths_of left;
      work = u.work;
      gain = ap (λ (l : List ℤ). set l r read) kept.1.0 ∙ ap (λ (z : ℤ). set a.w.now.delayedGain_Q10 r z) g10;
      place = refl;
      history = u.history;
      shaping = u.shaping;
      pulse = u.pulse;
    }
    )
    ∙ ap after c.sample-t.ensures.words
    ∙ ap (λ (z : Common). turn_with full_copy a.f v a.i start r z) o
    ∙ ap (λ (j : ℕ). turn_with full_copy a.f v a.i start j shared) c.down-r.ensures.0
    ∙ turn_is full_copy a.f v a.x.now a.i start in
    let carried = carry-is full_copy a.f v a.x.now a.i start done c.common-s.result r a.w.now.chosen whole o c.down-r.ensures.0 in
    let noted : List (List ℤ) → List (List ℤ) = λ z. pulses_noted a.f.nStates (a.f.base + a.i) r c.emit.new.w.states.rings z in
    record {
      words = (whole, c.down-r.ensures.1);
      chosen = c.noted.ensures ∙ ap noted (kept.0.1 ∙ c.sample-t.ensures.chosen) ∙ carried;
    }
