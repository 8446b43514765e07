-- `coding::accepted::coded` meets its contract. Assumes nothing.
use mathlib.Core.Path.{◌≡◌, ap, ◌∙◌}
use mathlib.Core.List.{List}
use lib.IntN.{ℤ, pos}
use native.Mathlib.Omega.{arith}
use Rattle.silk.specs.State.{zeros}
use Rattle.steps.specs.Among.{full_copy}
use Rattle.path.specs.declared.structs.Frame.{Frame}
use Rattle.path.specs.Data.{Paths, paths_of}
use Rattle.steps.specs.Carried.{no_rows}
use Rattle.steps.specs.Lent.{framed_at, call_in, run_in}
use Rattle.steps.specs.Call.{Call, given_of, count_of}
use Rattle.steps.specs.Report.{report_from, winners_row, frame_report}
use Rattle.steps.specs.Frame.{Framed, Done, start, start_paths, run, ended, frame}
use Rattle.steps.proofs.Sound.{counts}
use Rattle.coding.proofs.Ready.{ready, state}
use Rattle.coding.proofs.accepted.coded.Goals as goal

-- the frame before its first subframe, with the paths in hand
abbrev start_with : Call → List ℤ → Paths → Framed
start_with c out p =
    record {
      run =
          record {
            core = record { ps = p; sLTP_Q15 = zeros 640; delayedGain_Q10 = zeros 40; smpl_buf_idx = 0 };
            xq = c.state.xq;
            sLTP_shp_Q14 = c.state.sLTP_shp_Q14;
            pulses = out;
          };
      sLTP = zeros 640;
      prev_gain_Q16 = c.state.prev_gain_Q16;
    }

-- the frame that is opened is the definition's
begins : (c : Call) (out : List ℤ) (t : Frame) (p : Paths) → paths_of t.work.states ≡ p
    → ((t.work.chosen ≡ no_rows) × (t.work.sLTP_Q15 ≡ zeros 640))
    × ((t.work.delayedGain_Q10 ≡ zeros 40) × ((t.work.smpl_buf_idx ≡ 0) × (t.sLTP ≡ zeros 640)))
    → (t.work.xq ≡ c.state.xq) × ((t.work.sLTP_shp_Q14 ≡ c.state.sLTP_shp_Q14) × (t.prev ≡ c.state.prev_gain_Q16))
    → framed_at t out ≡ start_with c out p
begins c out t p e z k = rw (e, z.0.1, z.1.0, z.1.1.0, z.1.1.1, k.0, k.1.0, k.1.1)

pub opened-t-requires : goal.opened-t-requires
opened-t-requires c =
    let lag = (state c.args.state c.struct_told-1.given).lag in
    let r = (ready _ _ _ c.requires).sound in
    rw (rw lag at c.given_of-g.ensures) ((omega (arith, r.long), r.short), (omega (arith, r.seed3), r.paths4))

pub rest-requires : goal.rest-requires
rest-requires c =
    let lag = (state c.args.state c.struct_told-1.given).lag in
    let r = ready _ _ _ c.requires in
    let o = c.opened-t.ensures in
    rw (rw lag at c.given_of-g.ensures, o.kept.1.1, o.zero.1.1.0) (((r.sound, r.stocked), r.pulses), (c.requires.gain.prev, omega arith))

pub returns : goal.returns
unfolding frame run start start_paths frame_report winners_row
returns c =
    let a = c.args in
    let s = state a.state c.struct_told-1.given in
    let e = rw s.lag at c.given_of-g.ensures in
    let o = c.opened-t.ensures in
    let it = call_in a.s a.state a.r in
    let out = a.pulses.now in
    let began = begins it out c.opened-t.result (start_paths it) (rw (e, (counts a.s a.state.lagPrev a.r.lags.now).seed) at o.paths) o.zero o.kept in
    let all = rw e at c.rest.ensures in
    let g = given_of it in
    let started = start_with it out (start_paths it) in
    let ends : Framed → Done = λ t. ended it (run_in full_copy g a.r (count_of it) t) in
    let done = all.words ∙ ap ends began in
    let reported : List ℤ → Framed → ℤ = λ p t.
    pos (report_from full_copy g a.r.x.now a.r.pred.now a.r.long.now a.r.ar.now a.r.tilt.now a.r.harm.now a.r.lf.now a.r.gains.now a.r.lags.now t p) in
    record {
      words = done;
      report = all.report o.zero.0.0 ∙ ap (reported c.rest.new.pulses) began ∙ ap (λ (d : Done). reported d.pulses started) done;
    }
