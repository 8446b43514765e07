-- `calls::call::given_of` meets its contract. Assumes nothing.
use mathlib.Core.Path.{◌≡◌, ◌∙◌}
use Rattle.fixed.proofs.Fit.{read, got32}
use Rattle.silk.proofs.Told.{settings}
use Rattle.limits.specs.Count.{nat_z}
use Rattle.steps.specs.Call.{given_by, voiced_by, interpolated_by, delay_by}
use Rattle.calls.proofs.call.given_of.Goals as goal

pub returns : goal.returns
unfolding given_by
returns c =
    let s = c.args.s in
    let b = settings s c.struct_told-11-1.given in
    let v1 : c.count-l.result ≡ nat_z s.subfr_length = rw b.subfr_length at c.count-l.ensures in
    let v2 : c.count-n.result ≡ nat_z s.nb_subfr = rw b.nb_subfr at c.count-n.ensures in
    let v3 : c.count-prev.result ≡ nat_z c.args.lagPrev = rw (read c.ranges.lagPrev) at c.count-prev.ensures in
    let vv : c.voiced_by-voiced.result ≡ voiced_by s.signalType = rw b.signalType at c.voiced_by-voiced.ensures in
    let vd : c.delay-d.result ≡ delay_by (voiced_by s.signalType) (nat_z s.subfr_length) (nat_z s.nb_subfr) (nat_z c.args.lagPrev) c.args.lags.now = rw (vv, v1, v2, v3) at c.delay-d.ensures in
    let v4 : c.count.result ≡ nat_z s.signalType = rw b.signalType at c.count.ensures in
    let v5 : c.count-2.result ≡ nat_z s.quantOffsetType = rw b.quantOffsetType at c.count-2.ensures in
    let vo = got32 c.quant_offset-offset.result c.quant_offset-offset.type_inv ∙ rw (v4, v5) at c.quant_offset-offset.ensures in
    let v6 : c.count-3.result ≡ nat_z s.predictLPCOrder = rw b.predictLPCOrder at c.count-3.ensures in
    let v7 : c.count-4.result ≡ nat_z s.shapingLPCOrder = rw b.shapingLPCOrder at c.count-4.ensures in
    let v8 : c.count-5.result ≡ nat_z s.nStatesDelayedDecision = rw b.nStatesDelayedDecision at c.count-5.ensures in
    let vi : c.interpolated_by.result ≡ interpolated_by s.NLSFInterpCoef_Q2 = rw b.NLSFInterpCoef_Q2 at c.interpolated_by.ensures in
    let v9 : c.count-6.result ≡ nat_z s.Seed = rw b.Seed at c.count-6.ensures in
    simp (v1, v2, v6, v7, v8, vv, vi, vo, b.Lambda_Q10, b.LTP_scale_Q14, b.warping_Q16, v9, v3, vd)
