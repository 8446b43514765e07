-- `subframes::scalars::fix_of` meets its contract. Assumes nothing.
use mathlib.Core.Path.{◌≡◌, ◌∙◌}
use Prim.Native.Nat.{ℕ, ◌*◌, ◌≤◌, ◌<◌}
use native.Mathlib.Omega.{arith}
use lib.ListN.{get_or}
use lib.IntN.{pos}
use mir.Syntax.{w32}
use Rattle.fixed.proofs.Fit.{back, got32}
use Rattle.word_steps.specs.Gains.{inv_gain_Q31}
use Rattle.steps.proofs.Sound.{since-few, subframes-small}
use Rattle.steps.proofs.Told.{given}
use Rattle.steps.specs.declared.structs.Given.{Given}
use Rattle.steps.specs.Call.{fix_by, lag_by, since_by}
use Rattle.subframes.proofs.scalars.fix_of.Goals as goal

-- the subframes since the last output was held back are few too
held : (g : Given) (k n : ℕ) → n ≡ since_by g k → k < 4 → g.subfr_length ≤ 80 → n * g.subfr_length ≤ 320
held g k n e few short = let f = since-few g k in subframes-small n g.subfr_length (omega arith) short

pub overflow_mul-result-3 : goal.overflow_mul-result-3
overflow_mul-result-3 c =
    let e = held c.args.g c.args.k _ c.since-subfr.ensures c.requires.0 c.requires.1.0 in record { fits = omega arith }

pub overflow_add-result : goal.overflow_add-result
overflow_add-result c =
    let e = held c.args.g c.args.k _ c.since-subfr.ensures c.requires.0 c.requires.1.0 in
    let l = c.requires.1.0 in record { fits = omega arith }

pub returns : goal.returns
unfolding fix_by
returns c =
    let a = c.args in
    let b = given a.g c.struct_told-1.given in
    let gain = back w32 (get_or a.gains.now a.k (pos 0)) c.gain-1.given in
    let shp = back w32 (get_or a.lf.now a.k (pos 0)) c.shp-1.given in
    let v : c.inv_gain_Q31.result ≡ inv_gain_Q31 (get_or a.gains.now a.k (pos 0)) = rw gain at c.inv_gain_Q31.ensures in
    let w = got32 c.inv_gain_Q26-inv26.result c.inv_gain_Q26-inv26.type_inv ∙ rw (got32 c.inv_gain_Q31.result c.inv_gain_Q31.type_inv, v) at c.inv_gain_Q26-inv26.ensures in
    let lag : c.lag_of-lag.result ≡ lag_by a.g a.lags.now a.k = c.lag_of-lag.ensures in
    let m : c.since-subfr.result ≡ since_by a.g a.k = c.since-subfr.ensures in
    simp (b.offset, b.lambda, lag, shp, gain, w, m)
