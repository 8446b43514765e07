-- `path::structs::Path::terms` meets its contract. Assumes nothing.
use mathlib.Core.Path.{◌≡◌, ◌∙◌}
use Prim.Native.Nat.{◌+◌}
use lib.ListN.{get_or}
use mathlib.Core.List.{[]}
use mir.Syntax.{w32}
use Rattle.fixed.proofs.Fit.{got32, read, back}
use Rattle.fixed.specs.Shift.{shl32}
use Rattle.shaping.specs.Taps.{short_prediction}
use Rattle.path.specs.Path.{terms_of}
use Rattle.fixed.specs.Row.{word}
use Rattle.path.specs.Data.{ring_shape}
use Rattle.path.proofs.Told.{path, fix, common}
use Rattle.path.proofs.structs.Path.terms.Goals as goal

pub returns : goal.returns
unfolding terms_of
returns c =
    let a = c.args in
    let p = path a.self c.struct_told-1.given in
    let f = fix a.f c.struct_told-2-1.given in
    let s = common a.s c.struct_told-3-1.given in
    let e = c.silk_noise_shape_quantizer_short_prediction-pred in
    let v1 = got32 c.n_LF-n_LF.result c.n_LF-n_LF.type_inv ∙ rw (back w32 (word (get_or a.ring.now ring_shape []) a.r0) c.shape-1.given, p.lf, f.lf_shp) at c.n_LF-n_LF.ensures in
    let v2 : c.shl32.result ≡ shl32 (short_prediction a.lpc.now (15 + a.i) a.a.now a.f.«predictLPCOrder») 4 =
    rw (got32 e.result e.type_inv ∙ e.ensures) at c.shl32.ensures in
    simp (s.input, s.ltp, p.seed, read c.ranges.n_AR_Q14, v1, got32 c.shl32.result c.shl32.type_inv ∙ v2)
