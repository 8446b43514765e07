-- `path::structs::Candidate::of` meets its contract. Assumes nothing.
use mathlib.Core.Path.{◌∙◌}
use Rattle.fixed.proofs.Fit.{got32, read}
use Rattle.path.specs.Path.{candidate_of}
use Rattle.path.proofs.Told.{terms}
use Rattle.path.proofs.structs.Candidate.of.Goals as goal

pub returns : goal.returns
unfolding candidate_of
returns c =
    let t = terms c.args.t c.struct_told-1.given in
    let q = read c.ranges.q in
    let v0 = got32 c.signed_excitation.result c.signed_excitation.type_inv ∙ rw (t.seed, q) at c.signed_excitation.ensures in
    let v1 = got32 c.add32-exc.result c.add32-exc.type_inv ∙ rw (v0, t.ltp) at c.add32-exc.ensures in
    let v2 = got32 c.add32-xq.result c.add32-xq.type_inv ∙ rw (v1, t.lpc) at c.add32-xq.ensures in
    let v3 = got32 c.shl32.result c.shl32.type_inv ∙ rw t.input at c.shl32.ensures in
    let v4 = got32 c.sub32-diff.result c.sub32-diff.type_inv ∙ rw (v2, v3) at c.sub32-diff.ensures in
    let v5 = got32 c.sub32-lf.result c.sub32-lf.type_inv ∙ rw (v4, t.n_ar) at c.sub32-lf.ensures in
    let v6 = got32 c.sub32-shp.result c.sub32-shp.type_inv ∙ rw (v5, t.n_lf) at c.sub32-shp.ensures in
    simp (v1, v2, v4, v5, v6, q, read c.ranges.rd)
