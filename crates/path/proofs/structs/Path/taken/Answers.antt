-- `path::structs::Path::taken` meets its contract. Assumes nothing.
use mathlib.Core.Path.{◌∙◌}
use Rattle.fixed.proofs.Fit.{got32}
use Rattle.path.specs.Taken.{taken, taken_own, taken_rings}
use Rattle.path.proofs.Told.{candidate, path}
use Rattle.path.proofs.structs.Path.taken.Goals as goal

pub returns : goal.returns
unfolding taken taken_own taken_rings
returns c =
    let k = candidate c.args.c c.struct_told-8-1.given in
    let p = path c.args.self c.struct_told-5-1.given in
    let pred = got32 c.shl32-pred.result c.shl32-pred.type_inv ∙ rw k.exc at c.shl32-pred.ensures in
    let seed = got32 c.seed_with-seed.result c.seed_with-seed.type_inv ∙ rw (p.seed, k.q) at c.seed_with-seed.ensures in
    simp (seed, pred, k.q, k.rd, k.xq, k.lf, k.diff, k.shp)
