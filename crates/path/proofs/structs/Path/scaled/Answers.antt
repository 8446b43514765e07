-- `path::structs::Path::scaled` meets its contract. Assumes nothing.
use mathlib.Core.Path.{◌∙◌}
use Rattle.fixed.proofs.Fit.{got32, read}
use Rattle.path.specs.Scaled.{scaled_path, scaled_own}
use Rattle.path.proofs.Told.{path}
use Rattle.path.proofs.structs.Path.scaled.Goals as goal

pub returns : goal.returns
unfolding scaled_path scaled_own
returns c =
    let p = path c.args.self c.struct_told-1.given in
    let f = read c.ranges.adj in
    let lf = got32 c.smulww.result c.smulww.type_inv ∙ rw (f, p.lf) at c.smulww.ensures in
    let diff = got32 c.smulww-2.result c.smulww-2.type_inv ∙ rw (f, p.diff) at c.smulww-2.ensures in
    let a = rw f at c.scaled_words.ensures in
    let b = rw f at c.scaled_filter.ensures in
    let d = rw f at c.scaled_words-2.ensures in
    let e = rw f at c.scaled_words-3.ensures in
    simp (lf, diff, a, b, e, d)
