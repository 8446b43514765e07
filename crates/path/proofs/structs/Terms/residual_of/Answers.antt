-- `path::structs::Terms::residual_of` meets its contract. Assumes nothing.
use mathlib.Core.Path.{◌∙◌}
use Rattle.fixed.proofs.Fit.{got32, read}
use Rattle.path.specs.Path.{residual_of}
use Rattle.path.proofs.Told.{terms}
use Rattle.path.proofs.structs.Terms.residual_of.Goals as goal

pub returns : goal.returns
unfolding residual_of
returns c =
    let t = terms c.args.self c.struct_told-5-1.given in
    let r = got32 c.residual-r.result c.residual-r.type_inv ∙ rw (t.n_ar, t.n_lf, read c.ranges.n_LTP_Q14, t.lpc, t.input) at c.residual-r.ensures in
    got32 c.signed_residual.result c.signed_residual.type_inv ∙ rw (t.seed, r) at c.signed_residual.ensures
