-- `noise::noise_terms::n_LF` meets its contract. Assumes nothing.
use mathlib.Core.Path.{◌∙◌}
use Rattle.fixed.proofs.Fit.{read, got32, got16}
use Rattle.noise.specs.NoiseTerms.{lf_term}
use Rattle.noise.proofs.noise_terms.n_LF.Goals as goal

pub returns : goal.returns
unfolding lf_term
returns c =
    let f = c.ranges in
    let low = rw (read f.lf_shp) at c.low16.ensures in
    let first = rw (read f.shape, got16 c.low16.result c.low16.type_inv, low) at c.smulwb-low.ensures in
    let sum = rw (got32 c.smulwb-low.result c.smulwb-low.type_inv, read f.lf_ar, read f.lf_shp, first) at c.smlawt.ensures in
    got32 c.shl32.result c.shl32.type_inv
    ∙ rw (got32 c.smlawt.result c.smlawt.type_inv, sum) at c.shl32.ensures
