-- `noise::noise_terms::n_AR` meets its contract. Assumes nothing.
use mathlib.Core.Path.{◌∙◌}
use Rattle.fixed.proofs.Fit.{read, got32, got16}
use Rattle.noise.specs.NoiseTerms.{ar_term}
use Rattle.noise.proofs.noise_terms.n_AR.Goals as goal

pub returns : goal.returns
unfolding ar_term
returns c =
    let f = c.ranges in
    let doubled = rw (read f.n) at c.shl32-doubled.ensures in
    let low = rw (read f.tilt) at c.low16.ensures in
    let sum = rw (got32 c.shl32-doubled.result c.shl32-doubled.type_inv, read f.lf_ar, got16 c.low16.result c.low16.type_inv, doubled, low) at c.smlawb.ensures in
    got32 c.shl32.result c.shl32.type_inv
    ∙ rw (got32 c.smlawb.result c.smlawb.type_inv, sum) at c.shl32.ensures
