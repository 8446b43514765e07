-- `path::structs::Path::moved` meets its contract. Assumes nothing.
use mathlib.Core.Path.{◌≡◌, ◌∙◌}
use Rattle.fixed.proofs.Fit.{got32, got16}
use Rattle.noise.specs.NoiseTerms.{ar_term}
use Rattle.seeds.specs.Generator.{rand}
use Rattle.path.specs.Path.{moved, filter_of}
use Rattle.path.proofs.Told.{path, halves}
use Rattle.path.proofs.structs.Path.moved.Goals as goal

pub returns : goal.returns
unfolding moved
returns c =
    let a = c.args in
    let p = path a.self c.struct_told-1.given in
    let h = halves a.h c.struct_told-2-1.given in
    let l = got16 c.low16-warping.result c.low16-warping.type_inv ∙ rw h.warping at c.low16-warping.ensures in
    let g = filter_of a.f a.h a.ar.now a.self in
    let w : c.warped_filter-n.result ≡ g.n_AR_Q14 = rw (l, p.diff) at c.warped_filter-n.ensures.sum in
    let s = rw (l, p.diff) at c.warped_filter-n.ensures.words in
    let n : c.n_AR-n_AR.result ≡ ar_term g.n_AR_Q14 a.self.LF_AR_Q14 a.h.Tilt_Q14 =
    rw (got32 c.warped_filter-n.result c.warped_filter-n.type_inv ∙ w, p.lf, h.tilt) at c.n_AR-n_AR.ensures in
    let r : c.rand.result ≡ rand a.self.«Seed» = rw p.seed at c.rand.ensures in
    simp (got32 c.n_AR-n_AR.result c.n_AR-n_AR.type_inv ∙ n, got32 c.rand.result c.rand.type_inv ∙ r, s)
