-- `harmonic::terms::n_LTP` meets its contract. Assumes nothing.
use mathlib.Core.Path.{◌∙◌}
use Rattle.fixed.proofs.Fit.{read, got32, got16}
use Rattle.word_steps.specs.Harmonic.{shaped_lag, ltp_term}
use Rattle.harmonic.proofs.terms.n_LTP.Goals as goal

pub returns : goal.returns
unfolding shaped_lag ltp_term
returns c =
    let f = c.ranges in
    let outer = rw (got32 _ c.add32-arg-1.given, got32 _ c.add32-arg-2-1.given) at c.add32-outer.ensures in
    let low = rw (read f.packed) at c.low16.ensures in
    let first = rw (got32 c.add32-outer.result c.add32-outer.type_inv, got16 c.low16.result c.low16.type_inv, outer, low) at c.smulwb-n.ensures in
    let both = rw (got32 c.smulwb-n.result c.smulwb-n.type_inv, got32 _ c.smlawt-arg-1.given, read f.packed, first) at c.smlawt-shaped.ensures in
    let scaled = rw (got32 c.smlawt-shaped.result c.smlawt-shaped.type_inv, both) at c.shl32.ensures in
    got32 c.sub32.result c.sub32.type_inv
    ∙ rw (read f.ltp_pred, got32 c.shl32.result c.shl32.type_inv, scaled) at c.sub32.ensures
