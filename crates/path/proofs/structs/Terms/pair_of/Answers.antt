-- `path::structs::Terms::pair_of` meets its contract. Assumes nothing.
use mathlib.Core.Path.{◌≡◌, ◌∙◌}
use Rattle.fixed.proofs.Fit.{got32, read}
use lib.IntN.{◌+ℤ◌}
use Rattle.fixed.specs.Wrap.{wrap32}
use Rattle.choice.specs.RustChoice.{choice}
use Rattle.path.specs.Path.{pair_of, pair_from, residual_of, candidate_of}
use Rattle.path.proofs.Told as told
use Rattle.path.proofs.structs.Terms.pair_of.Goals as goal

pub returns : goal.returns
unfolding pair_of pair_from
returns c =
    let a = c.args in
    let f = told.fix a.f c.struct_told-1.given in
    let r = got32 c.residual_of-r.result c.residual_of-r.type_inv ∙ rw (read c.ranges.n_LTP_Q14) at c.residual_of-r.ensures in
    let y = c.candidates-c.result in
    let e : y ≡ choice (residual_of a.self a.n_LTP_Q14) a.f.Lambda_Q10 a.f.offset_Q10 =
    rw (r, f.lambda, f.offset) at c.candidates-c.ensures in
    let k = told.choice y c.struct_told-3-1.given in
    let rd = read c.ranges.rd in
    let g = got32 c.add32.result c.add32.type_inv ∙ rw (rd, k.first_cost) at c.add32.ensures in
    let h = got32 c.add32-2.result c.add32-2.type_inv ∙ rw (rd, k.second_cost) at c.add32-2.ensures in
    let u : c.of-first.result ≡ candidate_of a.self y.first_level (wrap32 (a.rd +ℤ y.first_cost)) = rw (k.first, g) at c.of-first.ensures in
    let v : c.of-second.result ≡ candidate_of a.self y.second_level (wrap32 (a.rd +ℤ y.second_cost)) = rw (k.second, h) at c.of-second.ensures in
    simp (u, v, e)
