-- `path::structs::Path::pair` meets its contract. Assumes nothing.
use Rattle.fixed.proofs.Fit.{read}
use Rattle.path.specs.Path.{pair}
use Rattle.path.proofs.Told.{path, common}
use Rattle.path.proofs.structs.Path.pair.Goals as goal

pub returns : goal.returns
unfolding pair
returns c =
    let a = c.args in
    let s = common a.s c.struct_told-1.given in
    let p = path a.self c.struct_told-2-1.given in
    let e = rw (read c.ranges.n_AR_Q14) at c.terms-t.ensures in
    rw (s.n_ltp, p.rd, e) at c.pair_of.ensures
