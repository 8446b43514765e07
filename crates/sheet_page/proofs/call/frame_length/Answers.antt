-- `sheet_page::call::frame_length` meets its contract. Assumes nothing.
use mathlib.Core.Path.{◌≡◌}
use mir.Syntax.{w32}
use mir.Val.{SFits}
use Rattle.fixed.proofs.Fit.{read}
use Rattle.limits.specs.Count.{nat_z}
use Rattle.sheet_page.specs.Calls.{frame_length}
use Rattle.std.proofs.Common.{rules}
use Rattle.sheet_page.proofs.call.frame_length.Goals as goal

-- N by the two counts
pub returns : goal.returns
unfolding frame_length
returns c =
    let n : SFits w32 c.args.s.nb_subfr = search rules in
    let l : SFits w32 c.args.s.subfr_length = search rules in
    let of-n : c.count.result ≡ nat_z c.args.s.nb_subfr = rw (read n) at c.count.ensures in
    let of-l : c.count-2.result ≡ nat_z c.args.s.subfr_length = rw (read l) at c.count-2.ensures in
    rw (of-n, of-l)
