-- `setting_limits::settings::odd` meets its contract. Assumes nothing.
use mathlib.Core.Path.{◌≡◌}
use Rattle.fixed.proofs.Fit.{read}
use Rattle.limits.specs.Tests.{odd_z}
use Rattle.limits.specs.Count.{nat_z}
use Rattle.setting_limits.proofs.settings.odd.Goals as goal

pub returns : goal.returns
unfolding odd_z
returns c = let e : c.count.result ≡ nat_z c.args.x = rw (read c.ranges.x) at c.count.ensures in rw e
