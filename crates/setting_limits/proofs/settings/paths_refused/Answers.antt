-- `setting_limits::settings::paths_refused` meets its contract. Assumes nothing.
use Rattle.fixed.proofs.Fit.{read}
use Rattle.limits.specs.Tests.{paths_refused}
use Rattle.setting_limits.proofs.settings.paths_refused.Goals as goal

pub returns : goal.returns
unfolding paths_refused
returns c = rw (read c.ranges.paths) at c.outside.ensures
