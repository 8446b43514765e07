-- `lag_limits::lags::last_of` meets its contract. Assumes nothing.
use lib.IntN.{pos}
use Rattle.fixed.proofs.Fit.{got32}
use Rattle.std.proofs.lemmas.Option.{unwrap_or-slice_get}
use Rattle.limits.specs.Tests.{last_of}
use Rattle.lag_limits.proofs.lags.last_of.Goals as goal

pub returns : goal.returns
unfolding last_of
returns c =
    rw (got32 _ c.unwrap_or.type_inv, c.unwrap_or.ensures, c.copied.ensures, c.last.ensures.value) (unwrap_or-slice_get c.args.lags.now _ (pos 0))
