-- How a flush scales its history samples, by the code's enum: each case is one of the definition's two. Assumes nothing.
use Rattle.std.specs.Prelude.{ℤ}
use Rattle.edges.specs.declared.ends.Fit.{Fit}
use Rattle.edges.specs.declared.ends.Fit.TheVariants.{Middle, Last}
use Rattle.steps.specs.Flush.{fit_middle, fit_last}

-- in the middle of the frame, or at its end
unfoldable pub fit_by : Fit → ℤ → ℤ
fit_by (Middle gain) v = fit_middle gain v
fit_by (Last gain) v = fit_last gain v
