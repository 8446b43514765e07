-- `cleaning::rows::lags` meets its contract. Assumes nothing.
use mathlib.Core.Path.{◌≡◌, sym, ap, ◌∙◌}
use mathlib.Core.Bool.{true, false}
use mathlib.Core.List.{List, [], ◌∷◌, ◌++◌}
use lib.ListN.{length}
use lib.IntN.{ℤ}
use Rattle.std.proofs.Common.{rules}
use Rattle.counts.specs.Conditions.{voiced}
use Rattle.cleaning.specs.Cleaned.{lag_counts}
use Rattle.cleaning.proofs.Places.{kept-all}
use Rattle.cleaning.proofs.Keeps.{lag-counts}
use Rattle.cleaning.proofs.Loops.{nothing-kept, last-kept-alone}
use Rattle.cleaning.proofs.rows.lags.Goals as goal

pub returns-then-voiced : goal.returns-then-voiced
returns-then-voiced c =
    let s = c.args.s in
    let row = c.args.row.now in
    let t : voiced s ≡ true = sym c.voiced.ensures ∙ c.if-voiced.true in
    kept-all (lag_counts s (length row)) row (λ j. lag-counts s (length row) j t)

pub returns-in-Some : goal.returns-in-Some
returns-in-Some c =
    let s = c.args.s in
    let z = c.in-Some._last.now in
    let rest = c.in-Some.rest.now in
    let parts = c.in-Some.ensures.cases in
    let t : voiced s ≡ false = sym c.voiced.ensures ∙ c.if-voiced.false in
    ap (λ (l : List ℤ). l ++ z ∷ []) (search rules) ∙ last-kept-alone s rest z c.args.row.now t parts.0 parts.1

pub returns-in_default : goal.returns-in_default
returns-in_default c =
    let row = c.args.row.now in
    nothing-kept (lag_counts c.args.s (length row)) row c.in_default.ensures.cases
