-- `cleaning::rows::ltp` meets its contract. Assumes nothing.
use mathlib.Core.Path.{◌≡◌, sym, ◌∙◌}
use mathlib.Core.Bool.{true, false}
use Rattle.counts.specs.Conditions.{voiced}
use Rattle.cleaning.specs.Cleaned.{ltp_counts}
use Rattle.cleaning.proofs.Places.{kept-all}
use Rattle.cleaning.proofs.Loops.{none-kept}
use Rattle.cleaning.proofs.rows.ltp.Goals as goal

pub returns-then-not-voiced : goal.returns-then-not-voiced
unfolding ltp_counts
returns-then-not-voiced c =
    let s = c.args.s in
    let t : voiced s ≡ false = sym c.voiced.ensures ∙ c.if-not-voiced.true in
    c.fill.ensures.after (λ y e. e) ∙ none-kept (ltp_counts s) c.args.row.now (λ j. t)

pub returns-else-not-voiced : goal.returns-else-not-voiced
unfolding ltp_counts
returns-else-not-voiced c =
    let s = c.args.s in
    let t : voiced s ≡ true = sym c.voiced.ensures ∙ c.if-not-voiced.false in
    kept-all (ltp_counts s) c.args.row.now (λ j. t)
