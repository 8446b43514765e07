-- `refusals::rows::each_refused` meets its contract. Assumes nothing.
use mathlib.Core.Path.{◌≡◌, refl, ◌∙◌}
use mathlib.Core.Bool.{Bool, true, false, ◌||◌}
use mathlib.Core.List.{[], ◌∷◌}
use Prim.Native.Nat.{ℕ}
use Rattle.refusal_rules.specs.Table.{another, each_refused}
use Rattle.std.proofs.Common.{rules, tests}
use Rattle.std.proofs.lemmas.Iterator.{YieldsList-from_slice}
use Rattle.std.proofs.lemmas.Iterator.Search.{any_from_yields_List}
use Rattle.refusals.proofs.rows.each_refused.Goals as goal

-- five tests, from the first on and from the last back
five : (a b c d e : Bool) → (a || (b || (c || (d || (e || false))))) ≡ (a || b || c || d || e)
five true b c d e = refl
five false true c d e = refl
five false false true d e = refl
five false false false true e = refl
five false false false false true = refl
five false false false false false = refl

pub returns : goal.returns
unfolding each_refused
returns c =
    let a = c.args in
    let n = a.n in
    let z = a.z in
    any_from_yields_List (λ (k : ℕ). another k n) _ _ c.any.result c.any.ensures.ran
    (YieldsList-from_slice (z.harm_gain ∷ z.tilt ∷ z.lf ∷ a.gains ∷ a.lags ∷ []) cc)
    (λ x b q k. search (rules, tests))
    ∙ five (another z.harm_gain n) (another z.tilt n) (another z.lf n) (another a.gains n) (another a.lags n)
