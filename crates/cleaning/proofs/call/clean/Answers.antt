-- `cleaning::call::clean` meets its contract. Assumes nothing.
use mathlib.Core.Path.{◌≡◌, refl, sym, ap, ◌∙◌}
use mathlib.Core.List.{List}
use lib.IntN.{ℤ}
use Rattle.fixed.proofs.Fit.{read}
use Rattle.silk.specs.declared.structs.NsqState.{NsqState}
use Rattle.silk.specs.declared.structs.Settings.{Settings}
use Rattle.steps.specs.Call.{call_of}
use Rattle.cleaning.specs.Cleaned.{kept_at, harm_counts, cleaned}
use Rattle.cleaning.proofs.call.clean.Goals as goal

-- a call by its parts
together : (state : NsqState) (lf gains : List ℤ) {r s : Settings} {p q l m a b h i t u g k : List ℤ} → r ≡ s → p ≡ q → l ≡ m → a ≡ b → h ≡ i → t ≡ u → g ≡ k
    → call_of r state p l a h t lf gains g ≡ call_of s state q m b i u lf gains k
together state lf gains e p l a h t g = rw (e, p, l, a, h, t, g) refl

pub returns : goal.returns
unfolding cleaned
returns c =
    let a = c.args in
    let h = rw (read c.ranges.lagPrev) at c.harm.ensures in
    λ state lf gains e.
    together state lf gains c.settings.ensures c.pred.ensures c.ltp.ensures c.ar.ensures
    (h ∙ ap (λ (y : ℤ). kept_at (harm_counts a.s y) a.harm.now) (sym e))
    c.tilt.ensures
    c.lags.ensures
