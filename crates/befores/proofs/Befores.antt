-- The three steps before a subframe's samples, put together.
use mathlib.Core.Path.{◌≡◌, refl, ap, ◌∙◌}
use mathlib.Core.Bool.{Bool, true, false}
use mathlib.Core.List.{List}
use Prim.Native.Nat.{◌+◌, ◌-◌, ◌*◌}
use lib.IntN.{ℤ}
use Rattle.fixed.specs.Iter.{either}
use Rattle.path.specs.declared.structs.Fix.{Fix}
use Rattle.path.specs.Data.{Work, Running, running}
use Rattle.steps.specs.Scale.{filled}
use Rattle.steps.specs.Frame.{rewhitened_at, refilled, whitened_of, whitened, whitened_first, flushed_first, regained, regained_last, before}

-- the work row after the rewhitening
abbrev pub refill : Bool → Fix → List ℤ → ℤ → List ℤ → List ℤ → List ℤ → List ℤ
refill rewhite f a inv xq sltp ltp =
    either rewhite (filled inv (rewhitened_at f a xq sltp) (4 * f.subfr_length - f.lag - 2) (f.lag + 2) ltp) ltp

-- the filtered history after it
abbrev pub whites : Bool → Fix → List ℤ → List ℤ → List ℤ → List ℤ
whites rewhite f a xq sltp = either rewhite (rewhitened_at f a xq sltp) sltp

-- a subframe in work with another work row
abbrev pub with_row : Work → List ℤ → Work
with_row u ltp =
    record {
      states = u.states;
      chosen = u.chosen;
      sLTP_Q15 = ltp;
      delayedGain_Q10 = u.delayedGain_Q10;
      smpl_buf_idx = u.smpl_buf_idx;
      xq = u.xq;
      sLTP_shp_Q14 = u.sLTP_shp_Q14;
    }

whitened-is : (rewhite : Bool) (f : Fix) (a : List ℤ) (inv : ℤ) (u : Work) (out sltp : List ℤ)
    → whitened_of (running (with_row u (refill rewhite f a inv u.xq sltp u.sLTP_Q15)) out) (whites rewhite f a u.xq sltp)
    ≡ whitened_first rewhite f a inv (running u out) sltp
unfolding whitened_first whitened refilled
whitened-is true f a inv u out sltp = refl
whitened-is false f a inv u out sltp = refl

-- u is the subframe in work after the flush, ltp its work row after the rewhitening, row the filtered history, v the subframe in work at the end
pub before-is : (again rewhite : Bool) (f : Fix) (a : List ℤ) (gain1 inv prev : ℤ) (t : Running) (sltp : List ℤ) (u v : Work) (out ltp row : List ℤ)
    → running u out ≡ flushed_first again f gain1 t
    → row ≡ whites rewhite f a u.xq sltp
    → ltp ≡ refill rewhite f a inv u.xq sltp u.sLTP_Q15
    → running v out ≡ regained f rewhite prev (running (with_row u ltp) out)
    → whitened_of (running v out) row ≡ before again rewhite f a gain1 inv prev t sltp
unfolding before
before-is again rewhite f a gain1 inv prev t sltp u v out ltp row e1 e2 e3 e4 =
    ap (λ (r : Running). whitened_of r row) e4
    ∙ ap (regained_last rewhite f prev)
    (
    ap (λ (l : List ℤ). whitened_of (running (with_row u l) out) row) e3
    ∙ ap (λ (l : List ℤ). whitened_of (running (with_row u (refill rewhite f a inv u.xq sltp u.sLTP_Q15)) out) l) e2
    ∙ whitened-is rewhite f a inv u out sltp
    ∙ ap (λ (r : Running). whitened_first rewhite f a inv r sltp) e1
    )
