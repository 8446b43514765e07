-- A whole subframe, in two frames in work that are equal but for the words past a bound. Assumes nothing.
use Prim.Native.Nat.{ℕ, ◌*◌}
use mathlib.Core.Path.{◌≡◌, refl}
use mathlib.Core.Bool.{Bool, true}
use mathlib.Core.List.{List}
use lib.IntN.{ℤ}
use Rattle.path.specs.declared.structs.Fix.{Fix}
use Rattle.path.specs.Data.{Rows}
use Rattle.steps.specs.Among.{Rule}
use Rattle.steps.specs.Subframe.{subframe}
use Rattle.steps.specs.Frame.{Framed, framed_of, Whitened, before, coded, step}
use Rattle.counts.proofs.Sample.{RowsSame}
use Rattle.counts.proofs.Subframe.{Same, bound, Behind, subframe-same}
use Rattle.counts.proofs.Before.{Stands, WhiteSame, before_same}

-- two frames in work with the filtered history and the gain before
pub record FrameSame (m h b : ℕ) (t u : Framed) : Type 0 where
  pub run : Same m h b t.run u.run
  pub row : t.sLTP ≡ u.sLTP
  pub gain : t.prev_gain_Q16 ≡ u.prev_gain_Q16

-- its samples
pub coded-is : (rule : Rule) (f : Fix) (v : Rows) (x : List ℤ) (w : Whitened) → coded rule f v x w ≡ framed_of (subframe rule f v x w.run) w.sLTP f.Gain_Q16
unfolding coded
coded-is rule f v x w = refl

coded-same : (rule : Rule) (f : Fix) (v w : Rows) → RowsSame f v w → Behind f → (x : List ℤ) {m : ℕ} (t u : Whitened)
    → WhiteSame m (4 * f.subfr_length) (bound f.first f.base f.decisionDelay 0) t u
    → FrameSame m (4 * f.subfr_length) (bound f.first f.base f.decisionDelay f.subfr_length) (coded rule f v x t) (coded rule f w x u)
coded-same rule f v w s k x t u r =
    rw (coded-is rule f v x t, coded-is rule f w x u)
    (record { run = subframe-same rule f v w s k x t.run u.run r.run; row = r.row; gain = refl })

-- what comes before them, of a frame in work
abbrev pub before_it : Fix → Rows → Bool → Bool → ℤ → ℤ → Framed → Whitened
before_it f v again rewhite gain1 inv t = before again rewhite f v.a gain1 inv t.prev_gain_Q16 t.run t.sLTP

pub step_is : (rule : Rule) (f : Fix) (v : Rows) (x : List ℤ) (again rewhite : Bool) (gain1 inv : ℤ) (t : Framed)
    → step rule f v x again rewhite gain1 inv t ≡ coded rule f v x (before_it f v again rewhite gain1 inv t)
unfolding step
step_is rule f v x again rewhite gain1 inv t = refl

-- both
pub step_same : (rule : Rule) (f : Fix) (v w : Rows) → RowsSame f v w → Behind f → (x : List ℤ) (again rewhite : Bool) (gain1 inv inv' : ℤ) {m b0 : ℕ} (t u : Framed)
    → Stands again rewhite f b0 (bound f.first f.base f.decisionDelay 0) → (rewhite ≡ true → inv ≡ inv')
    → FrameSame m (4 * f.subfr_length) b0 t u
    → FrameSame m (4 * f.subfr_length) (bound f.first f.base f.decisionDelay f.subfr_length) (step rule f v x again rewhite gain1 inv t) (step rule f w x again rewhite gain1 inv' u)
step_same rule f v w s k x again rewhite gain1 inv inv' t u p i r =
    rw (step_is rule f v x again rewhite gain1 inv t, step_is rule f w x again rewhite gain1 inv' u)
    (coded-same rule f v w s k x _ _
    (rw (r.row, r.gain) (before_same again rewhite f v.a w.a gain1 inv inv' u.prev_gain_Q16 t.run u.run u.sLTP p s.a i r.run)))
