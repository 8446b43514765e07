-- A lag that isn't heard, in a voiced frame: its lags are those of the row, and nothing goes by the state's. Assumes nothing.
use Prim.Native.Nat.{ℕ}
use mathlib.Core.Path.{◌≡◌, refl, sym, ◌∙◌}
use mathlib.Core.Bool.{true}
use mathlib.Core.List.{List}
use lib.IntN.{ℤ}
use Rattle.limits.specs.Count.{nat_z}
use Rattle.steps.specs.Among.{Rule}
use Rattle.steps.specs.declared.structs.Given.{Given}
use Rattle.steps.specs.Call.{Call, voiced_by, delay_by, given_by, given_of, delay_of, lag_by, twice_by, second_by, rewhites_by, since_by, row_by, fix_by, halves_by, rows_by, white_by}
use Rattle.steps.specs.Frame.{Framed, start, prior_by, turn_by, left_by, ended_by, frame}
use Rattle.fresh_lag.specs.Lags.{from, lagged}
use Rattle.fresh_lag.proofs.Lagged.{lag_given, frame_by, frame_at}

-- the delay goes by the lags of the row
delays-voiced : (c : Call) (a b : ℤ) → voiced_by c.settings.signalType ≡ true → delay_of (lagged c a) ≡ delay_of (lagged c b)
unfolding given_by delay_by lagged from
delays-voiced c a b v = rw v refl

-- and so does the frame
frame-voiced : (rule : Rule) (g : Given) (c : Call) (x : List ℤ) (z : Framed) (d e : ℕ) → frame_by rule (lag_given true g d) c x z ≡ frame_by rule (lag_given true g e) c x z
unfolding turn_by prior_by fix_by lag_by since_by twice_by second_by rewhites_by rows_by row_by halves_by white_by ended_by left_by
frame-voiced rule g c x z d e = refl

-- two calls that differ only in lagPrev, in a voiced frame: both come to the same
pub voiced-frame : (rule : Rule) (c : Call) (a b : ℤ) (x p : List ℤ) → voiced_by c.settings.signalType ≡ true → frame rule (lagged c a) x p ≡ frame rule (lagged c b) x p
voiced-frame rule c a b x p v =
    frame_at rule true c a a x p v refl
    ∙ frame-voiced rule (given_of (lagged c a)) c x (start c p) (nat_z a) (nat_z b)
    ∙ sym (frame_at rule true c a b x p v (delays-voiced c a b v))
