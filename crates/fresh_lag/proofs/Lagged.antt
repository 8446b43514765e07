-- A call with another lagPrev in its state: what of its frame goes by that lag. Assumes nothing.
use Prim.Native.Nat.{ℕ, ◌-◌}
use mathlib.Core.Path.{◌≡◌, refl, ap, ◌∙◌}
use mathlib.Core.Bool.{Bool}
use mathlib.Core.List.{List}
use lib.IntN.{ℤ}
use Rattle.fixed.specs.Row.{word}
use Rattle.limits.specs.Count.{nat_z}
use Rattle.steps.specs.Among.{Rule}
use Rattle.steps.specs.declared.structs.Given.{Given}
use Rattle.steps.specs.Call.{Call, voiced_by, given_by, given_of, delay_of}
use Rattle.steps.specs.Frame.{Framed, start_paths, start, run_by, run, Done, ended_by, frame}
use Rattle.fresh_lag.specs.Lags.{from, lagged}

-- what is given, in a frame that is voiced or not, with the lag d
abbrev pub lag_given : Bool → Given → ℕ → Given
lag_given v g d =
    record {
      subfr_length = g.subfr_length;
      nb_subfr = g.nb_subfr;
      predictLPCOrder = g.predictLPCOrder;
      shapingLPCOrder = g.shapingLPCOrder;
      nStates = g.nStates;
      voiced = v;
      interpolated = g.interpolated;
      offset_Q10 = g.offset_Q10;
      Lambda_Q10 = g.Lambda_Q10;
      LTP_scale_Q14 = g.LTP_scale_Q14;
      warping_Q16 = g.warping_Q16;
      seed = g.seed;
      lagPrev = d;
      delay = g.delay;
    }

-- of what is given nothing but the lag is another, where the delays are the same
given-lagged : (v : Bool) (c : Call) (a b : ℤ) → voiced_by c.settings.signalType ≡ v → delay_of (lagged c a) ≡ delay_of (lagged c b)
    → given_of (lagged c b) ≡ lag_given v (given_of (lagged c a)) (nat_z b)
unfolding given_by lagged from
given-lagged v c a b k e = rw (e, k) refl

-- the start doesn't go by the lag
start-lagged : (c : Call) (a : ℤ) (p : List ℤ) → start (lagged c a) p ≡ start c p
unfolding start start_paths given_by lagged from
start-lagged c a p = refl

-- the frame, by what is given
abbrev pub frame_by : Rule → Given → Call → List ℤ → Framed → Done
frame_by rule g c x z =
    ended_by g (word c.Gains_Q16 (g.nb_subfr - 1)) (word c.pitchL (g.nb_subfr - 1)) c.state.sLPC_Q14
    (run_by rule g x c.PredCoef_Q12 c.LTPCoef_Q14 c.AR_Q13 c.Tilt_Q14 c.HarmShapeGain_Q14 c.LF_shp_Q14 c.Gains_Q16 c.pitchL g.nb_subfr z)

frame-lagged : (rule : Rule) (c : Call) (a : ℤ) (x p : List ℤ) → frame rule (lagged c a) x p ≡ frame_by rule (given_of (lagged c a)) c x (start (lagged c a) p)
unfolding frame run lagged from
frame-lagged rule c a x p = refl

-- the frame of a call with the lag h: that of the call with the lag a, with another lag in what is given
pub frame_at : (rule : Rule) (v : Bool) (c : Call) (a h : ℤ) (x p : List ℤ) → voiced_by c.settings.signalType ≡ v → delay_of (lagged c a) ≡ delay_of (lagged c h)
    → frame rule (lagged c h) x p ≡ frame_by rule (lag_given v (given_of (lagged c a)) (nat_z h)) c x (start c p)
frame_at rule v c a h x p k e =
    frame-lagged rule c h x p
    ∙ ap (frame_by rule (given_of (lagged c h)) c x) (start-lagged c h p)
    ∙ ap (λ (g : Given). frame_by rule g c x (start c p)) (given-lagged v c a h k e)
