-- A turn of the samples' loop in two steps: what is written from a settled sample, and the turn as one expression; and the rows that the paths carry.
use mathlib.Core.Path.{◌≡◌, refl, ap, ◌∙◌}
use mathlib.Core.Bool.{Bool}
use mathlib.Core.List.{List}
use Prim.Native.Nat.{ℕ, ◌+◌, ◌-◌, ◌*◌}
use lib.IntN.{ℤ}
use lib.ListN.{set}
use Rattle.fixed.specs.Shift.{shr32}
use Rattle.noise.specs.Output.{pulse_of, xq_out}
use Rattle.path.specs.declared.structs.Fix.{Fix}
use Rattle.path.specs.declared.structs.Common.{Common}
use Rattle.path.specs.declared.structs.Sampled.{Sampled}
use Rattle.fixed.specs.Row.{word}
use Rattle.path.specs.Data.{Paths, Running, Rows}
use Rattle.steps.specs.Among.{Rule}
use Rattle.steps.specs.Carried.{candidates_at, fined_at, swap_from, swap_at, chosen, copied_row, pulses_noted, carry_turn}
use Rattle.steps.specs.Each.{moves, pairs}
use Rattle.steps.specs.Settled.{settled_of}
use Rattle.steps.specs.Sample.{sample}
use Rattle.steps.specs.Turn.{took_from, took, put_at, put, turn}
use Rattle.steps.specs.Leaving.{leaves, emit}
use Rattle.steps.specs.Shared.{predicted, common_from, common}
use Rattle.places.specs.Places.{down, delayed}

-- what is written, row by row: u is the frame in work after it, q are the paths that the sample leaves
pub record Written (f : Fix) (i : ℕ) (now : Bool) (g : ℤ) (p r : ℕ) (s : Sampled) (q : Paths) (t u : Running) : Type 0 where
  pub left : u.core.ps ≡ q
  pub work : u.core.sLTP_Q15 ≡ emit now t.core.sLTP_Q15 (f.buf + i - f.«decisionDelay») s.Pred_Q15
  pub gain : u.core.delayedGain_Q10 ≡ set t.core.delayedGain_Q10 r (shr32 f.Gain_Q16 6)
  pub place : u.core.smpl_buf_idx ≡ r
  pub history : u.xq ≡ emit now t.xq (4 * f.subfr_length + p) (xq_out s.Xq_Q14 g 8)
  pub shaping : u.sLTP_shp_Q14 ≡ emit now t.sLTP_shp_Q14 (4 * f.subfr_length + p) s.Shape_Q14
  pub pulse : u.pulses ≡ emit now t.pulses p (pulse_of s.Q_Q10)

-- a subframe in work, of its words
abbrev pub made : Paths → List ℤ → List ℤ → ℕ → List ℤ → List ℤ → List ℤ → Running
made ps ltp dgain r xq shp out =
    record { core = record { ps = ps; sLTP_Q15 = ltp; delayedGain_Q10 = dgain; smpl_buf_idx = r }; xq = xq; sLTP_shp_Q14 = shp; pulses = out }

-- is `put_at`
pub written : (f : Fix) (i : ℕ) (now : Bool) (g : ℤ) (p r : ℕ) (s : Sampled) (q : Paths) (t u : Running)
    → Written f i now g p r s q t u
    → u ≡ put_at f i now g p r (settled_of s q) t
unfolding put_at
written f i now g p r s q t u w =
    let a = w.work in
    let b = w.gain in
    let c = w.history in
    let d = w.shaping in
    let e = w.pulse in
    let h = w.left in
    let j = w.place in
    let all : made u.core.ps u.core.sLTP_Q15 u.core.delayedGain_Q10 u.core.smpl_buf_idx u.xq u.sLTP_shp_Q14 u.pulses
    ≡ put_at f i now g p r (settled_of s q) t = cc in
    all

-- sample i with what all paths share, s, the ring going from place r0 to r
abbrev pub turn_with : Rule → Fix → Rows → ℕ → Running → ℕ → Common → Running
turn_with rule f v i t r s =
    put_at f i (leaves f i) (word t.core.delayedGain_Q10 (delayed f r)) (f.base + i - f.«decisionDelay») r
    (sample rule f v.half v.a v.ar s i t.core.smpl_buf_idx r (delayed f r) t.core.ps)
    t

pub turn_is : (rule : Rule) (f : Fix) (v : Rows) (x : List ℤ) (i : ℕ) (t : Running)
    → turn_with rule f v i t (down t.core.smpl_buf_idx)
    (common_from f v.half.HarmShapeFIRPacked_Q14 t.sLTP_shp_Q14 x i (predicted f v.b t.core.sLTP_Q15 i))
    ≡ turn rule f v x i t
unfolding turn put took took_from common
turn_is rule f v x i t = refl

-- the rows after sample i, from the frame u that it leaves, what all paths share, s, and the ring's place r
pub carry-is : (rule : Rule) (f : Fix) (v : Rows) (x : List ℤ) (i : ℕ) (t u : Running) (s : Common) (r : ℕ) (rows : List (List ℤ))
    → u ≡ turn rule f v x i t
    → s ≡ common_from f v.half.HarmShapeFIRPacked_Q14 t.sLTP_shp_Q14 x i (predicted f v.b t.core.sLTP_Q15 i)
    → r ≡ down t.core.smpl_buf_idx
    → pulses_noted f.nStates (f.base + i) u.core.smpl_buf_idx u.core.ps.rings
    (copied_row
    (swap_from (pairs f v.a s i t.core.smpl_buf_idx (moves f v.half v.ar t.core.ps.owns) t.core.ps.lpcs t.core.ps.rings) t.core.ps.rings
    f.nStates
    (delayed f r))
    rows)
    ≡ carry_turn chosen rule f v x i t rows
unfolding carry_turn swap_at fined_at candidates_at common
carry-is rule f v x i t u s r rows after shared place =
    let swap : Common → ℕ → List (List ℤ) = λ c j.
    copied_row
    (swap_from (pairs f v.a c i t.core.smpl_buf_idx (moves f v.half v.ar t.core.ps.owns) t.core.ps.lpcs t.core.ps.rings) t.core.ps.rings
    f.nStates
    (delayed f j))
    rows in
    ap (λ (z : Running). pulses_noted f.nStates (f.base + i) z.core.smpl_buf_idx z.core.ps.rings (swap s r)) after
    ∙ ap (λ (z : Common). pulses_noted f.nStates (f.base + i) (turn rule f v x i t).core.smpl_buf_idx (turn rule f v x i t).core.ps.rings (swap z r)) shared
    ∙ ap (λ (j : ℕ). pulses_noted f.nStates (f.base + i) (turn rule f v x i t).core.smpl_buf_idx (turn rule f v x i t).core.ps.rings (swap (common f v x i t) j)) place
