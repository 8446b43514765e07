-- One sample of a subframe: silk_noise_shape_quantizer_del_dec of NSQ_del_dec.rs. It first reads (`took`), then writes (`put`). Assumes nothing.
use Rattle.std.specs.Prelude.{ℕ, ◌+◌, ◌-◌, ◌*◌, Bool, List, set, ℤ}
use Rattle.fixed.specs.Shift.{shr32}
use Rattle.noise.specs.Output.{pulse_of, xq_out}
use Rattle.path.specs.declared.structs.Fix.{Fix}
use Rattle.path.specs.declared.structs.Common.{Common}
use Rattle.fixed.specs.Row.{word}
use Rattle.path.specs.Data.{Paths, Running, Rows}
use Rattle.steps.specs.Among.{Rule}
use Rattle.steps.specs.Settled.{Settled}
use Rattle.steps.specs.Sample.{sample}
use Rattle.places.specs.Places.{down, delayed}
use Rattle.steps.specs.Shared.{common}
use Rattle.steps.specs.Leaving.{leaves, emit}

-- the sample itself, from what all paths share; r0 the ring's place before it
unfoldable pub took_from : Rule → Fix → Rows → ℕ → ℕ → Paths → Common → Settled
took_from rule f v i r0 p s = sample rule f v.half v.a v.ar s i r0 (down r0) (delayed f (down r0)) p

-- read: what sample i comes to
unfoldable pub took : Rule → Fix → Rows → List ℤ → ℕ → Running → Settled
took rule f v x i t = took_from rule f v i t.core.smpl_buf_idx t.core.ps (common f v x i t)

-- write: what leaves, the paths, the delayed gain. g is the delayed gain of what leaves, p its place in the frame, r the ring's place now
unfoldable pub put_at : Fix → ℕ → Bool → ℤ → ℕ → ℕ → Settled → Running → Running
put_at f i now g p r s t =
    record {
      core =
          record {
            ps = s.ps;
            sLTP_Q15 = emit now t.core.sLTP_Q15 (f.buf + i - f.«decisionDelay») s.Pred_Q15;
            delayedGain_Q10 = set t.core.delayedGain_Q10 r (shr32 f.Gain_Q16 6);
            smpl_buf_idx = r;
          };
      xq = emit now t.xq (4 * f.subfr_length + p) (xq_out s.Xq_Q14 g 8);
      sLTP_shp_Q14 = emit now t.sLTP_shp_Q14 (4 * f.subfr_length + p) s.Shape_Q14;
      pulses = emit now t.pulses p (pulse_of s.Q_Q10);
    }

-- what a settled sample writes, each word at its place
unfoldable pub put : Fix → ℕ → Settled → Running → Running
put f i s t =
    put_at f i (leaves f i) (word t.core.delayedGain_Q10 (delayed f (down t.core.smpl_buf_idx))) (f.base + i - f.«decisionDelay»)
    (down t.core.smpl_buf_idx) s t

-- sample i
unfoldable pub turn : Rule → Fix → Rows → List ℤ → ℕ → Running → Running
turn rule f v x i t = put f i (took rule f v x i t) t
