-- The change of gain before a subframe: silk_nsq_del_dec_scale_states of NSQ_del_dec.rs, but its scaling of the input, which stands at the sample
-- (`common` of the crate `shared`), and its inverse gains, which are those of the crate `silk`. Assumes nothing.
use Rattle.std.specs.Prelude.{ℕ, ◌+◌, ◌-◌, ◌*◌, Bool, List, set, ℤ}
use Rattle.fixed.specs.Iter.{iter, either}
use Rattle.products.specs.Product.{smulwb}
use Rattle.path.specs.declared.structs.Fix.{Fix}
use Rattle.fixed.specs.Row.{word}
use Rattle.path.specs.Data.{Paths, Running}
use Rattle.path.specs.Taken.{path_at, path_set}
use Rattle.path.specs.Scaled.{scaled_words, scaled_path}

-- ---- a rewhitened subframe: the work row from the filtered history
-- word a + j of the work row: (inv * sLTP[a + j]) >> 16
abbrev pub fill_turn : ℤ → List ℤ → ℕ → ℕ → List ℤ → List ℤ
fill_turn inv sLTP a j row = set row (a + j) (smulwb inv (word sLTP (a + j)))

-- m words from word a on
unfoldable pub filled : ℤ → List ℤ → ℕ → ℕ → List ℤ → List ℤ
filled inv sLTP a m row = iter (fill_turn inv sLTP a) m row

-- ---- the words that a change of gain scales
-- path k
abbrev pub scale_path_turn : ℤ → ℕ → Paths → Paths
scale_path_turn adj k p = path_set p k (scaled_path adj (path_at p k))

-- n paths
unfoldable pub scaled_paths : ℤ → ℕ → Paths → Paths
scaled_paths adj n p = iter (scale_path_turn adj) n p

-- the work row: only in a voiced frame, not where it was just rewhitened, and only from buf - lag - 2 to buf - D - 1
unfoldable pub scaled_work : Fix → Bool → ℤ → List ℤ → List ℤ
scaled_work f rewhitened adj row =
    either f.voiced
    (either rewhitened row (scaled_words adj (f.buf - f.lag - 2) (f.buf - f.«decisionDelay» - (f.buf - f.lag - 2)) row))
    row

-- a subframe in work after the change by adj: also the 4 * L shaping words from base on
unfoldable pub scaled : Fix → Bool → ℤ → Running → Running
scaled f rewhitened adj t =
    record {
      core =
          record {
            ps = scaled_paths adj f.«nStates» t.core.ps;
            sLTP_Q15 = scaled_work f rewhitened adj t.core.sLTP_Q15;
            delayedGain_Q10 = t.core.delayedGain_Q10;
            smpl_buf_idx = t.core.smpl_buf_idx;
          };
      xq = t.xq;
      sLTP_shp_Q14 = scaled_words adj f.base (4 * f.subfr_length) t.sLTP_shp_Q14;
      pulses = t.pulses;
    }
