-- What a change of gain scales in one path: a part of silk_nsq_del_dec_scale_states of NSQ_del_dec.rs. Assumes nothing.
use Rattle.std.specs.Prelude.{ℕ, ◌+◌, List, [], get_or, set, ℤ}
use Rattle.fixed.specs.Iter.{iter}
use Rattle.products.specs.Product.{smulww}
use Rattle.path.specs.declared.structs.Path.{Path}
use Rattle.fixed.specs.Row.{word}
use Rattle.path.specs.Data.{ring_pred, ring_shape}
use Rattle.path.specs.Taken.{Whole, whole}

-- word a + j of a row: (gain_adj_Q16 * word) >> 16
abbrev pub scale_turn : ℤ → ℕ → ℕ → List ℤ → List ℤ
scale_turn adj a j row = set row (a + j) (smulww adj (word row (a + j)))

-- m words from word a on
unfoldable pub scaled_words : ℤ → ℕ → ℕ → List ℤ → List ℤ
scaled_words adj a m row = iter (scale_turn adj a) m row

-- the short words of a path: both scalars, all 24 filter words
unfoldable pub scaled_own : ℤ → Path → Path
scaled_own adj p =
    record {
      sAR2_Q14 = scaled_words adj 0 24 p.sAR2_Q14;
      LF_AR_Q14 = smulww adj p.LF_AR_Q14;
      Diff_Q14 = smulww adj p.Diff_Q14;
      «Seed» = p.«Seed»;
      «SeedInit» = p.«SeedInit»;
      RD_Q10 = p.RD_Q10;
    }

-- ring f, whole
abbrev pub scaled_ring : ℤ → ℕ → List (List ℤ) → List (List ℤ)
scaled_ring adj f ring = set ring f (scaled_words adj 0 40 (get_or ring f []))

-- a path: its short words, LPC words 0 to 15, both rings Pred_Q15 and Shape_Q14
unfoldable pub scaled_path : ℤ → Whole → Whole
scaled_path adj w =
    whole (scaled_own adj w.own) (scaled_words adj 0 16 w.lpc) (scaled_ring adj ring_shape (scaled_ring adj ring_pred w.ring))
