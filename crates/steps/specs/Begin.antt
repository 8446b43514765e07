-- The paths before the first subframe: the top of silk_NSQ_del_dec_c of NSQ_del_dec.rs ("Initialize delayed decision states"), given by the words
-- of the state and of the call that it reads. Assumes nothing.
use Rattle.std.specs.Prelude.{ℕ, ◌+◌, ◌%◌, List, set, replicate, ℤ, pos}
use Rattle.fixed.specs.Iter.{iter}
use Rattle.silk.specs.State.{zeros}
use Rattle.path.specs.declared.structs.Path.{Path}
use Rattle.fixed.specs.Row.{word}
use Rattle.path.specs.Data.{Paths, ring_shape}
use Rattle.path.specs.Taken.{whole, path_set}

-- ---- the four paths before any is begun
-- a path of zeros
unfoldable pub zero_path : Path
zero_path =
    record { sAR2_Q14 = zeros 24; LF_AR_Q14 = pos 0; Diff_Q14 = pos 0; «Seed» = pos 0; «SeedInit» = pos 0; RD_Q10 = pos 0 }

-- the LPC words of four paths, all zero
unfoldable pub zero_lpcs : List (List ℤ)
zero_lpcs = replicate 4 (zeros 96)

-- the five rings of four paths, all zero
unfoldable pub zero_rings : List (List (List ℤ))
zero_rings = replicate 4 (replicate 5 (zeros 40))

-- ---- one path begun
-- its short words, from sAR2_Q14, sLF_AR_shp_Q14 and sDiff_shp_Q14 of the state; the seed of path k is (k + the seed given) modulo 4
unfoldable pub own_from : List ℤ → ℤ → ℤ → ℕ → ℕ → Path
own_from ar2 lf diff seed k =
    record {
      sAR2_Q14 = ar2;
      LF_AR_Q14 = lf;
      Diff_Q14 = diff;
      «Seed» = pos ((k + seed) % 4);
      «SeedInit» = pos ((k + seed) % 4);
      RD_Q10 = pos 0;
    }

-- one word of a row that is copied
abbrev pub copy_turn : List ℤ → ℕ → List ℤ → List ℤ
copy_turn from j l = set l j (word from j)

-- its LPC words: 16 of the state's, then zeros
unfoldable pub start_lpc : List ℤ → List ℤ
start_lpc lpc = iter (copy_turn lpc) 16 (zeros 96)

-- its rings: zeros, but Shape_Q14[0], the last shaping word of the history
unfoldable pub start_rings : ℤ → List (List ℤ)
start_rings shape = set (replicate 5 (zeros 40)) ring_shape (set (zeros 40) 0 shape)

-- ---- all paths begun
-- path k; the long rows are the same for all
abbrev pub begin_turn : List ℤ → ℤ → ℤ → ℕ → List ℤ → List (List ℤ) → ℕ → Paths → Paths
begin_turn ar2 lf diff seed lpc ring k p = path_set p k (whole (own_from ar2 lf diff seed k) lpc ring)

-- n paths
unfoldable pub begun : List ℤ → ℤ → ℤ → List ℤ → ℤ → ℕ → ℕ → Paths → Paths
begun ar2 lf diff lpc shape seed n p = iter (begin_turn ar2 lf diff seed (start_lpc lpc) (start_rings shape)) n p
