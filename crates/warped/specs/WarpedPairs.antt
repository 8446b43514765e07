-- The warped filter in the Rust's own order of steps, two places at a turn: `NSQ_del_dec.rs`, lines 639 to 673. It is here to be
-- read beside the Rust: the contract cites `warped_filter`, which is equal (proofs/WarpedPairs.antt, `warped-by-pairs`).
-- Between two turns the Rust has tmp1 in hand: it is the `tmp` of `Filter`.
-- Assumes nothing.
use Rattle.std.specs.Prelude.{ℕ, ◌+◌, ◌-◌, ◌*◌, ◌/◌, List, ℤ, pos, ◌-ℤ◌, get_or, set}
use Rattle.fixed.specs.Iter.{iter}
use Rattle.fixed.specs.Wrap.{wrap32}
use Rattle.products.specs.Product.{smlawb}
use Rattle.warped.specs.WarpedFilter.{Filter, write}

-- tmp2 = Diff_Q14 + (sAR2[0] * warping >> 16)
abbrev pub first_tmp2 : List ℤ → ℤ → ℤ → ℤ
first_tmp2 s warping diff = smlawb diff (get_or s 0 (pos 0)) warping

-- before the loop: tmp1 = sAR2[0] + ((sAR2[1] - tmp2) * warping >> 16), sAR2[0] = tmp2, n_AR = order >> 1, n_AR += tmp2 * AR_shp[0] >> 16
abbrev pub before_loop : List ℤ → List ℤ → ℕ → ℤ → ℤ → Filter
before_loop s ar order warping diff = record {
  sAR2_Q14 = set s 0 (first_tmp2 s warping diff);
  tmp = smlawb (get_or s 0 (pos 0)) (wrap32 (get_or s 1 (pos 0) -ℤ first_tmp2 s warping diff)) warping;
  n_AR_Q14 = smlawb (pos (order / 2)) (first_tmp2 s warping diff) (get_or ar 0 (pos 0));
}

-- first half of the turn at j: tmp2 = sAR2[j - 1] + ((sAR2[j] - tmp1) * warping >> 16)
abbrev pub tmp2_at : ℤ → ℕ → Filter → ℤ
tmp2_at warping j f =
    smlawb (get_or f.sAR2_Q14 (j - 1) (pos 0)) (wrap32 (get_or f.sAR2_Q14 j (pos 0) -ℤ f.tmp)) warping

-- .. sAR2[j - 1] = tmp1
abbrev pub words_at : ℕ → Filter → List ℤ
words_at j f = set f.sAR2_Q14 (j - 1) f.tmp

-- .. n_AR += tmp1 * AR_shp[j - 1] >> 16
abbrev pub sum_at : List ℤ → ℕ → Filter → ℤ
sum_at ar j f = smlawb f.n_AR_Q14 f.tmp (get_or ar (j - 1) (pos 0))

-- second half: tmp1 = sAR2[j] + ((sAR2[j + 1] - tmp2) * warping >> 16), sAR2[j] = tmp2, n_AR += tmp2 * AR_shp[j] >> 16
abbrev pub pair_turn : List ℤ → ℤ → ℕ → Filter → Filter
pair_turn ar warping j f = record {
  sAR2_Q14 = set (words_at j f) j (tmp2_at warping j f);
  tmp = smlawb (get_or (words_at j f) j (pos 0)) (wrap32 (get_or (words_at j f) (j + 1) (pos 0) -ℤ tmp2_at warping j f)) warping;
  n_AR_Q14 = smlawb (sum_at ar j f) (tmp2_at warping j f) (get_or ar j (pos 0));
}

-- j = 2, 4 and so on below the order; then sAR2[order - 1] = tmp1, n_AR += tmp1 * AR_shp[order - 1] >> 16
unfoldable pub by_pairs : List ℤ → List ℤ → ℕ → ℤ → ℤ → Filter
by_pairs s ar order warping diff =
    write ar (order - 1) (iter (λ m. pair_turn ar warping (2 * m + 2)) ((order - 2) / 2) (before_loop s ar order warping diff))
