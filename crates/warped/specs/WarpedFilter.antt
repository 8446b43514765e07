-- The warped noise-shaping filter of one path: `NSQ_del_dec.rs`, lines 639 to 673, up to the `<< 1`.
-- The Rust keeps two words in hand, tmp1 and tmp2, and moves two places on at each turn. Both halves of its turn do the same
-- thing, so a turn here moves one place on, with one word in hand: `tmp` is the Rust's tmp2 at even places and its tmp1 at
-- odd ones. `specs/WarpedPairs.antt` has the Rust's turns of two places, and the two give the same words and the same sum for
-- every even order (proofs/WarpedPairs.antt, `warped-by-pairs`).
-- Assumes nothing.
use Rattle.std.specs.Prelude.{ℕ, ◌+◌, ◌-◌, ◌/◌, List, ℤ, pos, ◌-ℤ◌, get_or, set}
use Rattle.fixed.specs.Iter.{iter}
use Rattle.fixed.specs.Wrap.{wrap32}
use Rattle.products.specs.Product.{smlawb}

-- the filter in work
pub record Filter : Type 0 where
  -- the path's filter words: new ones below the place in hand, old ones from there on
  pub sAR2_Q14 : List ℤ
  -- the new word of the place in hand, not yet written
  pub tmp : ℤ
  -- the sum of the words that are written, each by its coefficient
  pub n_AR_Q14 : ℤ

-- the new word for the place after j: sAR2[j] + ((sAR2[j + 1] - tmp) * warping >> 16)
abbrev pub next_word : ℤ → ℕ → Filter → ℤ
next_word warping j f =
    smlawb (get_or f.sAR2_Q14 j (pos 0)) (wrap32 (get_or f.sAR2_Q14 (j + 1) (pos 0) -ℤ f.tmp)) warping

-- the word in hand is written to place j and joins the sum: sAR2[j] = tmp, n_AR += tmp * AR_shp[j] >> 16
abbrev pub write : List ℤ → ℕ → Filter → Filter
write ar j f = record {
  sAR2_Q14 = set f.sAR2_Q14 j f.tmp;
  tmp = f.tmp;
  n_AR_Q14 = smlawb f.n_AR_Q14 f.tmp (get_or ar j (pos 0));
}

-- one place on: the next word is worked out before this one is written
abbrev pub turn : List ℤ → ℤ → ℕ → Filter → Filter
turn ar warping j f = record {
  sAR2_Q14 = (write ar j f).sAR2_Q14;
  tmp = next_word warping j f;
  n_AR_Q14 = (write ar j f).n_AR_Q14;
}

-- before place 0: tmp = Diff_Q14 + (sAR2[0] * warping >> 16), n_AR = shapingLPCOrder >> 1
abbrev pub begin : List ℤ → ℕ → ℤ → ℤ → Filter
begin s order warping diff = record {
  sAR2_Q14 = s;
  tmp = smlawb diff (get_or s 0 (pos 0)) warping;
  n_AR_Q14 = pos (order / 2);
}

-- the filter over `order` places; the last word is written with no next one
unfoldable pub warped_filter : List ℤ → List ℤ → ℕ → ℤ → ℤ → Filter
warped_filter s ar order warping diff =
    write ar (order - 1) (iter (turn ar warping) (order - 1) (begin s order warping diff))
