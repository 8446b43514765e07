-- Where the harmonic term is 0: with a harmonic gain of 0, and with shaping words of 0. Assumes nothing.
use Prim.Native.Nat.{ℕ, zero, suc, ◌+◌, ◌-◌, ◌*◌, ◌<◌}
use native.Mathlib.Omega.{arith}
use mathlib.Core.Path.{◌≡◌, refl, ◌∙◌}
use mathlib.Core.List.{List, [], ◌∷◌}
use lib.ListN.{set}
use lib.Seq.{get_or-set_other}
use lib.Dec.{eqb}
use borrow.Author.Tests.{eqb-true, eqb-false}
use lib.IntN.{ℤ, pos, ◌+ℤ◌, zero-*ℤ, *ℤ-zero}
use Rattle.fixed.specs.Wrap.{wrap_to, wrap32, wrap16}
use Rattle.fixed.specs.Shift.{shr, shl32, shr32, or32}
use Rattle.fixed.specs.Row.{word}
use Rattle.fixed.proofs.Iters.{iter-keeps, cases}
use Rattle.products.specs.Product.{smulwb, smulwt, smlawt, smulww}
use Rattle.word_steps.specs.Harmonic.{packed_gain, shaped_lag, ltp_term}
use Rattle.path.specs.Scaled.{scale_turn, scaled_words}
use Rattle.fresh_lag.proofs.Unheard.{Kept, Unheard}

-- ---- products with 0
by_zero : (a : ℤ) → smulwb a (pos 0) ≡ pos 0
unfolding smulwb shr
by_zero a = rw (*ℤ-zero a) refl

of_zero : (b : ℤ) → smulwb (pos 0) b ≡ pos 0
unfolding smulwb shr
of_zero b = rw (zero-*ℤ b) refl

scaled-zero : (adj : ℤ) → smulww adj (pos 0) ≡ pos 0
unfolding smulww shr wrap32 wrap_to
scaled-zero adj = rw (*ℤ-zero adj) refl

-- ---- the term
-- no gain packs to 0
packed_none : packed_gain (pos 0) ≡ pos 0
unfolding packed_gain or32 shl32 shr32 shr wrap32 wrap_to
packed_none = refl

-- a sum of nothing is no term
term-none : (s : List ℤ) (at : ℕ) (packed : ℤ) → shaped_lag s at packed ≡ pos 0 → ltp_term s at packed (pos 0) ≡ pos 0
unfolding ltp_term shl32 wrap32 wrap_to
term-none s at packed e = rw e refl

-- with no gain
shaped-gainless : (s : List ℤ) (at : ℕ) → shaped_lag s at (pos 0) ≡ pos 0
unfolding shaped_lag smlawt smulwt wrap16 wrap32 wrap_to shr
shaped-gainless s at = rw (by_zero (word s (at - 1)), by_zero (wrap32 (word s at +ℤ word s (at - 2)))) refl

-- with three words of 0
shaped-silent : (s : List ℤ) (at : ℕ) (packed : ℤ) → word s at ≡ pos 0 → word s (at - 1) ≡ pos 0 → word s (at - 2) ≡ pos 0 → shaped_lag s at packed ≡ pos 0
unfolding shaped_lag smlawt smulwt wrap32 wrap_to
shaped-silent s at packed e f g = rw (e, f, g, of_zero (wrap16 packed), of_zero (shr packed 16)) refl

-- ---- with a harmonic gain of 0
-- what is asked of the shaping row: nothing
abbrev pub AnyRow : List ℤ → Type 0
AnyRow s = s ≡ s

-- a frame keeps it
pub any-kept : (l : ℕ) → Kept l AnyRow
any-kept l = record { written = λ s j w h q. refl; scaled = λ adj base s q. refl }

-- no lag is heard, in no subframe and before no sample
pub gainless-unheard : (gain : ℤ) (l base d t : ℕ) → gain ≡ pos 0 → Unheard AnyRow l base (packed_gain gain) d t
gainless-unheard gain l base d t e =
    λ i h k s q z. rw (e, packed_none) (term-none s (4 * l + base + i + 1 - d) (pos 0) (shaped-gainless s (4 * l + base + i + 1 - d)))

-- ---- with shaping words of 0
-- the first 4l words of a shaping row are 0
abbrev pub Silent : ℕ → List ℤ → Type 0
Silent l s = (j : ℕ) → j < 4 * l → word s j ≡ pos 0

-- 0 put at a place, and read there
zero-set : (s : List ℤ) (j : ℕ) → word (set s j (pos 0)) j ≡ pos 0
zero-set [] j = refl
zero-set (x ∷ s) zero = refl
zero-set (x ∷ s) (suc j) = zero-set s j

-- a word scaled
scaled-word : (adj : ℤ) (l j : ℕ) (s : List ℤ) → Silent l s → Silent l (set s j (smulww adj (word s j)))
scaled-word adj l j s q i h =
    cases (eqb i j)
    (λ e.
    let z : i ≡ j = eqb-true i j e in
    rw (← z, q i h, scaled-zero adj) (zero-set s i))
    (λ e. get_or-set_other s j i (smulww adj (word s j)) (pos 0) (eqb-false i j e) ∙ q i h)

scaled-words : (adj : ℤ) (l a m : ℕ) (s : List ℤ) → Silent l s → Silent l (scaled_words adj a m s)
unfolding scaled_words
scaled-words adj l a m s q = iter-keeps (λ j. Silent l) (scale_turn adj a) m (λ j h r. scaled-word adj l (a + j) r) s q

-- a frame keeps it
pub silent-kept : (l : ℕ) → Kept l (Silent l)
silent-kept l =
    record {
      written = λ s j w h q i b. get_or-set_other s j i w (pos 0) (λ z. omega arith) ∙ q i b;
      scaled = λ adj base s q. scaled-words adj l base (4 * l) s q;
    }

-- a lag is heard only from the sample on at which it reaches back to the words of the frame itself
pub silent-unheard : (packed : ℤ) (l base d t : ℕ) → (0 < d → t < d) → Unheard (Silent l) l base packed d t
silent-unheard packed l base d t e =
    λ i h k s q z.
    let b = e z in
    let c : 4 * l + base + i + 1 - d < 4 * l = omega arith in
    term-none s (4 * l + base + i + 1 - d) packed
    (shaped-silent s (4 * l + base + i + 1 - d) packed (q (4 * l + base + i + 1 - d) c) (q (4 * l + base + i + 1 - d - 1) (omega arith))
    (q (4 * l + base + i + 1 - d - 2) (omega arith)))
