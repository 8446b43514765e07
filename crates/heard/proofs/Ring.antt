-- Where the ring stands after g samples, and where each of the last 40 samples is in it. Assumes nothing.
use Prim.Native.Nat.{ℕ, suc, ◌+◌, ◌-◌, ◌%◌, ◌<◌, ◌≤◌}
use native.Mathlib.Omega.{arith}
use mathlib.Core.Path.{◌≡◌, refl, ap, ◌∙◌}
use mathlib.Core.Logic.{◌≢◌}
use mathlib.Core.Bool.{Bool, true, false}
use mathlib.Core.List.{List}
use lib.ListN.{set, length}
use lib.Seq.{get_or-set_same, get_or-set_other}
use lib.Dec.{eqb}
use borrow.Author.Tests.{eqb-true, eqb-false}
use lib.IntN.{ℤ, pos}
use Rattle.fixed.specs.Iter.{either}
use Rattle.fixed.specs.Row.{word}
use Rattle.fixed.proofs.Iters.{one_more}
use Rattle.places.specs.Places.{down}

-- the place of sample h
abbrev pub place : ℕ → ℕ
place h = 39 - h % 40

-- smpl_buf_idx when g samples are done
abbrev pub ring_of : ℕ → ℕ
ring_of g = (40 - g % 40) % 40

-- it then stands at the sample coded last
pub ring-next : (g : ℕ) → ring_of (suc g) ≡ place g
ring-next g = omega arith

-- the place is counted down for each sample
pub down-ring : (g : ℕ) → down (ring_of g) ≡ place g
unfolding down
down-ring g = go (eqb (ring_of g) 0) refl
  where
    go : (c : Bool) → eqb (ring_of g) 0 ≡ c → either c 39 (ring_of g - 1) ≡ place g
    go true e = let z = eqb-true (ring_of g) 0 e in omega arith
    go false e = let z : ring_of g ≢ 0 = eqb-false (ring_of g) 0 e in omega arith

-- ---- places of samples before
-- the place of the sample that is d old
pub place-back : (g d : ℕ) → d ≤ g → d ≤ 40 → (place g + d) % 40 ≡ place (g - d)
place-back g d h k = omega arith

shift : (r d i : ℕ) → i < d → r + d - 1 - i ≡ r + (d - 1 - i)
shift r d i l = omega arith

shifted : (g d i : ℕ) → d ≤ g → i < d → g - 1 - (d - 1 - i) ≡ g - d + i
shifted g d i h l = omega arith

ring-before : (g : ℕ) → 0 < g → ring_of g ≡ place (g - 1)
ring-before g p = omega arith

-- sample i of the d that a flush hands out
pub place-flush : (g d i : ℕ) → d ≤ g → d ≤ 40 → i < d → (ring_of g + d - 1 - i) % 40 ≡ place (g - d + i)
place-flush g d i h k l =
    ap (λ (r : ℕ). r % 40) (shift (ring_of g) d i l ∙ ap (λ (r : ℕ). r + (d - 1 - i)) (ring-before g (omega arith)))
    ∙ place-back (g - 1) (d - 1 - i) (omega arith) (omega arith)
    ∙ ap (λ (h : ℕ). place h) (shifted g d i h l)

-- the last 40 samples have places of their own
pub place-apart : (g h : ℕ) → h < g → suc g ≤ h + 40 → place h ≢ place g
place-apart g h p q = λ e. omega arith

-- ---- words in a row of the ring
-- the word that was written for sample g
pub word-written : (row : List ℤ) (g : ℕ) (v : ℤ) → length row ≡ 40 → word (set row (place g) v) (place g) ≡ v
word-written row g v l = get_or-set_same row (place g) v (pos 0) (let p : place g < 40 = omega arith in rw l p)

-- a row holds the words Q of the last 40 samples before g
abbrev pub Holds : (ℕ → ℤ) → ℕ → List ℤ → Type 0
Holds Q g row = (h : ℕ) → h < g → g ≤ h + 40 → word row (place h) ≡ Q h

-- one sample more
pub holds-next : (Q : ℕ → ℤ) (row : List ℤ) (g : ℕ) (v : ℤ) → length row ≡ 40 → v ≡ Q g → Holds Q g row → Holds Q (suc g) (set row (place g) v)
holds-next Q row g v l e old h p =
    one_more (λ h. suc g ≤ h + 40 → word (set row (place g) v) (place h) ≡ Q h) h g p
    (λ z q. get_or-set_other row (place g) (place h) v (pos 0) (place-apart g h z q) ∙ old h z (omega arith))
    (λ q. word-written row g v l ∙ e)

-- the word that is a delay old
pub holds-back : (Q : ℕ → ℤ) (row : List ℤ) (g d : ℕ) → 1 ≤ d → d ≤ 40 → d ≤ g → Holds Q g row → word row ((place g + d) % 40) ≡ Q (g - d)
holds-back Q row g d d1 d40 h r = ap (λ (p : ℕ). word row p) (place-back g d h d40) ∙ r (g - d) (omega arith) (omega arith)
