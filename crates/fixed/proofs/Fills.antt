-- A loop that writes one place of a row at each turn: what it leaves in each place. Of any row. Assumes nothing.
use mathlib.Core.Path.{◌≡◌, refl, ◌∙◌}
use Prim.Native.Nat.{ℕ, zero, suc, ◌<◌}
use native.Mathlib.Omega.{arith}
use native.Mathlib.Decide.{dec_lt}
use mathlib.Core.List.{List}
use lib.ListN.{get_or, set, length, length-set}
use lib.Seq.{get_or-set_same, get_or-set_other}
use Rattle.fixed.specs.Iter.{iter}

-- turn i writes `v i` to place `p i`
abbrev pub fill_turn : {A : Type 0} → (ℕ → ℕ) → (ℕ → A) → ℕ → List A → List A
fill_turn p v i l = set l (p i) (v i)

pub fill-length : {A : Type 0} (p : ℕ → ℕ) (v : ℕ → A) (n : ℕ) (l : List A) → length (iter (fill_turn p v) n l) ≡ length l
fill-length p v zero l = refl
fill-length p v (suc n) l = length-set (iter (fill_turn p v) n l) (p n) (v n) ∙ fill-length p v n l

-- a place that no turn writes
pub fill-apart : {A : Type 0} (p : ℕ → ℕ) (v : ℕ → A) (n : ℕ) (l : List A) (j : ℕ) (d : A)
    → ((i : ℕ) → i < n → j ≡ p i → ⊥) → get_or (iter (fill_turn p v) n l) j d ≡ get_or l j d
fill-apart p v zero l j d h = refl
fill-apart p v (suc n) l j d h =
    get_or-set_other (iter (fill_turn p v) n l) (p n) j (v n) d (h n (omega arith))
    ∙ fill-apart p v n l j d (λ i k. h i (omega arith))

last_turn : {A : Type 0} (r : List A) (p : ℕ → ℕ) (v : ℕ → A) (n i : ℕ) (d : A) → Dec (i < n) → i < suc n → p n < length r
    → (i < n → p i ≡ p n → ⊥) → (i < n → get_or r (p i) d ≡ v i) → get_or (set r (p n) (v n)) (p i) d ≡ v i
last_turn r p v n i d (yes k) h b a e = get_or-set_other r (p n) (p i) (v n) d (a k) ∙ e k
last_turn r p v n i d (no f) h b a e = let q : i ≡ n = omega arith in rw q (get_or-set_same r (p n) (v n) d b)

-- a place that a turn writes, and no later one
pub fill-at : {A : Type 0} (p : ℕ → ℕ) (v : ℕ → A) (n : ℕ) (l : List A) (d : A)
    → ((i j : ℕ) → i < j → p i ≡ p j → ⊥) → ((i : ℕ) → i < n → p i < length l)
    → (i : ℕ) → i < n → get_or (iter (fill_turn p v) n l) (p i) d ≡ v i
fill-at p v zero l d apart inside i h = absurd (omega arith)
fill-at p v (suc n) l d apart inside i h =
    let b : p n < length (iter (fill_turn p v) n l) = rw (fill-length p v n l) (inside n (omega arith)) in
    last_turn (iter (fill_turn p v) n l) p v n i d (dec_lt i n) h b (apart i n)
    (fill-at p v n l d apart (λ j k. inside j (omega arith)) i)
