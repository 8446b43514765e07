-- The value of digits: how large it is, and what is left of it in the middle of a loop. Assumes nothing.
use mathlib.Core.Path.{◌≡◌, refl}
use mathlib.Core.Bool.{Bool, true, false}
use mathlib.Core.List.{List, [], ◌∷◌}
use Prim.Native.Nat.{ℕ, zero, suc, ◌+◌, ◌-◌, ◌*◌, ◌^◌, ◌≤◌, ◌<◌}
use native.Mathlib.Omega.{arith}
use native.Mathlib.Numerals.{add-one}
use native.Mathlib.Nat.{pow-le-pow_right, pow-succ', mul_assoc, lt_of_lt_of_le, le_trans, le_of_eq, mul-le-mul_right}
use borrow.Author.Tests.{leb-true, eqb-true, le-leb, lt-leb}
use lib.Dec.{lit<, eqb}
use lib.ListN.{length, drop, get_or}
use lib.Seq.{drop-cons, drop-length}
use Rattle.fixed.specs.Iter.{either}
use Rattle.sheet_words.specs.Number.{run, digit, value, decimal, magnitude}
use Rattle.std.specs.Prelude.{Some, None}

-- all bytes are digits
pub record Decimal (ds : List ℕ) : Type 0 where
  pub some : 1 ≤ length ds
  pub few : length ds ≤ 10
  pub all : run digit ds ≡ length ds

either_true : (b c : Bool) → either b c false ≡ true → (b ≡ true) × (c ≡ true)
either_true true c e = (refl, e)
either_true false c e = (e, absurd (no e))
  where
    no : false ≡ true → ⊥
    no e = let z : ◌≡◌ {A = ℕ} 0 1 = cc in omega arith

pub decimal-is : (ds : List ℕ) → decimal ds ≡ true → Decimal ds
unfolding decimal
decimal-is ds e =
    let p = either_true _ _ e in
    let q = either_true _ _ p.1 in
    record { some = leb-true _ _ p.0; few = leb-true _ _ q.0; all = eqb-true _ _ q.1 }

digit-is : (b : ℕ) → digit b ≡ true → (48 ≤ b) × (b ≤ 57)
unfolding digit
digit-is b e = let p = either_true _ _ e in (leb-true _ _ p.0, leb-true _ _ p.1)

-- a list of digits begins with a digit
head-digit : (t : Bool) (n m : ℕ) → either t (suc n) 0 ≡ suc m → (t ≡ true) × (n ≡ m)
head-digit true n m e = (refl, omega arith)
head-digit false n m e = absurd (omega arith)

pub first-digit : (b : ℕ) (ds : List ℕ) → run digit (b ∷ ds) ≡ length (b ∷ ds) → ((48 ≤ b) × (b ≤ 57)) × (run digit ds ≡ length ds)
unfolding run
first-digit b ds e = let p = head-digit (digit b) (run digit ds) (length ds) e in (digit-is b p.0, p.1)

-- each byte of a list of digits is one
pub digit_at : (ds : List ℕ) → run digit ds ≡ length ds → (i : ℕ) → i < length ds → (48 ≤ get_or ds i 0) × (get_or ds i 0 ≤ 57)
digit_at [] e i h = absurd (omega arith)
digit_at (b ∷ ds) e zero h = (first-digit b ds e).0
digit_at (b ∷ ds) e (suc i) h = digit_at ds (first-digit b ds e).1 i (omega arith)

-- one digit more, as the loop takes it
pub value-more : (ds : List ℕ) (v i : ℕ) → i < length ds → value v (drop i ds) ≡ value (v * 10 + (get_or ds i 0 - 48)) (drop (i + 1) ds)
unfolding value
value-more ds v i h = rw (drop-cons ds i 0 h, add-one)

-- no digit is left
pub value-done : (ds : List ℕ) (i v : ℕ) → i ≡ length ds → value v (drop i ds) ≡ v
unfolding value
value-done ds i v e = rw (e, drop-length ds)

-- what was there before the digits is no more than the value
pub value_grows : (ds : List ℕ) (v : ℕ) → v ≤ value v ds
unfolding value
value_grows [] v = omega arith
value_grows (d ∷ ds) v = omega (arith, value_grows ds (v * 10 + (d - 48)))

tenfold : (v n : ℕ) → v * 10 * 10 ^ n ≡ v * 10 ^ suc n
tenfold v n = rw (pow-succ' 10 n) (mul_assoc v 10 (10 ^ n))

-- n digits after v: below (v + 1) * 10 ^ n
pub value-below : (ds : List ℕ) (v : ℕ) → run digit ds ≡ length ds → value v ds < suc v * 10 ^ length ds
unfolding value
value-below [] v e = omega arith
value-below (d ∷ ds) v e =
    let f = first-digit d ds e in
    let h = value-below ds (v * 10 + (d - 48)) f.1 in
    let k : suc (v * 10 + (d - 48)) ≤ suc v * 10 = omega arith in
    lt_of_lt_of_le h (le_trans (mul-le-mul_right (10 ^ length ds) k) (le_of_eq (tenfold (suc v) (length ds))))

pub value-small : (ds : List ℕ) → Decimal ds → value 0 ds < 10 ^ 10
value-small ds d = let p : 10 ^ length ds ≤ 10 ^ 10 = pow-le-pow_right (lit< tt) d.few in omega (arith, value-below ds 0 d.all)

-- of 1 to 10 bytes the run of digits decides; fewer or more can't be read
pub all_read : (ds : List ℕ) (n : ℕ) → 1 ≤ length ds → length ds ≤ 10 → n ≡ run digit ds → eqb n (length ds) ≡ decimal ds
unfolding decimal
all_read ds n l h e = rw (e, le-leb 1 (length ds) l, le-leb (length ds) 10 h)

pub too_few : (ds : List ℕ) → length ds < 1 → false ≡ decimal ds
unfolding decimal
too_few ds h = rw (lt-leb 1 (length ds) h)

pub too_many : (ds : List ℕ) → 10 < length ds → false ≡ decimal ds
unfolding decimal
too_many ds h = rw (le-leb 1 (length ds) (omega arith), lt-leb (length ds) 10 h)

-- the value of digits that can be read is small
pub magnitude-small : (ds : List ℕ) (n : ℕ) → magnitude ds ≡ Some n → n < 10 ^ 10
unfolding magnitude
magnitude-small ds n e = by_test (decimal ds) refl e
  where
    by_test : (b : Bool) → decimal ds ≡ b → either b (Some (value 0 ds)) None ≡ Some n → n < 10 ^ 10
    by_test true d f = let v = value-small ds (decimal-is ds d) in let same : value 0 ds ≡ n = grind arith in omega arith
    by_test false d f = absurd (grind arith)
