-- A printed number is read back. Assumes nothing.
use mathlib.Core.Path.{◌≡◌, refl, sym, ap, ◌∙◌}
use mathlib.Core.Bool.{Bool, true, false}
use mathlib.Core.List.{List, [], ◌∷◌, ◌++◌}
use Prim.Native.Nat.{ℕ, zero, suc, ◌+◌, ◌-◌, ◌*◌, ◌/◌, ◌%◌, ◌^◌, ◌≤◌, ◌<◌}
use native.Mathlib.Omega.{arith}
use native.Mathlib.Decide.{dec_lt}
use native.Mathlib.Numerals.{add-one}
use borrow.Author.Tests.{le-leb, eq-eqb, ne_eqb, not-true}
use lib.ListN.{length, length-append}
use lib.Seq.{take-append_seam, drop-append_seam}
use lib.IntN.{ℤ, pos, negsuc, nat_abs}
use Rattle.std.specs.Prelude.{Some}
use Rattle.fixed.specs.Iter.{either}
use Rattle.sheet_words.specs.Number.{Range, got, separator, in_word, digit, run, skip, word, after_word, value, magnitude, signed, number_of, within, in_range, and_rest, number}
use Rattle.sheet_words.specs.Number as form
use Rattle.sheet_words.proofs.Values.{first-digit, digit_at}
use Rattle.sheet_words.proofs.FirstByte.{number-of-plain}
use Rattle.pages.specs.Decimal.{digits_up_to, digits, decimal}
use Rattle.pages.proofs.Digits.{up_one, up_more, tenth}

-- ---- runs
either-suc : (t : Bool) (m n : ℕ) → either t (suc m) 0 ≡ suc n → (t ≡ true) × (m ≡ n)
either-suc true m n e = (refl, omega arith)
either-suc false m n e = absurd (omega arith)

run-first : (test : ℕ → Bool) (b : ℕ) (s : List ℕ) → run test (b ∷ s) ≡ length (b ∷ s) → (test b ≡ true) × (run test s ≡ length s)
unfolding run
run-first test b s e = either-suc (test b) (run test s) (length s) e

run-cons : (test : ℕ → Bool) (b : ℕ) (s : List ℕ) → test b ≡ true → run test (b ∷ s) ≡ suc (run test s)
unfolding run
run-cons test b s h = rw h

run_none : (test : ℕ → Bool) (b : ℕ) (s : List ℕ) → test b ≡ false → run test (b ∷ s) ≡ 0
unfolding run
run_none test b s h = rw h

-- a whole run, and what follows it
run_more : (test : ℕ → Bool) (s t : List ℕ) → run test s ≡ length s → run test (s ++ t) ≡ length s + run test t
run_more test [] t e = omega arith
run_more test (b ∷ s) t e = let f = run-first test b s e in run-cons test b (s ++ t) f.0 ∙ omega (arith, run_more test s t f.1)

run-one : (test : ℕ → Bool) (s : List ℕ) (d : ℕ) → run test s ≡ length s → test d ≡ true → run test (s ++ (d ∷ [])) ≡ length (s ++ (d ∷ []))
unfolding run
run-one test s d e h = run_more test s (d ∷ []) e ∙ rw (h, length-append s (d ∷ []))

-- ---- the digits of a number
value-one : (s : List ℕ) (v d : ℕ) → value v (s ++ (d ∷ [])) ≡ value v s * 10 + (d - 48)
unfolding value
value-one [] v d = refl
value-one (b ∷ s) v d = value-one s (v * 10 + (b - 48)) d

is_digit : (m : ℕ) → m < 10 → digit (48 + m) ≡ true
unfolding digit
is_digit m h = rw (le-leb 48 (48 + m) (omega arith), le-leb (48 + m) 57 (omega arith))

pub record Good (s : List ℕ) (n : ℕ) : Type 0 where
  pub all : run digit s ≡ length s
  pub some : 1 ≤ length s
  pub worth : value 0 s ≡ n

good-one : (f n : ℕ) → n < 10 → Good (digits_up_to (suc f) n) n
unfolding run value
good-one f n h = rw (up_one f n h) (record { all = rw (is_digit n h); some = omega arith; worth = omega arith })

good_more : (f n : ℕ) → 10 ≤ n → Good (digits_up_to f (n / 10)) (n / 10) → Good (digits_up_to (suc f) n) n
good_more f n h g =
    let s = digits_up_to f (n / 10) in
    let d = 48 + n % 10 in
    rw (up_more f n h) (
    record {
      all = run-one digit s d g.all (is_digit (n % 10) (omega arith));
      some = rw (length-append s (d ∷ [])) (omega arith);
      worth = value-one s 0 d ∙ rw g.worth (omega arith);
    }
    )

good-size : (f n : ℕ) → Dec (n < 10) → (10 ≤ n → Good (digits_up_to f (n / 10)) (n / 10)) → Good (digits_up_to (suc f) n) n
good-size f n (yes h) g = good-one f n h
good-size f n (no h) g = let k : 10 ≤ n = omega arith in good_more f n k (g k)

good : (f n : ℕ) → n < f → Good (digits_up_to f n) n
good zero n h = absurd (omega arith)
good (suc f) n h = good-size f n (dec_lt n 10) (λ k. good f (n / 10) (omega arith))

pub digits-good : (n : ℕ) → Good (digits n) n
unfolding digits
digits-good n = good (suc n) n (omega arith)

-- no more digits than the size asks for
few-size : (f n k : ℕ) → Dec (n < 10) → ((j : ℕ) → 10 ≤ n → n / 10 < 10 ^ (j + 1) → length (digits_up_to f (n / 10)) ≤ j + 1) → n < 10 ^ (k + 1) → length (digits_up_to (suc f) n) ≤ k + 1
few-size f n k (yes h) g l = rw (up_one f n h) (omega arith)
few-size f n zero (no h) g l = absurd (omega arith)
few-size f n (suc k) (no h) g l =
    let m : 10 ≤ n = omega arith in
    let q : n / 10 < 10 ^ (k + 1) = rw (sym (add-one k)) at (tenth (suc k) n l) in
    rw (up_more f n m, length-append (digits_up_to f (n / 10)) ((48 + n % 10) ∷ [])) (omega (arith, g k m q))

few : (f n k : ℕ) → n < f → n < 10 ^ (k + 1) → length (digits_up_to f n) ≤ k + 1
few zero n k h l = absurd (omega arith)
few (suc f) n k h l = few-size f n k (dec_lt n 10) (λ j m q. few f (n / 10) j (omega arith) q) l

pub digits-few : (n : ℕ) → n < 10 ^ 10 → length (digits n) ≤ 10
unfolding digits
digits-few n h = few (suc n) n 9 (omega arith) h

-- ---- the number that the digits write
magnitude-digits : (n : ℕ) → n < 10 ^ 10 → magnitude (digits n) ≡ Some n
unfolding magnitude form.decimal
magnitude-digits n h =
    let g = digits-good n in
    rw (le-leb 1 (length (digits n)) g.some, le-leb (length (digits n)) 10 (digits-few n h), eq-eqb (run digit (digits n)) (length (digits n)) g.all) (ap Some g.worth)

pub number-decimal : (z : ℤ) → nat_abs z < 10 ^ 10 → number_of (decimal z) ≡ Some z
unfolding decimal number_of signed
number-decimal (pos n) h =
    let g = digits-good n in
    let d = digit_at (digits n) g.all 0 (omega arith) in
    sym (number-of-plain (digits n) (λ e. omega arith) (λ e. omega arith)) ∙ rw (magnitude-digits n h)
number-decimal (negsuc n) h = rw (magnitude-digits (suc n) h)

-- ---- its bytes are a word
digit-in-word : (b : ℕ) → (48 ≤ b) × (b ≤ 57) → in_word b ≡ true
unfolding in_word separator
digit-in-word b h = rw (ne_eqb b 32 (λ e. omega arith), ne_eqb b 10 (λ e. omega arith))

digits-in-word : (s : List ℕ) → run digit s ≡ length s → run in_word s ≡ length s
unfolding run
digits-in-word [] e = refl
digits-in-word (b ∷ s) e = let f = first-digit b s e in rw (digit-in-word b f.0) (ap suc (digits-in-word s f.1))

minus-in-word : (s : List ℕ) → run in_word s ≡ length s → run in_word (45 ∷ s) ≡ length (45 ∷ s)
unfolding run in_word separator
minus-in-word s e = ap suc e

decimal-word : (z : ℤ) → run in_word (decimal z) ≡ length (decimal z)
unfolding decimal
decimal-word (pos n) = digits-in-word (digits n) (digits-good n).all
decimal-word (negsuc n) = minus-in-word (digits (suc n)) (digits-in-word (digits (suc n)) (digits-good (suc n)).all)

decimal-some : (z : ℤ) → 1 ≤ length (decimal z)
unfolding decimal
decimal-some (pos n) = (digits-good n).some
decimal-some (negsuc n) = omega arith

-- ---- what follows a number: the end, or a separator
abbrev pub Ends : List ℕ → Type 0
Ends [] = Unit {0}
Ends (b ∷ s) = separator b ≡ true

no_word : (u : List ℕ) → Ends u → run in_word u ≡ 0
unfolding run in_word
no_word [] e = refl
no_word (b ∷ u) e = rw e

no_gap : (s u : List ℕ) → 1 ≤ length s → run in_word s ≡ length s → run separator (s ++ u) ≡ 0
unfolding in_word
no_gap [] u h e = absurd (omega arith)
no_gap (b ∷ s) u h e = run_none separator b (s ++ u) (not-true (separator b) (run-first in_word b s e).0)

-- a printed number, where a separator or nothing follows it
pub number-printed : (r : Range) (z : ℤ) (u : List ℕ) → nat_abs z < 10 ^ 10 → within r z ≡ Some z → Ends u → number r (decimal z ++ u) ≡ got z u
unfolding number skip word after_word in_range and_rest
number-printed r z u h w e =
    let n : run in_word (decimal z ++ u) ≡ length (decimal z) = run_more in_word (decimal z) u (decimal-word z) ∙ omega (arith, no_word u e) in
    rw (no_gap (decimal z) u (decimal-some z) (decimal-word z), n, take-append_seam (decimal z) u, drop-append_seam (decimal z) u, number-decimal z h, w)

-- a separator before it does not matter
pub number-skip : (r : Range) (b : ℕ) (s : List ℕ) → separator b ≡ true → number r (b ∷ s) ≡ number r s
unfolding number skip
number-skip r b s e = rw (run-cons separator b s e)

-- a printed number has at most 11 bytes
pub decimal-few : (z : ℤ) → nat_abs z < 10 ^ 10 → length (decimal z) ≤ 11
unfolding decimal
decimal-few (pos n) h = omega (arith, digits-few n h)
decimal-few (negsuc n) h = omega (arith, digits-few (suc n) h)
