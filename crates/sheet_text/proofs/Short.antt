-- How long a text can be, where its numbers are below 100000 in size. Assumes nothing.
use mathlib.Core.Path.{◌≡◌}
use mathlib.Core.List.{List, [], ◌∷◌, ◌++◌}
use Prim.Native.Nat.{ℕ, zero, suc, ◌+◌, ◌*◌, ◌/◌, ◌^◌, ◌≤◌, ◌<◌}
use native.Mathlib.Omega.{arith}
use native.Mathlib.Decide.{dec_lt}
use native.Mathlib.Numerals.{add-one}
use borrow.Author.Tests.{ne_eqb}
use lib.ListN.{length, length-append}
use lib.IntN.{ℤ, pos, negsuc}
use Rattle.fixed.proofs.Lin.{P, N}
use Rattle.pages.specs.Decimal.{digits, decimal}
use Rattle.pages.proofs.Digits.{digits-one, digits_more, tenth}
use Rattle.sheet_text.specs.Text.{line_of, answer_word, seed_word, fault_word, pulse_lines, accepted_text, answer_text, fault_text}

-- ---- decimal numbers
digits-by : (k n : ℕ) → Dec (n < 10) → (10 ≤ n → length (digits (n / 10)) ≤ k) → length (digits n) ≤ suc k
digits-by k n (yes l) h = rw (digits-one n l) (omega arith)
digits-by k n (no l) h = let m : 10 ≤ n = omega arith in rw (digits_more n m, length-append (digits (n / 10)) _) (omega (arith, h m))

-- a number below 10 to the k has no more than k digits
digits-short : (k n : ℕ) → n < 10 ^ (k + 1) → length (digits n) ≤ suc k
digits-short zero n h = digits-by zero n (dec_lt n 10) (λ m. absurd (omega arith))
digits-short (suc k) n h = digits-by (suc k) n (dec_lt n 10) (λ m. digits-short k (n / 10) (rw (add-one k) (tenth (suc k) n h)))

-- smaller than 100000 in size
abbrev pub Small : ℤ → Type 0
Small z = P z + N z < 100000

decimal-short : (z : ℤ) → Small z → length (decimal z) ≤ 6
unfolding decimal
decimal-short (pos n) h = omega (arith, digits-short 4 n (omega arith))
decimal-short (negsuc n) h = omega (arith, digits-short 4 (suc n) (omega arith))

-- ---- a line with a number, and lines of numbers
pub line-short : (w : List ℕ) (z : ℤ) → Small z → length (line_of w z) ≤ length w + 7
unfolding line_of
line-short w z h = rw (length-append (w ++ decimal z) _, length-append w _) (omega (arith, decimal-short z h))

-- of a number without a sign
pub line-count : (w : List ℕ) (n : ℕ) → n < 100000 → length (line_of w (pos n)) ≤ length w + 6
unfolding line_of decimal
line-count w n h = rw (length-append (w ++ digits n) _, length-append w (digits n)) (omega (arith, digits-short 4 n h))

-- of one digit
pub line-one : (w : List ℕ) (k : ℕ) → k < 10 → length (line_of w (pos k)) ≡ length w + 2
unfolding line_of decimal
line-one w k h = rw (length-append (w ++ digits k) _, length-append w (digits k), digits-one k h) (omega arith)

abbrev pub AllSmall : List ℤ → Type 0
AllSmall [] = Unit {0}
AllSmall (z ∷ zs) = Small z × AllSmall zs

-- one more
pub all_more : (zs : List ℤ) (z : ℤ) → AllSmall zs → Small z → AllSmall (zs ++ (z ∷ []))
all_more [] z h k = (k, tt)
all_more (y ∷ zs) z h k = (h.0, all_more zs z h.1 k)

pub lines-short : (n i : ℕ) (zs : List ℤ) → AllSmall zs → length (pulse_lines n i zs) ≤ 7 * length zs
unfolding pulse_lines
lines-short n i [] h = omega arith
lines-short n i (z ∷ zs) h = rw (length-append (decimal z) _) (omega (arith, decimal-short z h.0, lines-short n (suc i) zs h.1))

-- ---- a fault, and an answer: after number 0 the seed and the pulses
pub fault-short : (k : ℕ) → k < 100000 → length (fault_text k) ≤ 19
unfolding fault_text
fault-short k h = omega (arith, line-short fault_word (pos k) (omega arith))

pub answer-short : (number : ℕ) (seed : ℤ) (pulses : List ℤ) → number < 100000 → (number ≡ 0 → Small seed × AllSmall pulses)
    → length (answer_text number seed pulses) ≤ 26 + 7 * length pulses
unfolding answer_text accepted_text
answer-short zero seed pulses h k =
    let v = k cc in
    rw (length-append (line_of answer_word (pos 0) ++ line_of seed_word seed) _, length-append (line_of answer_word (pos 0)) _)
    (omega (arith, line-short answer_word (pos 0) (omega arith), line-short seed_word seed v.0, lines-short (length pulses) 0 pulses v.1))
answer-short (suc n) seed pulses h k = rw (ne_eqb (suc n) 0 (λ e. omega arith)) (omega (arith, line-short answer_word (pos (suc n)) (omega arith)))
