-- What a `match` on an enum tells: which variant it has. Assumes nothing.
use mathlib.Core.Path.{◌≡◌, refl}
use mathlib.Core.Bool.{Bool, true, false, not, ◌&&◌}
use Prim.Native.Nat.{ℕ}
use native.Mathlib.Omega.{arith}
use lib.Dec.{eqb, leb}
use Rattle.fixed.specs.Iter.{either}
use Rattle.std.specs.Char.{is_ascii_digit}
use borrow.Author.Tests.{eq-eqb, ne_eqb}
use denote.Enum.Declared.{tag_of}
use Rattle.sheet_words.specs.Number.{separator, in_word, digit}
use Rattle.sheet_words.specs.Words.{in_class}
use Rattle.sheet_words.specs.declared.words.Class.{Class}
use Rattle.sheet_words.specs.declared.words.Class.TheVariants as class
use Rattle.sheet_words.specs.contracts.words.Class as class-type

pub is-separator : (k : Class) (b : ℕ) → tag_of class-type.the_type k ≡ 0 → in_class k b ≡ separator b
is-separator class.Separator b h = refl
is-separator class.InWord b h = absurd (omega arith)
is-separator class.Digit b h = absurd (omega arith)

pub is-in-word : (k : Class) (b : ℕ) → tag_of class-type.the_type k ≡ 1 → in_class k b ≡ in_word b
is-in-word class.Separator b h = absurd (omega arith)
is-in-word class.InWord b h = refl
is-in-word class.Digit b h = absurd (omega arith)

pub is_digit : (k : Class) (b : ℕ) → tag_of class-type.the_type k ≡ 2 → in_class k b ≡ digit b
is_digit class.Separator b h = absurd (omega arith)
is_digit class.InWord b h = absurd (omega arith)
is_digit class.Digit b h = refl

-- the two tests of each class, of which the code makes the second where the first leaves it open
pub separator-32 : (b : ℕ) → b ≡ 32 → eqb b 32 ≡ separator b
unfolding separator
separator-32 b h = rw (eq-eqb b 32 h)

pub separator-10 : (b : ℕ) → (b ≡ 32 → ⊥) → eqb b 10 ≡ separator b
unfolding separator
separator-10 b h = rw (ne_eqb b 32 h)

pub in-word-10 : (b : ℕ) → (b ≡ 32 → ⊥) → not (eqb b 10) ≡ in_word b
unfolding in_word separator
in-word-10 b h = rw (ne_eqb b 32 h)

pub in-word-32 : (b : ℕ) → b ≡ 32 → not (eqb b 32) ≡ in_word b
unfolding in_word separator
in-word-32 b h = rw (eq-eqb b 32 h)

-- std's digits are the definition's
pub ascii-digit : (b : ℕ) → is_ascii_digit b ≡ digit b
unfolding digit
ascii-digit b = by_tests (leb 48 b) (leb b 57)
  where
    by_tests : (x y : Bool) → (x && y) ≡ either x y false
    by_tests true y = refl
    by_tests false y = refl
