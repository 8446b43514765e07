-- Two walked chunks lie apart, and the first `data` is the last that is walked. Assumes nothing.
use Prim.Native.Nat.{ℕ, ◌+◌, ◌%◌, ◌≤◌}
use native.Mathlib.Omega.{arith}
use mathlib.Core.Path.{◌≡◌, refl, sym, ◌∙◌, subst}
use mathlib.Core.Logic.{⊎_elim}
use mathlib.Core.Bool.{Bool, true, false, not, ◌&&◌, ◌||◌}
use mathlib.Core.List.{List}
use lib.Dec.{eqb}
use borrow.Author.Tests.{eqb-true}
use Rattle.wav_file.specs.Bytes.{byte, named}
use Rattle.wav_file.specs.Riff.{size_at, is_format, is_data, whole, after, is_last, chunks}
use Rattle.wav_file.specs.Find.{data_at}
use Rattle.wav_file.specs.Walked.{In}
use Rattle.wav_file.proofs.Firsts.{first-hit}
use Rattle.wav_file.proofs.Walks.{along-ordered, places}

-- two walked chunks are one, or one lies behind the other and that other isn't the walk's last
pub data Apart (f : List ℕ) (a b : ℕ) : Type 0 where
  one : a ≡ b → Apart f a b
  up : after f a ≤ b → is_last f a ≡ false → Apart f a b
  down : after f b ≤ a → is_last f b ≡ false → Apart f a b

pub apart : (f : List ℕ) (a b : ℕ) → In a (chunks f) → In b (chunks f) → Apart f a b
apart f a b =
    along-ordered (λ at l. In a l → In b l → Apart f a b) f
    (λ at h i j. absurd i)
    (λ at h l i j. ⊎_elim (λ (e : a ≡ at). ⊎_elim (λ (u : b ≡ at). one (e ∙ sym u)) (λ j. absurd j) j) (λ i. absurd i) i)
    (λ at rest h l o r i j.
    ⊎_elim
    (λ (e : a ≡ at).
    ⊎_elim (λ (u : b ≡ at). one (e ∙ sym u))
    (λ (k : In b rest). up (subst (λ (x : ℕ). after f x ≤ b) (sym e) (o b k)) (subst (λ (x : ℕ). is_last f x ≡ false) (sym e) l))
    j)
    (λ (m : In a rest).
    ⊎_elim (λ (u : b ≡ at). down (subst (λ (x : ℕ). after f x ≤ a) (sym u) (o a m)) (subst (λ (x : ℕ). is_last f x ≡ false) (sym u) l))
    (λ (k : In b rest). r m k)
    j)
    i)

pub after_is : (f : List ℕ) (at : ℕ) → after f at ≡ at + 8 + size_at f at + size_at f at % 2
unfolding after
after_is f at = refl

-- ---- the first `data`
or-true : (b c : Bool) → c ≡ true → not b || c ≡ true
or-true true c h = h
or-true false c h = refl

and_first : (b c : Bool) → b && c ≡ true → b ≡ true
and_first true c h = refl
and_first false c h = h

pub data-named : (f : List ℕ) → In (data_at f) (chunks f) → is_data f (data_at f) ≡ true
unfolding data_at
data-named f i = (first-hit (is_data f) (chunks f) (omega (arith, places f (data_at f) i))).1

pub last-data : (f : List ℕ) (at : ℕ) → is_data f at ≡ true → is_last f at ≡ true
unfolding is_last
last-data f at d = or-true (whole f at) (is_data f at) d

pub data-last : (f : List ℕ) → In (data_at f) (chunks f) → is_last f (data_at f) ≡ true
data-last f i = last-data f (data_at f) (data-named f i)

-- no chunk has both names
pub two-names : (f : List ℕ) (at : ℕ) → is_data f at ≡ true → is_format f at ≡ true → ⊥
unfolding is_data is_format named
two-names f at d n =
    let u = eqb-true (byte f at) 100 (and_first (eqb (byte f at) 100) _ d) in
    let v = eqb-true (byte f at) 102 (and_first (eqb (byte f at) 102) _ n) in
    omega arith
