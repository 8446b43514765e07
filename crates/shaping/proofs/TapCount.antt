-- How many taps the short prediction has, and the two runs that it makes of them.
-- Assumes nothing.
use mathlib.Core.Path.{◌≡◌, refl, sym, ap, ◌∙◌}
use mathlib.Core.Bool.{Bool, true, false}
use mathlib.Core.Logic.{◌⊎◌, inl, inr}
use Prim.Native.Nat.{ℕ, ◌+◌}
use native.Mathlib.Omega.{arith}
use lib.Dec.{eqb}
use lib.IntN.{ℤ}
use borrow.Author.Tests.{eq-eqb, eqb-true}
use Rattle.fixed.specs.Iter.{iter, either}
use Rattle.fixed.proofs.Iters.{iter-add}
use Rattle.shaping.specs.Taps.{tap_count}

pub sixteen-taps : (order : ℕ) → order ≡ 16 → tap_count order ≡ 16
sixteen-taps order e = ap (λ (b : Bool). either b 16 10) (eq-eqb order 16 e)

pub ten-taps : (order : ℕ) → (order ≡ 16 → ⊥) → tap_count order ≡ 10
ten-taps order h = by-test (eqb order 16) refl
  where
    by-test : (b : Bool) → eqb order 16 ≡ b → either {A = ℕ} b 16 10 ≡ 10
    by-test true e = absurd (h (eqb-true order 16 e))
    by-test false e = refl

-- at the two orders that are allowed there are as many taps as the order says
pub tap-count : (order : ℕ) → (order ≡ 10) ⊎ (order ≡ 16) → tap_count order ≡ order
tap-count order (inl e) = ten-taps order (λ f. omega arith) ∙ sym e
tap-count order (inr e) = sixteen-taps order e ∙ sym e

-- ten taps, and six more where the order is 16
pub runs-of-16 : (f : ℕ → ℤ → ℤ) (order : ℕ) (s ten all : ℤ) → order ≡ 16 → ten ≡ iter (λ j. f (0 + j)) 10 s → all ≡ iter (λ j. f (10 + j)) 6 ten → all ≡ iter f (tap_count order) s
runs-of-16 f order s ten all h e g =
    g
    ∙ ap (λ (x : ℤ). iter (λ j. f (10 + j)) 6 x) (e ∙ sym (iter-add f 0 10 s))
    ∙ sym (iter-add f 10 6 s)
    ∙ ap (λ (n : ℕ). iter f n s) (sym (sixteen-taps order h))

pub run-of-10 : (f : ℕ → ℤ → ℤ) (order : ℕ) (s ten : ℤ) → (order ≡ 16 → ⊥) → ten ≡ iter (λ j. f (0 + j)) 10 s → ten ≡ iter f (tap_count order) s
run-of-10 f order s ten h e = e ∙ sym (iter-add f 0 10 s) ∙ ap (λ (n : ℕ). iter f n s) (sym (ten-taps order h))
