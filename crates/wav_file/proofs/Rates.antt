-- The rates that are allowed. Assumes nothing.
use Prim.Native.Nat.{ℕ}
use mathlib.Core.Path.{◌≡◌}
use mathlib.Core.Logic.{◌⊎◌, ⊎_elim}
use mathlib.Core.Bool.{true, false}
use borrow.Author.Tests.{ne_eqb}
use Rattle.wav_file.specs.Find.{rate_allowed}

pub rate_listed : (n : ℕ) → (n ≡ 8000) ⊎ ((n ≡ 12000) ⊎ (n ≡ 16000)) → true ≡ rate_allowed n
unfolding rate_allowed
rate_listed n h = ⊎_elim (λ (a : n ≡ 8000). rw a) (λ (k : (n ≡ 12000) ⊎ (n ≡ 16000)). ⊎_elim (λ (a : n ≡ 12000). rw a) (λ (a : n ≡ 16000). rw a) k) h

pub rate_foreign : (n : ℕ) → (n ≡ 8000 → ⊥) → (n ≡ 12000 → ⊥) → (n ≡ 16000 → ⊥) → false ≡ rate_allowed n
unfolding rate_allowed
rate_foreign n h k l = rw (ne_eqb n 8000 h, ne_eqb n 12000 k, ne_eqb n 16000 l)
