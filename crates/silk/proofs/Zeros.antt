-- A row of zeros has no other word, and reads as 0 past its end too. Assumes nothing.
use Prim.Native.Nat.{ℕ, zero, suc}
use mathlib.Core.Path.{◌≡◌, refl}
use lib.IntN.{pos}
use Rattle.fixed.specs.Row.{word}
use Rattle.silk.specs.State.{zeros}

pub zeros-word : (n i : ℕ) → word (zeros n) i ≡ pos 0
unfolding zeros
zeros-word zero i = refl
zeros-word (suc n) zero = refl
zeros-word (suc n) (suc i) = zeros-word n i
