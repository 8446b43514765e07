-- What a loop that counts up from 0 makes of a state, and a branch. Every loop of the definitions is an `iter`.
-- Assumes nothing.
use Rattle.std.specs.Prelude.{ℕ, zero, suc, Bool, true, false}

-- `step 0`, then `step 1`, and so on, n times
abbrev pub iter : {A : Type 0} → (ℕ → A → A) → ℕ → A → A
iter step zero a = a
iter step (suc n) a = step n (iter step n a)

-- the first where the test holds, else the second
abbrev pub either : {A : Type 0} → Bool → A → A → A
either true a b = a
either false a b = b
