-- What holds of every row: one excitation word for each pulse, and a seed below 2^32.
-- Assumes nothing.
use Prim.Native.Nat.{ℕ, suc, ◌^◌, ◌<◌}
use native.Mathlib.Omega.{arith}
use mathlib.Core.Path.{◌≡◌, refl, ap, ◌∙◌}
use mathlib.Core.List.{List, []}
use lib.IntN.{ℤ, pos, ◌+ℤ◌}
use lib.Dec.{lit<}
use lib.ListN.{length, length-append}
use Rattle.fixed.proofs.Iters.{iter-keeps}
use Rattle.fixed.proofs.Lin.{mod-lin}
use Rattle.rfc6716.specs.Excitation.{Row, pulse, turn, excitation, next_seed, seed_after}

-- one pulse more is one word more
pub pulse-length : (offset x : ℤ) (t : Row) → length (pulse offset x t).e_Q23 ≡ suc (length t.e_Q23)
unfolding pulse
pulse-length offset x t = simp length-append (omega arith)

-- one excitation word for each pulse
pub excitation-length : (offset : ℤ) (seed : ℕ) (e_raw : List ℤ) → length (excitation offset seed e_raw).e_Q23 ≡ length e_raw
unfolding excitation
excitation-length offset seed e_raw =
    iter-keeps (λ n t. length t.e_Q23 ≡ n) (turn offset e_raw) (length e_raw)
    (λ j h t e. pulse-length offset _ t ∙ ap suc e) (record { seed = seed; e_Q23 = [] }) refl

pulse-seed : (offset x : ℤ) (t : Row) → (pulse offset x t).seed < 2 ^ 32
unfolding pulse seed_after
pulse-seed offset x t = mod-lin (pos (next_seed t.seed) +ℤ x) (2 ^ 32) (lit< tt)

-- a seed stays a number of 32 bits
pub excitation-seed : (offset : ℤ) (seed : ℕ) (e_raw : List ℤ) → seed < 2 ^ 32 → (excitation offset seed e_raw).seed < 2 ^ 32
unfolding excitation
excitation-seed offset seed e_raw h =
    iter-keeps (λ n t. t.seed < 2 ^ 32) (turn offset e_raw) (length e_raw)
    (λ j k t e. pulse-seed offset _ t) (record { seed = seed; e_Q23 = [] }) h
