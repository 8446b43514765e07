-- RFC 6716, section 4.2.7.8.6: how a decoder makes the excitation of a frame from its pulses. The names are the section's; all
-- numbers are whole, the excitation is in Q23 and a seed is a number from 0 to 2^32 - 1.
-- Assumes nothing.
use Rattle.std.specs.Prelude.{ℕ, zero, suc, ◌+◌, ◌*◌, ◌/◌, ◌%◌, ◌^◌, Bool, List, [], ◌∷◌, ◌++◌, ℤ, pos, negsuc, neg_ℤ, ◌+ℤ◌, ◌-ℤ◌, ◌*ℤ◌, eqb, length, get_or}
use Rattle.fixed.specs.Wrap.{mod_z}
use Rattle.fixed.specs.Iter.{iter, either}

-- the section's table: for the signal types inactive, unvoiced and voiced, the offset at offset type low and high
abbrev pub offsets : List (List ℤ)
offsets = (pos 25 ∷ pos 60 ∷ []) ∷ (pos 25 ∷ pos 60 ∷ []) ∷ (pos 8 ∷ pos 25 ∷ []) ∷ []

-- the offset of a frame, by its signal type (0 to 2) and its offset type (0 or 1)
unfoldable pub offset_Q23 : ℕ → ℕ → ℤ
offset_Q23 signalType offset_type = get_or (get_or offsets signalType []) offset_type (pos 0)

-- 1 above zero, -1 below it, 0 at it
abbrev pub sign : ℤ → ℤ
sign (pos zero) = pos 0
sign (pos (suc n)) = pos 1
sign (negsuc n) = negsuc 0

-- what a pulse stands for, before its sign step: 256 times the pulse, 20 nearer to zero, and the offset
unfoldable pub value : ℤ → ℤ → ℤ
value offset x = x *ℤ pos 256 -ℤ sign x *ℤ pos 20 +ℤ offset

-- one step of the generator
unfoldable pub next_seed : ℕ → ℕ
next_seed seed = (196314165 * seed + 907633515) % 2 ^ 32

-- whether bit 31 of the seed is set
unfoldable pub negates : ℕ → Bool
negates seed = eqb (seed / 2 ^ 31 % 2) 1

-- the sign step: the value, negated where the seed says so
unfoldable pub signed : ℕ → ℤ → ℤ
signed seed v = either (negates seed) (neg_ℤ v) v

-- the seed after pulse x
unfoldable pub seed_after : ℕ → ℤ → ℕ
seed_after seed x = mod_z (pos seed +ℤ x) (2 ^ 32)

-- a row in work: the seed, and the excitation so far
pub record Row : Type 0 where
  pub seed : ℕ
  pub e_Q23 : List ℤ

-- one pulse x more: the generator steps, the value takes its sign from the new seed, and x is added to that seed
unfoldable pub pulse : ℤ → ℤ → Row → Row
pulse offset x t =
    record { seed = seed_after (next_seed t.seed) x; e_Q23 = t.e_Q23 ++ (signed (next_seed t.seed) (value offset x) ∷ []) }

-- pulse number i of the row `e_raw`
abbrev pub turn : ℤ → List ℤ → ℕ → Row → Row
turn offset e_raw i t = pulse offset (get_or e_raw i (pos 0)) t

-- the whole row `e_raw`, from the seed that the frame gives
unfoldable pub excitation : ℤ → ℕ → List ℤ → Row
excitation offset seed e_raw = iter (turn offset e_raw) (length e_raw) (record { seed = seed; e_Q23 = [] })
