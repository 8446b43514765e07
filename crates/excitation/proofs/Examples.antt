-- Rows by computation: no statement on accepted or refused rows is empty, and a reader can follow one by hand. Assumes nothing.
use Prim.Native.Nat.{ℕ}
use mathlib.Core.Path.{◌≡◌, refl}
use mathlib.Core.List.{List, [], ◌∷◌}
use lib.ListN.{replicate}
use lib.IntN.{ℤ, pos, negsuc}
use Rattle.limits.specs.Tests.{outside}
use Rattle.rfc6716.specs.Excitation.{offset_Q23, value, next_seed, negates, signed, seed_after, pulse, excitation}
use Rattle.excitation.specs.declared.answer.Refusal.TheVariants.{Seeds, Kinds, Rows}
use Rattle.excitation.specs.Code.{Accepted}
use Rattle.std.specs.Prelude.{Err}
use Rattle.excitation.specs.Refused.{seed_refused, kinds_refused, rows_refused, table, answer_of}
use Rattle.excitation.specs.Reading.{heard, heard_row, heard_by, reading}

-- a lent row of n words, none of them a value of the RFC's
abbrev lent : ℕ → List ℤ
lent n = replicate n (pos 1000000007)

-- seed 0, signal type 0, offset type 0, pulses 0 1 -1 2 -2. The generator's first word, 907633515, has bit 31 clear, so the first value is
-- 25; then 256 - 20 + 25 negated, -256 + 20 + 25 kept, 512 - 20 + 25 negated, -512 + 20 + 25 negated
pub by_hand : reading (pos 0) (pos 0) (pos 0) (pos 0 ∷ pos 1 ∷ negsuc 0 ∷ pos 2 ∷ negsuc 1 ∷ []) (lent 5)
    ≡ heard Accepted (pos 25 ∷ negsuc 260 ∷ negsuc 210 ∷ negsuc 516 ∷ pos 467 ∷ [])
unfolding reading heard_by heard_row answer_of table seed_refused kinds_refused rows_refused outside excitation pulse offset_Q23 value next_seed negates signed seed_after
by_hand = refl

-- pulses after which the generator stands at the edge of its sign
abbrev turning : List ℤ
turning = negsuc 21 ∷ negsuc 10 ∷ pos 62 ∷ pos 23 ∷ negsuc 0 ∷ []

-- the sign is taken before the pulse is added: seed 1, type 1, offset type 0 give 211 for the last pulse
pub sign-before : reading (pos 1) (pos 1) (pos 0) turning (lent 5) ≡ heard Accepted (negsuc 5586 ∷ negsuc 2770 ∷ pos 15877 ∷ pos 5893 ∷ pos 211 ∷ [])
unfolding reading heard_by heard_row answer_of table seed_refused kinds_refused rows_refused outside excitation pulse offset_Q23 value next_seed negates signed seed_after
sign-before = refl

-- by the word after it was added, it would have been -211
pub sign-after : signed (excitation (pos 25) 1 turning).seed (value (pos 25) (negsuc 0)) ≡ negsuc 210
unfolding excitation pulse value next_seed negates signed seed_after
sign-after = refl

-- the largest pulses, whose size doesn't fit an i8: -128 gives -32768 + 20 + 60
pub largest : reading (pos 0) (pos 0) (pos 1) (negsuc 127 ∷ pos 127 ∷ []) (lent 2) ≡ heard Accepted (negsuc 32687 ∷ negsuc 32551 ∷ [])
unfolding reading heard_by heard_row answer_of table seed_refused kinds_refused rows_refused outside excitation pulse offset_Q23 value next_seed negates signed seed_after
largest = refl

-- no pulses: nothing is written
pub empty : reading (pos 3) (pos 2) (pos 1) [] [] ≡ heard Accepted []
unfolding reading heard_by heard_row answer_of table seed_refused kinds_refused rows_refused outside excitation offset_Q23
empty = refl

-- each refusal, with the row as it was; where several apply it is the lowest
pub refused :
    (reading (pos 4) (pos 3) (pos 0) [] (lent 2) ≡ heard (Err Seeds) (lent 2))
    × (reading (negsuc 0) (pos 0) (pos 0) [] [] ≡ heard (Err Seeds) [])
    × (reading (pos 256) (pos 0) (pos 0) [] [] ≡ heard (Err Seeds) [])
    × (reading (pos 0) (pos 3) (pos 0) [] (lent 2) ≡ heard (Err Kinds) (lent 2))
    × (reading (pos 0) (pos 0) (pos 2) [] [] ≡ heard (Err Kinds) [])
    × (reading (pos 0) (pos 0) (pos 0) [] (lent 2) ≡ heard (Err Rows) (lent 2))
    × (reading (pos 0) (pos 0) (pos 0) (replicate 321 (pos 0)) (lent 321) ≡ heard (Err Rows) (lent 321))
unfolding reading heard_by answer_of table seed_refused kinds_refused rows_refused outside
refused = (refl, refl, refl, refl, refl, refl, refl)
