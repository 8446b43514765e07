-- The two levels that are looked at, as the Rust makes them: NSQ_del_dec.rs, silk_noise_shape_quantizer_del_dec, from `q1_Q10 = r_Q10 - offset_Q10`
-- on. Each step wraps as the release build does, and `as i16` stands where the Rust has it (`smulbb` multiplies low halves).
-- Assumes nothing.
use Rattle.std.specs.Prelude.{zero, suc, ℤ, pos, negsuc, neg_ℤ, ◌+ℤ◌, ◌-ℤ◌}
use Rattle.std.specs.Int.Signed.{lt_z, quot_z}
use Rattle.fixed.specs.Wrap.{wrap32}
use Rattle.fixed.specs.Shift.{shl32, shr32}
use Rattle.products.specs.Product.{smulbb}
use Rattle.fixed.specs.Iter.{either}
use Rattle.levels.specs.declared.level.Pair.{Pair}

-- the branch for Lambda above 2048
unfoldable pub biased : ℤ → ℤ → ℤ
biased q1_Q10 rdo_offset =
    either (lt_z rdo_offset q1_Q10) (shr32 (wrap32 (q1_Q10 -ℤ rdo_offset)) 10)
    (either (lt_z q1_Q10 (wrap32 (neg_ℤ rdo_offset))) (shr32 (wrap32 (q1_Q10 +ℤ rdo_offset)) 10)
    (either (lt_z q1_Q10 (pos 0)) (negsuc 0) (pos 0)))

-- the lower pulse; `Lambda / 2` rounds towards zero
unfoldable pub q1_Q0 : ℤ → ℤ → ℤ
q1_Q0 q1_Q10 Lambda_Q10 =
    either (lt_z (pos 2048) Lambda_Q10) (biased q1_Q10 (wrap32 (quot_z Lambda_Q10 (pos 2) -ℤ pos 512))) (shr32 q1_Q10 10)

-- two levels, and of each its size times Lambda
abbrev pub sized : ℤ → ℤ → ℤ → ℤ → ℤ → Pair
sized q1_Q10 size1 q2_Q10 size2 Lambda_Q10 =
    record { q1 = q1_Q10; rd1 = smulbb size1 Lambda_Q10; q2 = q2_Q10; rd2 = smulbb size2 Lambda_Q10 }

-- case q1_Q0 > 0, from q1_Q10 on
abbrev pub above_from : ℤ → ℤ → Pair
above_from q1_Q10 Lambda_Q10 =
    sized q1_Q10 q1_Q10 (wrap32 (q1_Q10 +ℤ pos 1024)) (wrap32 (q1_Q10 +ℤ pos 1024)) Lambda_Q10

-- case q1_Q0 > 0
unfoldable pub above : ℤ → ℤ → ℤ → Pair
above p offset_Q10 Lambda_Q10 = above_from (wrap32 (wrap32 (shl32 p 10 -ℤ pos 80) +ℤ offset_Q10)) Lambda_Q10

-- case q1_Q0 = 0
unfoldable pub at_zero : ℤ → ℤ → Pair
at_zero offset_Q10 Lambda_Q10 =
    sized offset_Q10 offset_Q10 (wrap32 (offset_Q10 +ℤ pos 944)) (wrap32 (offset_Q10 +ℤ pos 944)) Lambda_Q10

-- case q1_Q0 = -1
unfoldable pub at_minus_one : ℤ → ℤ → Pair
at_minus_one offset_Q10 Lambda_Q10 =
    sized (wrap32 (offset_Q10 -ℤ pos 944)) (wrap32 (neg_ℤ (wrap32 (offset_Q10 -ℤ pos 944)))) offset_Q10 offset_Q10 Lambda_Q10

-- case q1_Q0 < -1, from q1_Q10 on
abbrev pub below_from : ℤ → ℤ → Pair
below_from q1_Q10 Lambda_Q10 =
    sized q1_Q10 (wrap32 (neg_ℤ q1_Q10)) (wrap32 (q1_Q10 +ℤ pos 1024)) (wrap32 (neg_ℤ (wrap32 (q1_Q10 +ℤ pos 1024)))) Lambda_Q10

-- case q1_Q0 < -1
unfoldable pub below : ℤ → ℤ → ℤ → Pair
below p offset_Q10 Lambda_Q10 = below_from (wrap32 (wrap32 (shl32 p 10 +ℤ pos 80) +ℤ offset_Q10)) Lambda_Q10

-- the four cases
unfoldable pub tried : ℤ → ℤ → ℤ → Pair
tried (pos (suc n)) offset_Q10 Lambda_Q10 = above (pos (suc n)) offset_Q10 Lambda_Q10
tried (pos zero) offset_Q10 Lambda_Q10 = at_zero offset_Q10 Lambda_Q10
tried (negsuc zero) offset_Q10 Lambda_Q10 = at_minus_one offset_Q10 Lambda_Q10
tried (negsuc (suc n)) offset_Q10 Lambda_Q10 = below (negsuc (suc n)) offset_Q10 Lambda_Q10
