-- The candidate choice as the Rust makes it: NSQ_del_dec.rs, silk_noise_shape_quantizer_del_dec, from `q1_Q10 = r_Q10 - offset_Q10`
-- to the order of the two candidates. Each step wraps as the release build does, and `as i16` stands where the Rust has it
-- (`smlabb` multiplies low halves). RuleChoice has the words of docs/RULES.md for the same; the two are proved equal.
-- Assumes nothing.
use Rattle.std.specs.Prelude.{ℤ, ◌-ℤ◌}
use Rattle.std.specs.Int.Signed.{lt_z}
use Rattle.fixed.specs.Wrap.{wrap32}
use Rattle.fixed.specs.Shift.{shr32}
use Rattle.products.specs.Product.{smlabb}
use Rattle.fixed.specs.Iter.{either}
use Rattle.levels.specs.declared.level.Pair.{Pair}
use Rattle.choice.specs.declared.candidate.Choice.{Choice}
use Rattle.levels.specs.Levels.{q1_Q0, tried}

-- the square of the error is added, and the sum taken down to Q10
unfoldable pub with_noise : ℤ → ℤ → ℤ → ℤ
with_noise rd_Q10 r_Q10 q_Q10 =
    shr32 (smlabb rd_Q10 (wrap32 (r_Q10 -ℤ q_Q10)) (wrap32 (r_Q10 -ℤ q_Q10))) 10

-- the cheaper first; a tie takes the upper
unfoldable pub ordered : ℤ → ℤ → ℤ → ℤ → Choice
ordered q1_Q10 rd1_Q10 q2_Q10 rd2_Q10 =
    either (lt_z rd1_Q10 rd2_Q10)
    (record { first_level = q1_Q10; first_cost = rd1_Q10; second_level = q2_Q10; second_cost = rd2_Q10 })
    (record { first_level = q2_Q10; first_cost = rd2_Q10; second_level = q1_Q10; second_cost = rd1_Q10 })

-- both tried levels with their costs, in order
unfoldable pub costed : ℤ → Pair → Choice
costed r_Q10 t = ordered t.q1 (with_noise t.rd1 r_Q10 t.q1) t.q2 (with_noise t.rd2 r_Q10 t.q2)

-- the choice for a residual that has its sign and lies in its range
unfoldable pub choice : ℤ → ℤ → ℤ → Choice
choice r_Q10 Lambda_Q10 offset_Q10 =
    costed r_Q10 (tried (q1_Q0 (wrap32 (r_Q10 -ℤ offset_Q10)) Lambda_Q10) offset_Q10 Lambda_Q10)
