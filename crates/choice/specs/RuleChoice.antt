-- The candidate choice as docs/RULES.md words it, "One sample", the two candidates: on whole numbers, where nothing wraps. Only Lambda is
-- read `as i16` in the cost. The value of `shr_z z 1024` is floor(z / 1024).
-- Assumes nothing.
use Rattle.std.specs.Prelude.{zero, suc, ℤ, pos, negsuc, neg_ℤ, nat_abs, ◌+ℤ◌, ◌-ℤ◌, ◌*ℤ◌}
use Rattle.std.specs.Int.Signed.{lt_z, shr_z, quot_z}
use Rattle.fixed.specs.Wrap.{wrap16}
use Rattle.fixed.specs.Iter.{either}
use Rattle.choice.specs.declared.candidate.Choice.{Choice}
use Rattle.choice.specs.RustChoice.{ordered}

-- 80 above zero, -80 below it, 0 at it
abbrev pub lean : ℤ → ℤ
lean (pos zero) = pos 0
lean (pos (suc n)) = pos 80
lean (negsuc n) = negsuc 79

-- the level of pulse p: 1024p + offset, less 80 for p > 0, plus 80 for p < 0
unfoldable pub level_of : ℤ → ℤ → ℤ
level_of offset p = p *ℤ pos 1024 +ℤ offset -ℤ lean p

-- the lower candidate where Lambda is above 2048, for q = residual - offset and d = Lambda / 2 - 512
unfoldable pub rounded : ℤ → ℤ → ℤ
rounded q d =
    either (lt_z d q) (shr_z (q -ℤ d) 1024)
    (either (lt_z q (neg_ℤ d)) (shr_z (q +ℤ d) 1024)
    (either (lt_z q (pos 0)) (negsuc 0) (pos 0)))

-- the lower candidate
unfoldable pub lower_of : ℤ → ℤ → ℤ
lower_of q Lambda = either (lt_z (pos 2048) Lambda) (rounded q (quot_z Lambda (pos 2) -ℤ pos 512)) (shr_z q 1024)

-- the cost before its division: |level| * (Lambda as i16) + (residual - level)²
unfoldable pub cost_sum : ℤ → ℤ → ℤ → ℤ
cost_sum Lambda r level = pos (nat_abs level) *ℤ wrap16 Lambda +ℤ (r -ℤ level) *ℤ (r -ℤ level)

-- the cost: its floor in 1024ths
unfoldable pub cost_of : ℤ → ℤ → ℤ → ℤ
cost_of Lambda r level = shr_z (cost_sum Lambda r level) 1024

-- the candidates of lower pulse p: p and p + 1, the cheaper first, a tie takes the upper
unfoldable pub between : ℤ → ℤ → ℤ → ℤ → Choice
between r Lambda offset p =
    ordered (level_of offset p) (cost_of Lambda r (level_of offset p)) (level_of offset (p +ℤ pos 1)) (cost_of Lambda r (level_of offset (p +ℤ pos 1)))

-- the choice for a residual from -31744 to 30720
unfoldable pub ruled : ℤ → ℤ → ℤ → Choice
ruled r Lambda offset = between r Lambda offset (lower_of (r -ℤ offset) Lambda)
