-- `shifts::shift::rshift_round` meets its contract. Assumes nothing.
use mathlib.Core.Path.{◌≡◌, subst⁻¹}
use Prim.Native.Nat.{◌-◌, ◌^◌}
use native.Mathlib.Omega.{arith}
use lib.IntN.{ℤ, pos, ◌+ℤ◌}
use lib.Pow.{pow_mono}
use lib.Signed.{shr_z}
use mir.Syntax.{w32}
use mir.Val.{SFits, to_z, of_z}
use Rattle.fixed.specs.Shift.{rround, shr}
use Rattle.fixed.proofs.Fit.{read, fit-shr, fit-half}
use Rattle.shifts.proofs.shift.rshift_round.Goals as goal

-- v, shifted, as it is read back
inner : (c : goal.Start) → to_z w32 (of_z w32 (shr_z (to_z w32 (of_z w32 c.args.v)) (2 ^ (c.args.s - 1)))) ≡ shr_z c.args.v (2 ^ (c.args.s - 1))
inner c = rw (read c.ranges.v) (read (fit-shr w32 _ _ c.ranges.v))

fits : (c : goal.Start) → SFits w32 (shr_z c.args.v (2 ^ (c.args.s - 1)) +ℤ pos 1)
fits c = fit-half c.args.v (2 ^ (c.args.s - 1)) (pow_mono {i = 1} (omega (arith, c.requires))) c.ranges.v

pub overflow_add-result : goal.overflow_add-result
overflow_add-result c = subst⁻¹ (λ (z : ℤ). SFits w32 (z +ℤ pos 1)) (inner c) (fits c)

pub returns : goal.returns
unfolding rround shr
returns c = rw (inner c) (rw (read (fits c)) (read (fit-shr w32 _ 2 (fits c))))
