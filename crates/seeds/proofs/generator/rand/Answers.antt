-- `seeds::generator::rand` meets its contract. Assumes nothing.
use mathlib.Core.Path.{◌∙◌, ap₂, sym}
use Prim.Native.Nat.{ℕ, ◌%◌, ◌^◌}
use native.Mathlib.Omega.{arith}
use Rattle.fixed.proofs.Fit.{read, got32}
use Rattle.seeds.specs.Halves.{low_word, high_word, joined, Narrow}
use Rattle.seeds.proofs.Halves.{narrow, in_halves, mask}
use Rattle.seeds.proofs.generator.rand.Goals as goal

-- the halves that the two calls gave are narrow
halves : (c : goal.After-high_half-h) → Narrow c.low_half-l.result c.high_half-h.result
halves c = rw (c.low_half-l.ensures, c.high_half-h.ensures, read c.ranges.seed) (narrow c.args.seed)

pub overflow_mul-low : goal.overflow_mul-low
overflow_mul-low c = record { fits = omega (arith, (halves c).low_product) }

pub overflow_add-low : goal.overflow_add-low
unfolding low_word
overflow_add-low c = record { fits = omega (arith, (halves c).low-word) }

pub overflow_mul-high : goal.overflow_mul-high
overflow_mul-high c = record { fits = omega (arith, (halves c).cross-low, (halves c).cross-high) }

pub overflow_mul-high-2 : goal.overflow_mul-high-2
overflow_mul-high-2 c = record { fits = omega (arith, (halves c).cross-low, (halves c).cross-high) }

pub overflow_add-high : goal.overflow_add-high
overflow_add-high c = record { fits = omega (arith, (halves c).cross) }

pub overflow_add-high-2 : goal.overflow_add-high-2
unfolding high_word low_word
overflow_add-high-2 c = record { fits = omega (arith, (halves c).high-word) }

pub returns : goal.returns
unfolding high_word low_word
returns c =
    let f = read c.ranges.seed in
    let l = rw f at c.low_half-l.ensures in
    let h = rw f at c.high_half-h.ensures in
    got32 c.joined.result c.joined.type_inv
    ∙ simp (mask, l, h) at c.joined.ensures
    ∙ ap₂ (λ (low high : ℕ). joined (high % 2 ^ 16) (low % 2 ^ 16)) (omega arith) (omega arith)
    ∙ sym (in_halves c.args.seed)
