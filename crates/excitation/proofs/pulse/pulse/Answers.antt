-- `excitation::pulse::pulse` meets its contract. Assumes nothing.
use Prim.Native.Nat.{◌^◌}
use mathlib.Core.Path.{ap, ◌∙◌}
use lib.IntN.{ℤ}
use Rattle.fixed.specs.Wrap.{mod_z}
use Rattle.fixed.proofs.Fit.{read, got32, fit8-32}
use Rattle.fixed.proofs.Wraps.{wrap32-id}
use Rattle.seeds.specs.Generator.{rand}
use Rattle.rfc6716.specs.Excitation.{value}
use Rattle.choice.proofs.Rfc.{generator-is-rfc, turned-is-rfc, added-is-rfc, rand-fits}
use Rattle.excitation.proofs.Values.{value-fits, negated_fits}
use Rattle.excitation.proofs.pulse.pulse.Goals as goal

pub returns : goal.returns
returns c =
    let o = c.args.offset in
    let s = c.args.seed in
    let x = c.args.x in
    let f = c.ranges in
    let p = read (fit8-32 f.x) in
    let next = got32 c.rand-next.result c.rand-next.type_inv ∙ rw (read f.seed) at c.rand-next.ensures in
    let val =
    got32 c.value-v.result c.value-v.type_inv
    ∙ rw (read f.offset, read f.x, p) at c.value-v.ensures
    ∙ wrap32-id (value-fits o x c.requires.0 c.requires.1 f.x) in
    let turn = got32 c.turned.result c.turned.type_inv ∙ simp (next, val) at c.turned.ensures in
    let sum = got32 c.add32-after.result c.add32-after.type_inv ∙ simp (next, read f.x, p) at c.add32-after.ensures in
    record {
      value = turn
          ∙ turned-is-rfc (rand s) (value o x) (rand-fits s) (negated_fits o x c.requires.0 c.requires.1 f.x)
          ∙ rw (generator-is-rfc s);
      seed = ap (λ (z : ℤ). mod_z z (2 ^ 32)) sum ∙ added-is-rfc (rand s) x ∙ rw (generator-is-rfc s);
    }
