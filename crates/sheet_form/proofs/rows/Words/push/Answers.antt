-- `sheet_form::rows::Words::push` meets its contract. Assumes nothing.
use native.Mathlib.Omega.{arith}
use Rattle.sheet_form.proofs.Filled.{pushed}
use Rattle.sheet_form.proofs.rows.Words.push.Goals as goal

pub invariant_of-self : goal.invariant_of-self
invariant_of-self g c =
    let s = c.self.inside in
    let h = rw (← c.self.view_is) at c.requires in
    pushed s.places.words s.count c.args.x g.T.Word.zero (omega (arith, c.self.invariant.1)) c.self.invariant.1 c.self.invariant.2
