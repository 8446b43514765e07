-- `plain_laid::laying::lay` meets its contract. Assumes nothing.
use mathlib.Core.Path.{◌≡◌}
use borrow.Author.Tests.{ne_eqb}
use native.Mathlib.Omega.{arith}
use mir.Syntax.{w32}
use mir.Val.{to_z, of_z}
use Rattle.std.specs.Prelude.{Err}
use Rattle.refusal_rules.specs.Code.{code_of}
use Rattle.refusal_rules.proofs.Matched.{code-refused}
use Rattle.plain_laid.specs.Laid.{laid}
use Rattle.std.proofs.Common.{rules}
use Rattle.plain_laid.proofs.laying.lay.Goals as goal

pub returns-in-Ok : goal.returns-in-Ok
unfolding laid
returns-in-Ok c =
    let coded = c.in-Ok.coded in
    let seed : to_z w32 (of_z w32 coded.seed) ≡ coded.seed = search rules in
    let count : to_z w32 (of_z w32 coded.report) ≡ coded.report = search rules in record {
      rows = λ out. rw (c.in-Ok.is, seed, c.lay_samples.ensures, c.lay_words.ensures);
      report = rw (c.in-Ok.is, count);
    }

pub returns-in-Err : goal.returns-in-Err
unfolding laid
returns-in-Err c =
    let why = c.in-Err.refused.why in
    record {
      rows = λ out. rw (c.in-Err.is, ne_eqb (code_of (Err why)) 0 (λ e. let h = code-refused why in omega arith));
      report = rw c.in-Err.is;
    }
