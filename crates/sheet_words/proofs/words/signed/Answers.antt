-- `sheet_words::words::signed` meets its contract. Assumes nothing.
use mathlib.Core.Path.{◌≡◌, sym, ◌∙◌}
use Rattle.std.specs.Prelude.{Some, None}
use Rattle.sheet_words.specs.Number.{magnitude, signed}
use Rattle.sheet_words.proofs.Signs.{small-fits, small-read, minus-fits, minus-read}
use Rattle.sheet_words.proofs.Values.{magnitude-small}
use Rattle.sheet_words.proofs.words.signed.Goals as goal

pub returns-in_err-n : goal.returns-in_err-n
unfolding signed
returns-in_err-n c =
    let e : magnitude c.args.digits.now ≡ None = sym c.magnitude_of.ensures ∙ c.in_err-n.was in
    rw (c.from_residual.ensures, e)

pub overflow_cast-n : goal.overflow_cast-n
overflow_cast-n c = small-fits _ (magnitude-small _ _ (sym c.magnitude_of.ensures ∙ c.in_ok-n.was))

pub overflow_sub-result : goal.overflow_sub-result
overflow_sub-result c = minus-fits _ (magnitude-small _ _ (sym c.magnitude_of.ensures ∙ c.in_ok-n.was))

pub returns-then-minus : goal.returns-then-minus
unfolding signed
returns-then-minus c =
    let e : magnitude c.args.digits.now ≡ Some c.in_ok-n.field-0 = sym c.magnitude_of.ensures ∙ c.in_ok-n.was in
    rw (minus-read _ (magnitude-small _ _ e), e, c.if-minus.true)

pub returns-else-minus : goal.returns-else-minus
unfolding signed
returns-else-minus c =
    let e : magnitude c.args.digits.now ≡ Some c.in_ok-n.field-0 = sym c.magnitude_of.ensures ∙ c.in_ok-n.was in
    rw (small-read _ (magnitude-small _ _ e), e, c.if-minus.false)
