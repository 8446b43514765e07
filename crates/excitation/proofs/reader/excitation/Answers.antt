-- `excitation::reader::excitation` meets its contract. Assumes nothing.
use native.Mathlib.Omega.{arith}
use mathlib.Core.Path.{◌≡◌, sym, ap, ◌∙◌}
use mathlib.Core.List.{List}
use lib.ListN.{length}
use lib.IntN.{ℤ, pos}
use Rattle.fixed.proofs.Fit.{read, got32}
use Rattle.fixed.proofs.Lin.{le-lin, le-of-lin}
use Rattle.rfc6716.specs.Excitation.{offset_Q23}
use Rattle.rfc6716.proofs.Offsets.{offset-range}
use Rattle.limits.specs.Count.{nat_z}
use Rattle.excitation.specs.Code.{Answer, Accepted, code_of}
use Rattle.excitation.specs.Refused.{answer_of}
use Rattle.excitation.specs.Reading.{heard, heard_row, heard_by, reading}
use Rattle.excitation.proofs.Accepted.{Good, accepted-good, seed-word, heard-accepted, heard-refused}
use Rattle.std.proofs.Common.{ℕ}
use Rattle.std.proofs.lemmas.Result.{err_from_is_err_and}
use Rattle.excitation.proofs.reader.excitation.Goals as goal

-- where it is accepted, what is known of the call
good : (seed kind type : ℤ) (pulses row : ℕ) (a : Answer) → a ≡ answer_of seed kind type pulses row → a ≡ Accepted → Good seed kind type pulses row
good seed kind type pulses row a found is = accepted-good seed kind type pulses row (ap code_of (sym found ∙ is))

pub offset_of-offset-requires : goal.offset_of-offset-requires
offset_of-offset-requires c =
    let a = c.args in
    let f = c.ranges in
    let found = rw (read f.seed, read f.signal_type, read f.offset_type) at c.check.ensures in
    let g = good a.seed a.signal_type a.offset_type (length a.pulses.now) (length a.row.now) c.check.result found c.in_ok-check.was in
    let kind = rw (read f.signal_type) at c.count.ensures in
    let type = rw (read f.offset_type) at c.count-2.ensures in
    (rw kind g.kind-most, rw type g.type-most)

pub fill-requires : goal.fill-requires
fill-requires c =
    let a = c.args in
    let f = c.ranges in
    let found = rw (read f.seed, read f.signal_type, read f.offset_type) at c.check.ensures in
    let g = good a.seed a.signal_type a.offset_type (length a.pulses.now) (length a.row.now) c.check.result found c.in_ok-check.was in
    let kind = rw (read f.signal_type) at c.count.ensures in
    let type = rw (read f.offset_type) at c.count-2.ensures in
    let e = got32 c.offset_of-offset.result c.offset_of-offset.type_inv ∙ rw (kind, type) at c.offset_of-offset.ensures in
    let r = offset-range (nat_z a.signal_type) (nat_z a.offset_type) g.kind-most g.type-most in
    let v = offset_Q23 (nat_z a.signal_type) (nat_z a.offset_type) in
    (rw e (le-of-lin (pos 0) v (omega (arith, le-lin r.0))), (rw e r.1, g.same))

pub returns : goal.returns
unfolding reading heard_row
returns c =
    let a = c.args in
    let f = c.ranges in
    let found = rw (read f.seed, read f.signal_type, read f.offset_type) at c.check.ensures in
    let g = good a.seed a.signal_type a.offset_type (length a.pulses.now) (length a.row.now) c.check.result found c.in_ok-check.was in
    let kind = rw (read f.signal_type) at c.count.ensures in
    let type = rw (read f.offset_type) at c.count-2.ensures in
    let e = got32 c.offset_of-offset.result c.offset_of-offset.type_inv ∙ rw (kind, type) at c.offset_of-offset.ensures in
    let row = rw (e, read f.seed, seed-word a.seed g.seed-counts g.seed-most) at c.fill.ensures in
    let values = heard_row a.seed a.signal_type a.offset_type a.pulses.now in
    ap (λ (l : List ℤ). heard Accepted l) row
    ∙ sym (heard-accepted c.check.result values a.row.now (ap code_of c.in_ok-check.was))
    ∙ ap (λ (r : Answer). heard_by r values a.row.now) found

pub returns-in_err-check : goal.returns-in_err-check
unfolding reading
returns-in_err-check c =
    let a = c.args in
    let f = c.ranges in
    let found = rw (read f.seed, read f.signal_type, read f.offset_type) at c.check.ensures in
    let values = heard_row a.seed a.signal_type a.offset_type a.pulses.now in
    let p = err_from_is_err_and c.from_residual.result c.from_residual.ensures.1 in
    rw (p.1, p.2)
    (sym (heard-refused _ values a.row.now) ∙ ap (λ (r : Answer). heard_by r values a.row.now) (sym c.in_err-check.was ∙ found))
