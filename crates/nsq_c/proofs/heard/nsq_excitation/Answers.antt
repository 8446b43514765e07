-- `nsq_c::heard::nsq_excitation` meets its contract. Assumes nothing.
use Prim.Native.Nat.{ℕ}
use mathlib.Core.Path.{ap, ◌∙◌}
use Rattle.fixed.proofs.Fit.{read}
use Rattle.nsq_c.specs.Heard.{numbered, by_number, heard_from}
use Rattle.nsq_c.proofs.heard.nsq_excitation.Goals as goal

pub returns : goal.returns
unfolding heard_from
returns c =
    let f = c.ranges in
    let outcome = rw (read f.seed, read f.signal_type, read f.offset_type) at c.excitation.ensures in
    ap (λ (k : ℕ). numbered k c.excitation.new.row) c.number.ensures ∙ ap by_number outcome
