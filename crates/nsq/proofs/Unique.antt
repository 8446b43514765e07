-- The entry's contract leaves one outcome, for every call. Assumes nothing.
use mathlib.Core.Path.{◌≡◌, refl, sym, ◌∙◌, ap, ap₂}
use mathlib.Core.List.{List}
use lib.IntN.{ℤ}
use Rattle.std.specs.Prelude.{Ok, Err}
use Rattle.refusal_rules.specs.Code.{Answer}
use Rattle.steps.specs.Entry.{Outcome, Answered, handed, reported}
use Rattle.nsq.proofs.entry.silk_NSQ_del_dec.Reads as entry

-- what the outcome and the report of a call say of what it hands back
answered_of : Answer → Outcome → ℤ → Answered
answered_of (Ok u) o report = Ok (record { seed = o.seed; state = o.state; report = report })
answered_of (Err why) o report = Err (record { why = why; seed = o.seed; state = o.state })

answered-back : (r : Answered) (out : List ℤ) → answered_of (handed r out).answer (handed r out) (reported r) ≡ r
unfolding answered_of
answered-back (Ok c) out = refl
answered-back (Err r) out = refl

handed-pulses : (r : Answered) (out : List ℤ) → (handed r out).pulses ≡ out
handed-pulses (Ok c) out = refl
handed-pulses (Err r) out = refl

-- it is known by the outcome and the report, and so are the pulses
pub one-outcome : {r s : Answered} {out row : List ℤ} → handed r out ≡ handed s row → reported r ≡ reported s → (r ≡ s) × (out ≡ row)
one-outcome {r} {s} {out} {row} same count = (
  sym (answered-back r out) ∙ ap₂ (λ (o : Outcome) (k : ℤ). answered_of o.answer o k) same count ∙ answered-back s row,
  sym (handed-pulses r out) ∙ ap (λ (o : Outcome). o.pulses) same ∙ handed-pulses s row,
)

-- what is handed back, every word of the state in it, and the pulses
pub silk-NSQ-del-dec-unique : (κs a r s e f : _) → entry.Post κs a r e → entry.Post κs a s f → (r ≡ s) × (e.1.1.1.0.now ≡ f.1.1.1.0.now)
silk-NSQ-del-dec-unique κs a r s e f p q = one-outcome (p.0 ∙ sym q.0) (p.1 ∙ sym q.1)
