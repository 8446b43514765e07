-- Each contract leaves one outcome, for every row of every length. Assumes nothing.
use mathlib.Core.Path.{◌≡◌, refl, sym, ◌∙◌, ap, ap₂}
use mathlib.Core.List.{[]}
use lib.IntN.{ℤ}
use Rattle.std.specs.Prelude.{Ok, Err}
use Rattle.refusal_rules.specs.Code.{Answer, code_of}
use Rattle.refusal_rules.proofs.Matched.{code-same}
use Rattle.plain_laid.specs.Laid.{Replied, answer_of, report_of, Left}
use Rattle.plain_laid.proofs.laying.lay.Reads as lay

-- what comes back beside the rows is known by its answer and its report
abbrev replied : Answer → ℤ → Replied
replied (Ok u) k = Ok k
replied (Err why) k = Err why

replied-back : (r : Replied) → replied (answer_of r) (report_of r) ≡ r
replied-back (Ok k) = refl
replied-back (Err why) = refl

pub same-reply : (r s : Replied) → code_of (answer_of r) ≡ code_of (answer_of s) → report_of r ≡ report_of s → r ≡ s
same-reply r s e f = sym (replied-back r) ∙ ap₂ replied (code-same _ _ e) f ∙ replied-back s

-- what comes back, the settings, the samples and the words; the contract holds whatever the pulses are
pub lay-unique : (κs a r s e f : _) → lay.Post κs a r e → lay.Post κs a s f → (r ≡ s) × ((e.1.0.now ≡ f.1.0.now) × ((e.1.1.0.now ≡ f.1.1.0.now) × (e.1.1.1.0.now ≡ f.1.1.1.0.now)))
lay-unique κs a r s e f p q =
    let same = p.0 [] ∙ sym (q.0 []) in
    (same-reply r s (ap (λ (o : Left). o.number) same) (p.1 ∙ sym q.1), (ap (λ (o : Left). o.settings) same, (ap (λ (o : Left). o.samples) same, ap (λ (o : Left). o.words) same)))
