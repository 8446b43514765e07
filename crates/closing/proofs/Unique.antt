-- Each contract leaves one outcome: two that meet it have equal results, and every row is left with equal words.
-- Assumes nothing.
use mathlib.Core.Path.{◌≡◌, sym, ◌∙◌, ap, ap₂}
use lib.IntN.{ℤ}
use Rattle.steps.specs.Frame.{Done}
use Rattle.steps.specs.declared.structs.Coded.{Coded}
use Rattle.closing.proofs.end.ended.Reads as ended

-- what is handed back beside the pulses
abbrev pub handed_of : Done → ℤ → Coded
handed_of d report = record { seed = d.seed; state = d.state; report = report }

-- seed, every word of the state, the report, and the pulses at exit
pub ended-unique : (κs a r s e f : _) → ended.Post κs a r e → ended.Post κs a s f → (r ≡ s) × (e.1.0.now ≡ f.1.0.now)
ended-unique κs a r s e f p q =
    let same = p.0 ∙ sym q.0 in
    let pulses = ap (λ (d : Done). d.pulses) same in
    (ap₂ handed_of same (rw pulses at p.1 ∙ sym q.1), pulses)
