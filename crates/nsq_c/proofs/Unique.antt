-- Each contract leaves one outcome, for every number and every row of every length. Assumes nothing.
use mathlib.Core.Path.{◌≡◌, sym, ◌∙◌, ap}
use Rattle.plain_laid.specs.Laid.{Left}
use Rattle.plain_laid.proofs.Unique.{same-reply}
use Rattle.plain_fresh.specs.Fresh.{Freshly}
use Rattle.wav_file.specs.Find.{Outcome}
use Rattle.wav_file.specs.Fill.{Filled}
use Rattle.nsq_c.specs.Heard.{Numbered}
use Rattle.nsq_c.specs.Report.{Reported}
use Rattle.nsq_c.proofs.heard.nsq_excitation.Reads as excitation
use Rattle.nsq_c.proofs.fresh.nsq_fresh.Reads as fresh
use Rattle.nsq_c.proofs.call.nsq_del_dec.Reads as call
use Rattle.nsq_c.proofs.calling.called.Reads as called
use Rattle.nsq_c.proofs.calling.short_number.Reads as short
use Rattle.nsq_c.proofs.report.nsq_del_dec_report.Reads as report
use Rattle.nsq_c.proofs.wav.nsq_wav_find.Reads as find
use Rattle.nsq_c.proofs.wav.nsq_wav_samples.Reads as samples

-- the number and both rows are the same
pub nsq-fresh-unique : (κs a r s e f : _) → fresh.Post κs a r e → fresh.Post κs a s f → (r ≡ s) × ((e.0.now ≡ f.0.now) × (e.1.0.now ≡ f.1.0.now))
nsq-fresh-unique κs a r s e f p q = let same = p ∙ sym q in (ap (λ (o : Freshly). o.number) same, (ap (λ (o : Freshly). o.samples) same, ap (λ (o : Freshly). o.words) same))

-- two that leave the same, number and rows, leave each part the same
parts : {t u : Left} → t ≡ u → (t.number ≡ u.number) × ((t.settings ≡ u.settings) × ((t.samples ≡ u.samples) × ((t.words ≡ u.words) × (t.pulses ≡ u.pulses))))
parts same = (
  ap (λ (o : Left). o.number) same,
  (ap (λ (o : Left). o.settings) same, (ap (λ (o : Left). o.samples) same, (ap (λ (o : Left). o.words) same, ap (λ (o : Left). o.pulses) same))),
)

-- the number is the same, and so are the settings, the samples, the words and the pulses
pub nsq-del-dec-unique : (κs a r s e f : _) → call.Post κs a r e → call.Post κs a s f
    → (r ≡ s) × ((e.0.now ≡ f.0.now) × ((e.1.0.now ≡ f.1.0.now) × ((e.1.1.0.now ≡ f.1.1.0.now) × (e.1.1.1.1.0.now ≡ f.1.1.1.1.0.now))))
nsq-del-dec-unique κs a r s e f p q = parts (p ∙ sym q)

-- what comes back beside the rows, and the same four rows
pub called-unique : (κs a r s e f : _) → called.Post κs a r e → called.Post κs a s f
    → (r ≡ s) × ((e.0.now ≡ f.0.now) × ((e.1.0.now ≡ f.1.0.now) × ((e.1.1.0.now ≡ f.1.1.0.now) × (e.1.1.1.1.0.now ≡ f.1.1.1.1.0.now))))
called-unique κs a r s e f p q =
    let same = parts (p.0 ∙ sym q.0) in
    (same-reply r s same.0 (p.1 ∙ sym q.1), same.1)

pub short-number-unique : (κs a r s e f : _) → short.Post κs a r e → short.Post κs a s f → r ≡ s
short-number-unique κs a r s e f p q = p ∙ sym q

-- the number, the same four rows, and the row of the report
pub nsq-del-dec-report-unique : (κs a r s e f : _) → report.Post κs a r e → report.Post κs a s f
    → ((r ≡ s) × ((e.0.now ≡ f.0.now) × ((e.1.0.now ≡ f.1.0.now) × ((e.1.1.0.now ≡ f.1.1.0.now) × (e.1.1.1.1.0.now ≡ f.1.1.1.1.0.now)))))
    × (e.1.1.1.1.1.1.1.1.1.1.1.1.1.0.now ≡ f.1.1.1.1.1.1.1.1.1.1.1.1.1.0.now)
nsq-del-dec-report-unique κs a r s e f p q =
    let same = p ∙ sym q in (parts (ap (λ (o : Reported). o.left) same), ap (λ (o : Reported). o.report) same)

-- the number and the row are the same
pub nsq-excitation-unique : (κs a r s e f : _) → excitation.Post κs a r e → excitation.Post κs a s f → (r ≡ s) × (e.1.1.1.1.0.now ≡ f.1.1.1.1.0.now)
nsq-excitation-unique κs a r s e f p q = let same = p ∙ sym q in (ap (λ (o : Numbered). o.number) same, ap (λ (o : Numbered). o.row) same)

-- the number, the place, the length and the rate
pub nsq-wav-find-unique : (κs a r s e f : _) → find.Post κs a r e → find.Post κs a s f
    → (r ≡ s) × ((e.1.0.now ≡ f.1.0.now) × ((e.1.1.0.now ≡ f.1.1.0.now) × (e.1.1.1.0.now ≡ f.1.1.1.0.now)))
nsq-wav-find-unique κs a r s e f p q =
    let same = p ∙ sym q in
    (ap (λ (o : Outcome). o.answer) same, (ap (λ (o : Outcome). o.start) same, (ap (λ (o : Outcome). o.length) same, ap (λ (o : Outcome). o.rate) same)))

-- the number and the row
pub nsq-wav-samples-unique : (κs a r s e f : _) → samples.Post κs a r e → samples.Post κs a s f → (r ≡ s) × (e.1.0.now ≡ f.1.0.now)
nsq-wav-samples-unique κs a r s e f p q = let same = p ∙ sym q in (ap (λ (o : Filled). o.answer) same, ap (λ (o : Filled). o.row) same)
