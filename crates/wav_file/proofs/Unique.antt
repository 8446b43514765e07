-- Any two outcomes that a public function's contract allows are equal: each contract leaves one. Stated over the contracts as the checker reads
-- them. Assumes nothing.
use mathlib.Core.Path.{◌≡◌, refl, sym, ◌∙◌, ap}
use Prim.Native.Nat.{ℕ, ◌≤◌}
use native.Mathlib.Omega.{arith}
use lib.Dec.{eqb}
use Rattle.std.specs.Prelude.{Result, Ok, Err}
use Rattle.fixed.specs.Iter.{either}
use Rattle.wav_file.specs.declared.find.Found.{Found}
use Rattle.wav_file.specs.declared.refusal.Refusal.{Refusal}
use Rattle.wav_file.specs.declared.refusal.Refusal.TheVariants.{TooLong, NotWave, RunsPast, NoFormat, OtherFormat, NoData, OddData}
use Rattle.wav_file.specs.declared.refusal.NotTwice.{NotTwice}
use Rattle.wav_file.specs.Number.{number}
use Rattle.wav_file.specs.Find.{Outcome}
use Rattle.wav_file.specs.Numbers.{in_numbers, answer_number}
use Rattle.wav_file.specs.Fill.{Filled}
use Rattle.wav_file.proofs.refusal.Refusal.number.Reads as number-read
use Rattle.wav_file.proofs.refusal.NotTwice.number.Reads as not-twice-read
use Rattle.wav_file.proofs.find.find.Reads as find
use Rattle.wav_file.proofs.find.part.Reads as part
use Rattle.wav_file.proofs.samples.fill.Reads as fill

-- ---- no two refusals have one number, so the numbers say what was handed back
pub number_from-1 : (k : Refusal) → 1 ≤ number k
number_from-1 TooLong = omega arith
number_from-1 NotWave = omega arith
number_from-1 RunsPast = omega arith
number_from-1 NoFormat = omega arith
number_from-1 OtherFormat = omega arith
number_from-1 NoData = omega arith
number_from-1 OddData = omega arith

abbrev refusal_of : ℕ → Refusal
refusal_of n =
    either (eqb n 1) TooLong
    (either (eqb n 2) NotWave (either (eqb n 3) RunsPast (either (eqb n 4) NoFormat (either (eqb n 5) OtherFormat (either (eqb n 6) NoData OddData)))))

read-back : (k : Refusal) → refusal_of (number k) ≡ k
read-back TooLong = refl
read-back NotWave = refl
read-back RunsPast = refl
read-back NoFormat = refl
read-back OtherFormat = refl
read-back NoData = refl
read-back OddData = refl

pub same-refusal : (j k : Refusal) → number j ≡ number k → j ≡ k
same-refusal j k e = sym (read-back j) ∙ ap refusal_of e ∙ read-back k

fields : (a b : Found) → a.start ≡ b.start → a.length ≡ b.length → a.rate ≡ b.rate → a ≡ b
fields a b s l r = λ i. record { start = s i; length = l i; rate = r i }

pub same-result : (r s : Result Found Refusal) → in_numbers r ≡ in_numbers s → r ≡ s
same-result (Ok a) (Ok b) e =
    ap Ok (fields a b (ap (λ (o : Outcome). o.start) e) (ap (λ (o : Outcome). o.length) e) (ap (λ (o : Outcome). o.rate) e))
same-result (Ok a) (Err k) e = absurd (omega (arith, ap (λ (o : Outcome). o.answer) e, number_from-1 k))
same-result (Err j) (Ok b) e = absurd (omega (arith, ap (λ (o : Outcome). o.answer) e, number_from-1 j))
same-result (Err j) (Err k) e = ap Err (same-refusal j k (ap (λ (o : Outcome). o.answer) e))

pub same-filled : (r s : Result (Unit {0}) NotTwice) → answer_number r ≡ answer_number s → r ≡ s
same-filled (Ok a) (Ok b) e = refl
same-filled (Ok a) (Err k) e = absurd (omega arith)
same-filled (Err j) (Ok b) e = absurd (omega arith)
same-filled (Err j) (Err k) e = refl

-- ---- the public functions
pub number-unique : (κs a r s e f : _) → number-read.Post κs a r e → number-read.Post κs a s f → r ≡ s
number-unique κs a r s e f p q = p ∙ sym q

pub not-twice-unique : (κs a r s e f : _) → not-twice-read.Post κs a r e → not-twice-read.Post κs a s f → r ≡ s
not-twice-unique κs a r s e f p q = p ∙ sym q

pub find-unique : (κs a r s e : _) → find.Post κs a r e → find.Post κs a s e → r ≡ s
find-unique κs a r s e p q = same-result r s (p ∙ sym q)

pub part-unique : (κs a r s e : _) → part.Post κs a r e → part.Post κs a s e → r.now ≡ s.now
part-unique κs a r s e p q = p ∙ sym q

-- the answer and the row
pub fill-unique : (κs a r s e f : _) → fill.Post κs a r e → fill.Post κs a s f → (r ≡ s) × (e.1.0.now ≡ f.1.0.now)
fill-unique κs a r s e f p q = let same = p ∙ sym q in (same-filled r s (ap (λ (o : Filled). o.answer) same), ap (λ (o : Filled). o.row) same)
