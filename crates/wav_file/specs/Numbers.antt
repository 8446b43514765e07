-- What the two steps hand back, in numbers, as a C program sees it. Assumes nothing.
use Rattle.std.specs.Prelude.{ℕ, Result, Ok, Err}
use Rattle.wav_file.specs.declared.refusal.Refusal.{Refusal}
use Rattle.wav_file.specs.declared.find.Found.{Found}
use Rattle.wav_file.specs.Number.{number}
use Rattle.wav_file.specs.Find.{Outcome, found_by, refused}

-- the first step: 0 and what was found, or the number of the refusal and three zeros
abbrev pub in_numbers : Result Found Refusal → Outcome
in_numbers (Ok r) = found_by 0 r.start r.length r.rate
in_numbers (Err k) = refused (number k)

-- the second step: 0, or 8
abbrev pub answer_number : {T E : Type 0} → Result T E → ℕ
answer_number (Ok _) = 0
answer_number (Err _) = 8
