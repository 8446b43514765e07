-- The number of each refusal of the first step (docs/RULES.md, "Notes from WAV files"). Assumes nothing.
use Rattle.std.specs.Prelude.{ℕ}
use Rattle.wav_file.specs.declared.refusal.Refusal.{Refusal}
use Rattle.wav_file.specs.declared.refusal.Refusal.TheVariants.{TooLong, NotWave, RunsPast, NoFormat, OtherFormat, NoData, OddData}

-- number k applies as `table` says
abbrev pub number : Refusal → ℕ
number TooLong = 1
number NotWave = 2
number RunsPast = 3
number NoFormat = 4
number OtherFormat = 5
number NoData = 6
number OddData = 7
