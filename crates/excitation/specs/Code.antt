-- An answer of the reader, and the number of each. Assumes nothing.
use Rattle.std.specs.Prelude.{ℕ, Result, Ok, Err}
use Rattle.excitation.specs.declared.answer.Refusal.{Refusal}
use Rattle.excitation.specs.declared.answer.Refusal.TheVariants.{Seeds, Kinds, Rows}

-- accepted, or why not
abbrev pub Answer : Type 0
Answer = Result (Unit {0}) Refusal

-- accepted
abbrev pub Accepted : Answer
Accepted = Ok tt

-- 0 accepted; 1 the seed, 2 the signal type or the offset type, 3 the rows
abbrev pub code_of : Answer → ℕ
code_of (Ok u) = 0
code_of (Err Seeds) = 1
code_of (Err Kinds) = 2
code_of (Err Rows) = 3
