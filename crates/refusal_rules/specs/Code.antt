-- A call's answer, and the number of each: docs/RULES.md, "Which number comes back". A contract that speaks of an answer gives its number by
-- `code_of`. Assumes nothing.
use Rattle.std.specs.Prelude.{ℕ, Result, Ok, Err}
use Rattle.refusal_rules.specs.declared.answer.Refusal.{Refusal}
use Rattle.refusal_rules.specs.declared.answer.Refusal.TheVariants.{Lengths, Orders, Paths, Kinds, Rows, Gains, Lags}

-- accepted, or why not
abbrev pub Answer : Type 0
Answer = Result (Unit {0}) Refusal

-- accepted
abbrev pub Accepted : Answer
Accepted = Ok tt

-- the number of a refusal
abbrev pub refusal_code : Refusal → ℕ
refusal_code Lengths = 1
refusal_code Orders = 2
refusal_code Paths = 3
refusal_code Kinds = 4
refusal_code Rows = 5
refusal_code Gains = 6
refusal_code Lags = 7

-- the number of an answer
abbrev pub code_of : Answer → ℕ
code_of (Ok u) = 0
code_of (Err r) = refusal_code r
