-- What a contract sees of a row: the list of its numbers. Assumes nothing.
use Rattle.std.specs.Prelude.{◌-◌, List, ◌++◌, length, replicate, refl}
use Rattle.std.specs.Coded.{Coded, code_by, coded_list}

-- the numbers, in order
pub record Words (T : Type 0) : Type 0 where
  pub items : List T

-- a row is stored as the list of its numbers
abbrev pub words_code : {T : Type 0} → Coded T → Coded (Words T)
words_code {T} code = code_by (List T) (coded_list code) (λ v. v.items) (λ xs. record { items = xs }) (λ _. refl)

-- the numbers, and zeros up to 320 places
abbrev pub filled : {T : Type 0} → T → List T → List T
filled zero xs = xs ++ replicate (320 - length xs) zero
