-- What comes of asking for a fresh state, for two rows of any length: a number, and each row as it is left. Assumes nothing.
use Rattle.std.specs.Prelude.{ℕ, Bool, ◌&&◌, List, length, ℤ, eqb, Err}
use Rattle.fixed.specs.Iter.{either}
use Rattle.silk.specs.State.{fresh_state}
use Rattle.refusal_rules.specs.declared.answer.Refusal.TheVariants.{Rows}
use Rattle.refusal_rules.specs.Code.{Accepted, code_of}
use Rattle.plain_rows.specs.Layout.{words_of}

-- what `nsq_fresh` leaves: its number and the two rows
pub record Freshly : Type 0 where
  pub number : ℕ
  pub samples : List ℤ
  pub words : List ℤ

-- the three together
abbrev pub freshly_of : ℕ → List ℤ → List ℤ → Freshly
freshly_of k samples words = record { number = k; samples = samples; words = words }

-- do two rows have the lengths of a state's?
unfoldable pub state_fits : List ℤ → List ℤ → Bool
state_fits samples words = eqb (length samples) 640 && eqb (length words) 767

-- the fresh state, or number 5 and both rows as they were
unfoldable pub freshened : List ℤ → List ℤ → Freshly
freshened samples words =
    either (state_fits samples words)
    (freshly_of (code_of Accepted) fresh_state.xq (words_of fresh_state))
    (freshly_of (code_of (Err Rows)) samples words)
