-- What two rules of replacement must have in common so that no call can tell them apart. The rules themselves stand in `steps` (specs/Among.antt): the
-- Rust's, `keeps_first`, copies a path's words from word i on (i the sample's place in its subframe), and `full_copy` copies all of them.
-- Assumes nothing.
use Rattle.std.specs.Prelude.{ℕ, ◌+◌, ◌<◌, ◌≡◌, List, length, ℤ}
use Rattle.fixed.specs.Row.{word}
use Rattle.steps.specs.Among.{Rule, keeps_first}

-- a rule that copies from word i + 1 on. What it leaves below is its own affair: the next sample's prediction reads no word before i + 1, so word i
-- is not read again after a replacement at sample i
pub record Copies (rule : Rule) : Type 0 where
  pub len : (own by : List ℤ) (i : ℕ) → length (rule own by i) ≡ length by
  pub at : (own by : List ℤ) (i j : ℕ) → i < j → word (rule own by i) j ≡ word by j

-- the Rust's rule n words later: words are copied from word i + n on. One word later nobody hears it (`full_copy:one_later`), two words later one
-- does (`neighbours:two-later-heard`)
unfoldable pub later : ℕ → Rule
later n own by i = keeps_first own by (i + n)
