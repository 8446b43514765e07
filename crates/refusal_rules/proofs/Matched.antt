-- What a match on an answer tells: a refusal's place among them and its number go together, and only what is accepted has number 0. Assumes
-- nothing.
use Prim.Native.Nat.{ℕ, suc, ◌<◌}
use native.Mathlib.Omega.{arith}
use mathlib.Core.Path.{◌≡◌, refl, sym, ap, ◌∙◌}
use mathlib.Core.List.{List, [], ◌∷◌}
use lib.ListN.{get_or}
use lib.IntN.{ℤ}
use denote.Enum.Declared.{tag_of}
use Rattle.std.specs.Prelude.{Ok, Err}
use Rattle.silk.specs.declared.structs.Settings.{Settings}
use Rattle.refusal_rules.specs.declared.answer.Refusal.{Refusal}
use Rattle.refusal_rules.specs.declared.answer.Refusal.TheVariants.{Lengths, Orders, Paths, Kinds, Rows, Gains, Lags}
use Rattle.refusal_rules.specs.declared.answer.Sizes.{Sizes}
use Rattle.refusal_rules.specs.Code.{Answer, Accepted, refusal_code, code_of}
use Rattle.refusal_rules.specs.Good.{Good}
use Rattle.refusal_rules.specs.Table.{answer_of}
use Rattle.refusal_rules.specs.contracts.answer.Refusal as refusal-type
use Rattle.refusal_rules.proofs.Accept.{good}

-- a refusal's number is one more than its place
pub tag-code : (r : Refusal) → suc (tag_of refusal-type.the_type r) ≡ refusal_code r
tag-code Lengths = refl
tag-code Orders = refl
tag-code Paths = refl
tag-code Kinds = refl
tag-code Rows = refl
tag-code Gains = refl
tag-code Lags = refl

-- the arm for every refusal
pub code-refused : (r : Refusal) → 0 < code_of (Err r)
code-refused r = let e = tag-code r in omega arith

-- number 0 is accepted
pub code-accepted : (a : Answer) → code_of a ≡ 0 → a ≡ Accepted
code-accepted (Ok u) e = refl
code-accepted (Err r) e = absurd (let h = code-refused r in omega arith)

-- the answer that has a number
abbrev answer_with : ℕ → Answer
answer_with n = get_or (Accepted ∷ Err Lengths ∷ Err Orders ∷ Err Paths ∷ Err Kinds ∷ Err Rows ∷ Err Gains ∷ Err Lags ∷ []) n Accepted

answer-back : (a : Answer) → answer_with (code_of a) ≡ a
answer-back (Ok u) = refl
answer-back (Err Lengths) = refl
answer-back (Err Orders) = refl
answer-back (Err Paths) = refl
answer-back (Err Kinds) = refl
answer-back (Err Rows) = refl
answer-back (Err Gains) = refl
answer-back (Err Lags) = refl

-- each answer has a number of its own
pub code-same : (a b : Answer) → code_of a ≡ code_of b → a ≡ b
code-same a b e = sym (answer-back a) ∙ ap answer_with e ∙ answer-back b

-- the arm for accepted: what `check` gave back is accepted, so the call is good
pub good-matched : (s : Settings) (z : Sizes) (lagPrev gain : ℤ) (gains lags : List ℤ) (r : Answer)
    → r ≡ answer_of s z lagPrev gain gains lags → r ≡ Accepted → Good s z lagPrev gain gains lags
good-matched s z lagPrev gain gains lags r e t = good s z lagPrev gain gains lags (sym e ∙ t)
