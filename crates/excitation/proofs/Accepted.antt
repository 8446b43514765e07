-- What the answers say: a call that the reader accepts, the tags of a match on an answer, and the table of refusals word for word.
-- Assumes nothing.
use Prim.Native.Nat.{ℕ, zero, suc, ◌^◌, ◌≤◌, ◌<◌}
use native.Mathlib.Omega.{arith}
use native.Mathlib.Nat.{mod-eq_of_lt}
use mathlib.Core.Path.{◌≡◌, refl, sym, ap, ◌∙◌}
use mathlib.Core.Bool.{Bool, true, false, not}
use mathlib.Core.List.{List}
use mathlib.Core.Logic.{◌↔◌}
use lib.IntN.{ℤ, pos}
use lib.Dec.{eqb, ltb}
use borrow.Author.Tests.{eqb-true, eq-eqb, ltb-false, le-ltb, not-false}
use Rattle.fixed.specs.Iter.{either}
use Rattle.fixed.specs.Wrap.{mod_z}
use Rattle.fixed.proofs.Lowest.{lowest, exactly-lowest, exactly-none}
use Rattle.limits.specs.Count.{nat_z}
use Rattle.limits.specs.Tests.{outside}
use Rattle.limits.proofs.Laws.{or-false, inside, within}
use Rattle.std.specs.Prelude.{Ok, Err}
use Rattle.excitation.specs.declared.answer.Refusal.{Refusal}
use Rattle.excitation.specs.declared.answer.Refusal.TheVariants.{Seeds, Kinds, Rows}
use Rattle.excitation.specs.Code.{Answer, Accepted, code_of}
use Rattle.excitation.specs.Refused.{seed_refused, kinds_refused, rows_refused, table, applies, answer_of}
use Rattle.excitation.specs.Reading.{heard, heard_by}

-- the number of the first answer whose test holds
number : (a b c : Bool) → code_of (either a (Err Seeds) (either b (Err Kinds) (either c (Err Rows) Accepted))) ≡ either a 1 (either b 2 (either c 3 0))
number true b c = refl
number false true c = refl
number false false true = refl
number false false false = refl

-- ---- the table
module _ (seed signalType offset_type : ℤ) (pulses row : ℕ) where
  given : code_of (answer_of seed signalType offset_type pulses row) ≡ lowest (applies seed signalType offset_type pulses row) 3 1
  unfolding answer_of
  given = let is = applies seed signalType offset_type pulses row in number (is 1) (is 2) (is 3)

  -- number k, from 1 to 3, is given exactly when it applies and no lower number does
  pub exactly-refused : (k : ℕ) → 1 ≤ k → k ≤ 3
      → (code_of (answer_of seed signalType offset_type pulses row) ≡ k)
      ↔ ((applies seed signalType offset_type pulses row k ≡ true) × ((j : ℕ) → 1 ≤ j → j < k → applies seed signalType offset_type pulses row j ≡ false))
  exactly-refused k l u =
      let e = exactly-lowest (applies seed signalType offset_type pulses row) 3 k l u in ((λ x. e.0 (sym given ∙ x)), (λ h. given ∙ e.1 h))

  -- a call is accepted exactly when no number applies
  pub exactly-accepted :
      (code_of (answer_of seed signalType offset_type pulses row) ≡ 0)
      ↔ ((j : ℕ) → 1 ≤ j → j ≤ 3 → applies seed signalType offset_type pulses row j ≡ false)
  exactly-accepted =
      let e = exactly-none (applies seed signalType offset_type pulses row) 3 in ((λ x. e.0 (sym given ∙ x)), (λ h. given ∙ e.1 h))

-- ---- a call that is accepted
-- its seed is 0 to 3, its types are the RFC's, its rows have one length of at most 320
pub record Good (seed signalType offset_type : ℤ) (pulses row : ℕ) : Type 0 where
  pub seed-counts : seed ≡ pos (nat_z seed)
  pub seed-most : nat_z seed ≤ 3
  pub kind-counts : signalType ≡ pos (nat_z signalType)
  pub kind-most : nat_z signalType ≤ 2
  pub type-counts : offset_type ≡ pos (nat_z offset_type)
  pub type-most : nat_z offset_type ≤ 1
  pub same : pulses ≡ row
  pub most : pulses ≤ 320

pub accepted-good : (seed signalType offset_type : ℤ) (pulses row : ℕ) → code_of (answer_of seed signalType offset_type pulses row) ≡ 0 → Good seed signalType offset_type pulses row
unfolding table seed_refused kinds_refused rows_refused
accepted-good seed signalType offset_type pulses row e =
    let none = (exactly-accepted seed signalType offset_type pulses row).0 e in
    let s = inside 0 3 seed (none 1 (omega arith) (omega arith)) in
    let kinds = or-false (outside (pos 0) (pos 2) signalType) (outside (pos 0) (pos 1) offset_type) (none 2 (omega arith) (omega arith)) in
    let rows = or-false (not (eqb pulses row)) (ltb 320 pulses) (none 3 (omega arith) (omega arith)) in
    record {
      seed-counts = s.0;
      seed-most = s.1.1;
      kind-counts = (inside 0 2 signalType kinds.0).0;
      kind-most = (inside 0 2 signalType kinds.0).1.1;
      type-counts = (inside 0 1 offset_type kinds.1).0;
      type-most = (inside 0 1 offset_type kinds.1).1.1;
      same = eqb-true pulses row (not-false (eqb pulses row) rows.0);
      most = ltb-false 320 pulses rows.1;
    }

-- no number applies to such a call
good-seed : {seed signalType offset_type : ℤ} {pulses row : ℕ} → Good seed signalType offset_type pulses row → applies seed signalType offset_type pulses row 1 ≡ false
unfolding table seed_refused
good-seed {seed} g = ap (outside (pos 0) (pos 3)) g.seed-counts ∙ within 0 3 (nat_z seed) (omega arith) g.seed-most

good-kinds : {seed signalType offset_type : ℤ} {pulses row : ℕ} → Good seed signalType offset_type pulses row → applies seed signalType offset_type pulses row 2 ≡ false
unfolding table kinds_refused
good-kinds {seed} {signalType} {offset_type} g =
    let kind = ap (outside (pos 0) (pos 2)) g.kind-counts ∙ within 0 2 (nat_z signalType) (omega arith) g.kind-most in
    let type = ap (outside (pos 0) (pos 1)) g.type-counts ∙ within 0 1 (nat_z offset_type) (omega arith) g.type-most in
    rw (kind, type)

good-rows : {seed signalType offset_type : ℤ} {pulses row : ℕ} → Good seed signalType offset_type pulses row → applies seed signalType offset_type pulses row 3 ≡ false
unfolding table rows_refused
good-rows {pulses} {row} g = rw (eq-eqb pulses row g.same, le-ltb 320 pulses g.most)

-- and each such call is accepted
pub good-accepted : {seed signalType offset_type : ℤ} {pulses row : ℕ} → Good seed signalType offset_type pulses row → code_of (answer_of seed signalType offset_type pulses row) ≡ 0
good-accepted {seed} {signalType} {offset_type} {pulses} {row} g = (exactly-accepted seed signalType offset_type pulses row).1 none
  where
    none : (j : ℕ) → 1 ≤ j → j ≤ 3 → applies seed signalType offset_type pulses row j ≡ false
    none zero l u = absurd (omega arith)
    none (suc zero) l u = good-seed g
    none (suc (suc zero)) l u = good-kinds g
    none (suc (suc (suc zero))) l u = good-rows g
    none (suc (suc (suc (suc n)))) l u = absurd (omega arith)

-- the generator's word of such a seed is the seed
pub seed-word : (seed : ℤ) → seed ≡ pos (nat_z seed) → nat_z seed ≤ 3 → mod_z seed (2 ^ 32) ≡ nat_z seed
seed-word seed e h = ap (λ (z : ℤ). mod_z z (2 ^ 32)) e ∙ mod-eq_of_lt (let z : nat_z seed < 2 ^ 32 = omega arith in z)

-- ---- a match on an answer
-- the arm for accepted
pub accepted-tag : (a : Answer) → a ≡ Accepted → code_of a ≡ 0
accepted-tag a e = ap code_of e

-- where it is accepted the row has the values
pub heard-accepted : (a : Answer) (values row : List ℤ) → code_of a ≡ 0 → heard_by a values row ≡ heard Accepted values
unfolding heard_by
heard-accepted (Ok u) values row e = refl
heard-accepted (Err Seeds) values row e = absurd (omega arith)
heard-accepted (Err Kinds) values row e = absurd (omega arith)
heard-accepted (Err Rows) values row e = absurd (omega arith)

-- the arm for every refusal, with the row as it was
pub heard-refused : (why : Refusal) (values row : List ℤ) → heard_by (Err why) values row ≡ heard (Err why) row
unfolding heard_by
heard-refused why values row = refl
