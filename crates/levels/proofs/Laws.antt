-- What proofs share: a half fits, and how the fields of a struct are read back; those of `Pair`.
-- Assumes nothing.
use Prim.Native.Nat.{suc, ◌/◌, ◌^◌, ◌<◌}
use native.Mathlib.Omega.{arith}
use mathlib.Core.Path.{◌≡◌}
use lib.IntN.{ℤ, pos, negsuc, neg_ℤ}
use lib.Signed.{quot_z}
use mir.Syntax.{w32}
use mir.Val.{SFits, to_z, of_z}
use denote.Laws.{valss}
use denote.Struct.Struct.{AreAll}
use denote.Struct.Declared.{Declared, fields}
use denote.Struct.Laws.{Laws, spells}
use Rattle.fixed.proofs.Lin.{neg-lin, sfits-of-lin}
use Rattle.fixed.proofs.Fit.{back}
use Rattle.levels.specs.declared.level.Pair.{Pair}
use Rattle.levels.specs.contracts.level.Pair as pair-type
use Rattle.levels.proofs.level.Pair.TheLaws as pair-laws

-- a half fits
pub fit-halved : {z : ℤ} → SFits w32 z → SFits w32 (quot_z z (pos 2))
fit-halved {z = pos n} f = let h : n < 2 ^ 31 = f.sfits in record { sfits = omega arith }
fit-halved {z = negsuc n} f =
    let h : n < 2 ^ 31 = f.sfits in
    let e = neg-lin (pos (suc n / 2)) in
    sfits-of-lin w32 (neg_ℤ (pos (suc n / 2))) (omega arith) (omega arith)

-- what owning a struct tells of its value
abbrev pub Told : (T : Declared) → Laws T → T.D → Type 0
Told T L x = AreAll (fields T) (T.to x) (valss (fields T) (spells T.parts L) (T.to x))

-- the number that its bits give back
abbrev pub Back : ℤ → Type 0
Back z = to_z w32 (of_z w32 z) ≡ z

-- what `struct_told` says of a `Pair`
pub record PairBack (x : Pair) : Type 0 where
  pub q1 : Back x.q1
  pub rd1 : Back x.rd1
  pub q2 : Back x.q2
  pub rd2 : Back x.rd2

pub pair : (x : Pair) → Told pair-type.the_type pair-laws.the_laws x → PairBack x
pair x t =
    record { q1 = back w32 _ t.0.1; rd1 = back w32 _ t.1.0.1; q2 = back w32 _ t.1.1.0.1; rd2 = back w32 _ t.1.1.1.0.1 }
