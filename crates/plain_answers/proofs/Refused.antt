-- A call with no words in its rows is refused, with the lowest of numbers 1 to 4 that its settings give, else 5. Assumes nothing.
use Prim.Native.Nat.{ℕ, ◌*◌}
use mathlib.Core.Path.{◌≡◌, refl}
use mathlib.Core.Bool.{Bool, true, false, ◌||◌}
use mathlib.Core.List.{List}
use lib.IntN.{ℤ}
use Rattle.silk.specs.declared.structs.Settings.{Settings}
use Rattle.limits.specs.Count.{nat_z}
use Rattle.refusal_rules.specs.declared.answer.Sizes.{Sizes}
use Rattle.refusal_rules.specs.Table.{another, rows_refused, table, answer_of}
use Rattle.refusal_rules.specs.declared.answer.Refusal.TheVariants.{Lengths, Orders, Paths, Kinds, Rows}
use Rattle.limits.specs.Tests.{lengths_refused, orders_refused, paths_refused, kinds_refused}
use Rattle.refusal_rules.specs.Code.{Answer}
use Rattle.fixed.specs.Iter.{either}
use Rattle.std.specs.Prelude.{Err, IsErr}
use Rattle.plain_answers.specs.Stateless.{stateless}

-- no words in any row
abbrev pub no_sizes : Sizes
no_sizes =
    record {
      samples = 0;
      pred_coef = 0;
      ltp_coef = 0;
      ar = 0;
      harm_gain = 0;
      tilt = 0;
      lf = 0;
      pulses = 0;
    }

or-true : (a : Bool) → (a || true) ≡ true
or-true true = refl
or-true false = refl

-- the row of 32 coefficients is another
rows_none : (l n : ℤ) (gains lags : ℕ) → rows_refused l n no_sizes gains lags ≡ true
unfolding rows_refused
rows_none l n gains lags = rw (or-true (another 0 (nat_z n * nat_z l)))

pub stateless-is : (s : Settings) (lagPrev gain : ℤ) (gains lags : List ℤ) → answer_of s no_sizes lagPrev gain gains lags ≡ stateless s
unfolding answer_of table stateless
stateless-is s lagPrev gain gains lags = rw (rows_none s.subfr_length s.nb_subfr _ _)

-- and it is refused
refused : (a b c d : Bool) → IsErr (either {A = Answer} a (Err Lengths) (either b (Err Orders) (either c (Err Paths) (either d (Err Kinds) (Err Rows)))))
refused true b c d = refl
refused false true c d = refl
refused false false true d = refl
refused false false false true = refl
refused false false false false = refl

pub stateless-err : (s : Settings) → IsErr (stateless s)
unfolding stateless
stateless-err s =
    refused (lengths_refused s.subfr_length s.nb_subfr) (orders_refused s.subfr_length s.predictLPCOrder s.shapingLPCOrder)
    (paths_refused s.nStatesDelayedDecision)
    (kinds_refused s.signalType s.quantOffsetType s.NLSFInterpCoef_Q2 s.Seed)
