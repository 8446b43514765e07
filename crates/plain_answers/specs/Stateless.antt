-- The answer to a call whose state is in rows of another length. Assumes nothing.
use Rattle.std.specs.Prelude.{Err}
use Rattle.fixed.specs.Iter.{either}
use Rattle.silk.specs.declared.structs.Settings.{Settings}
use Rattle.refusal_rules.specs.declared.answer.Refusal.TheVariants.{Lengths, Orders, Paths, Kinds, Rows}
use Rattle.limits.specs.Tests.{lengths_refused, orders_refused, paths_refused, kinds_refused}
use Rattle.refusal_rules.specs.Code.{Answer}

-- a state's row has another length: the lowest of numbers 1 to 4 that the settings give, else 5
unfoldable pub stateless : Settings → Answer
stateless s =
    either (lengths_refused s.subfr_length s.nb_subfr) (Err Lengths)
    (either (orders_refused s.subfr_length s.predictLPCOrder s.shapingLPCOrder) (Err Orders)
    (either (paths_refused s.nStatesDelayedDecision) (Err Paths)
    (either (kinds_refused s.signalType s.quantOffsetType s.NLSFInterpCoef_Q2 s.Seed) (Err Kinds) (Err Rows))))
