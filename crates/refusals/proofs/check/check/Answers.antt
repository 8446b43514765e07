-- `refusals::check::check` meets its contract. Assumes nothing.
use mathlib.Core.Path.{◌≡◌, sym, ◌∙◌}
use lib.ListN.{length}
use Rattle.fixed.proofs.Fit.{read}
use Rattle.silk.proofs.Told.{settings}
use Rattle.limits.specs.Tests.{lengths_refused, orders_refused, paths_refused, kinds_refused, gains_refused, lags_refused}
use Rattle.refusal_rules.specs.Table.{answer_of, table, rows_refused}
use Rattle.refusals.proofs.check.check.Goals as goal

pub returns-then-lengths_refused : goal.returns-then-lengths_refused
unfolding answer_of table
returns-then-lengths_refused c =
    let a = c.args in
    let found_1 : c.lengths_refused.result ≡ lengths_refused a.s.subfr_length a.s.nb_subfr = let b = settings a.s c.struct_told-2-1.given in rw (b.subfr_length, b.nb_subfr) at c.lengths_refused.ensures in
    rw (sym found_1 ∙ c.if-lengths_refused.true)

pub returns-then-orders_refused : goal.returns-then-orders_refused
unfolding answer_of table
returns-then-orders_refused c =
    let a = c.args in
    let found_1 : c.lengths_refused.result ≡ lengths_refused a.s.subfr_length a.s.nb_subfr = let b = settings a.s c.struct_told-2-1.given in rw (b.subfr_length, b.nb_subfr) at c.lengths_refused.ensures in
    let found_2 : c.orders_refused.result ≡ orders_refused a.s.subfr_length a.s.predictLPCOrder a.s.shapingLPCOrder = let b = settings a.s c.struct_told-5-1.given in rw (b.subfr_length, b.predictLPCOrder, b.shapingLPCOrder) at c.orders_refused.ensures in
    rw (sym found_1 ∙ c.if-lengths_refused.false, sym found_2 ∙ c.if-orders_refused.true)

pub returns-then-paths_refused : goal.returns-then-paths_refused
unfolding answer_of table
returns-then-paths_refused c =
    let a = c.args in
    let found_1 : c.lengths_refused.result ≡ lengths_refused a.s.subfr_length a.s.nb_subfr = let b = settings a.s c.struct_told-2-1.given in rw (b.subfr_length, b.nb_subfr) at c.lengths_refused.ensures in
    let found_2 : c.orders_refused.result ≡ orders_refused a.s.subfr_length a.s.predictLPCOrder a.s.shapingLPCOrder = let b = settings a.s c.struct_told-5-1.given in rw (b.subfr_length, b.predictLPCOrder, b.shapingLPCOrder) at c.orders_refused.ensures in
    let found_3 : c.paths_refused.result ≡ paths_refused a.s.nStatesDelayedDecision = let b = settings a.s c.struct_told-6-1.given in rw b.nStatesDelayedDecision at c.paths_refused.ensures in
    rw (sym found_1 ∙ c.if-lengths_refused.false, sym found_2 ∙ c.if-orders_refused.false, sym found_3 ∙ c.if-paths_refused.true)

pub returns-then-kinds_refused : goal.returns-then-kinds_refused
unfolding answer_of table
returns-then-kinds_refused c =
    let a = c.args in
    let found_1 : c.lengths_refused.result ≡ lengths_refused a.s.subfr_length a.s.nb_subfr = let b = settings a.s c.struct_told-2-1.given in rw (b.subfr_length, b.nb_subfr) at c.lengths_refused.ensures in
    let found_2 : c.orders_refused.result ≡ orders_refused a.s.subfr_length a.s.predictLPCOrder a.s.shapingLPCOrder = let b = settings a.s c.struct_told-5-1.given in rw (b.subfr_length, b.predictLPCOrder, b.shapingLPCOrder) at c.orders_refused.ensures in
    let found_3 : c.paths_refused.result ≡ paths_refused a.s.nStatesDelayedDecision = let b = settings a.s c.struct_told-6-1.given in rw b.nStatesDelayedDecision at c.paths_refused.ensures in
    let found_4 : c.kinds_refused.result ≡ kinds_refused a.s.signalType a.s.quantOffsetType a.s.NLSFInterpCoef_Q2 a.s.Seed = let b = settings a.s c.struct_told-10-1.given in rw (b.signalType, b.quantOffsetType, b.NLSFInterpCoef_Q2, b.Seed) at c.kinds_refused.ensures in
    rw (sym found_1 ∙ c.if-lengths_refused.false, sym found_2 ∙ c.if-orders_refused.false, sym found_3 ∙ c.if-paths_refused.false, sym found_4 ∙ c.if-kinds_refused.true)

pub returns-then-rows_refused : goal.returns-then-rows_refused
unfolding answer_of table
returns-then-rows_refused c =
    let a = c.args in
    let found_1 : c.lengths_refused.result ≡ lengths_refused a.s.subfr_length a.s.nb_subfr = let b = settings a.s c.struct_told-2-1.given in rw (b.subfr_length, b.nb_subfr) at c.lengths_refused.ensures in
    let found_2 : c.orders_refused.result ≡ orders_refused a.s.subfr_length a.s.predictLPCOrder a.s.shapingLPCOrder = let b = settings a.s c.struct_told-5-1.given in rw (b.subfr_length, b.predictLPCOrder, b.shapingLPCOrder) at c.orders_refused.ensures in
    let found_3 : c.paths_refused.result ≡ paths_refused a.s.nStatesDelayedDecision = let b = settings a.s c.struct_told-6-1.given in rw b.nStatesDelayedDecision at c.paths_refused.ensures in
    let found_4 : c.kinds_refused.result ≡ kinds_refused a.s.signalType a.s.quantOffsetType a.s.NLSFInterpCoef_Q2 a.s.Seed = let b = settings a.s c.struct_told-10-1.given in rw (b.signalType, b.quantOffsetType, b.NLSFInterpCoef_Q2, b.Seed) at c.kinds_refused.ensures in
    let found_5 : c.rows_refused.result ≡ rows_refused a.s.subfr_length a.s.nb_subfr a.z (length a.gains.now) (length a.lags.now) = let b = settings a.s c.struct_told-12-1.given in rw (b.subfr_length, b.nb_subfr) at c.rows_refused.ensures in
    rw (sym found_1 ∙ c.if-lengths_refused.false, sym found_2 ∙ c.if-orders_refused.false, sym found_3 ∙ c.if-paths_refused.false, sym found_4 ∙ c.if-kinds_refused.false, sym found_5 ∙ c.if-rows_refused.true)

pub returns-then-gains_refused : goal.returns-then-gains_refused
unfolding answer_of table
returns-then-gains_refused c =
    let a = c.args in
    let found_1 : c.lengths_refused.result ≡ lengths_refused a.s.subfr_length a.s.nb_subfr = let b = settings a.s c.struct_told-2-1.given in rw (b.subfr_length, b.nb_subfr) at c.lengths_refused.ensures in
    let found_2 : c.orders_refused.result ≡ orders_refused a.s.subfr_length a.s.predictLPCOrder a.s.shapingLPCOrder = let b = settings a.s c.struct_told-5-1.given in rw (b.subfr_length, b.predictLPCOrder, b.shapingLPCOrder) at c.orders_refused.ensures in
    let found_3 : c.paths_refused.result ≡ paths_refused a.s.nStatesDelayedDecision = let b = settings a.s c.struct_told-6-1.given in rw b.nStatesDelayedDecision at c.paths_refused.ensures in
    let found_4 : c.kinds_refused.result ≡ kinds_refused a.s.signalType a.s.quantOffsetType a.s.NLSFInterpCoef_Q2 a.s.Seed = let b = settings a.s c.struct_told-10-1.given in rw (b.signalType, b.quantOffsetType, b.NLSFInterpCoef_Q2, b.Seed) at c.kinds_refused.ensures in
    let found_5 : c.rows_refused.result ≡ rows_refused a.s.subfr_length a.s.nb_subfr a.z (length a.gains.now) (length a.lags.now) = let b = settings a.s c.struct_told-12-1.given in rw (b.subfr_length, b.nb_subfr) at c.rows_refused.ensures in
    let found_6 : c.gains_refused.result ≡ gains_refused a.prev_gain_Q16 a.gains.now = rw (read c.ranges.prev_gain_Q16) at c.gains_refused.ensures in
    rw (sym found_1 ∙ c.if-lengths_refused.false, sym found_2 ∙ c.if-orders_refused.false, sym found_3 ∙ c.if-paths_refused.false, sym found_4 ∙ c.if-kinds_refused.false, sym found_5 ∙ c.if-rows_refused.false, sym found_6 ∙ c.if-gains_refused.true)

pub returns-then-lags_refused : goal.returns-then-lags_refused
unfolding answer_of table
returns-then-lags_refused c =
    let a = c.args in
    let found_1 : c.lengths_refused.result ≡ lengths_refused a.s.subfr_length a.s.nb_subfr = let b = settings a.s c.struct_told-2-1.given in rw (b.subfr_length, b.nb_subfr) at c.lengths_refused.ensures in
    let found_2 : c.orders_refused.result ≡ orders_refused a.s.subfr_length a.s.predictLPCOrder a.s.shapingLPCOrder = let b = settings a.s c.struct_told-5-1.given in rw (b.subfr_length, b.predictLPCOrder, b.shapingLPCOrder) at c.orders_refused.ensures in
    let found_3 : c.paths_refused.result ≡ paths_refused a.s.nStatesDelayedDecision = let b = settings a.s c.struct_told-6-1.given in rw b.nStatesDelayedDecision at c.paths_refused.ensures in
    let found_4 : c.kinds_refused.result ≡ kinds_refused a.s.signalType a.s.quantOffsetType a.s.NLSFInterpCoef_Q2 a.s.Seed = let b = settings a.s c.struct_told-10-1.given in rw (b.signalType, b.quantOffsetType, b.NLSFInterpCoef_Q2, b.Seed) at c.kinds_refused.ensures in
    let found_5 : c.rows_refused.result ≡ rows_refused a.s.subfr_length a.s.nb_subfr a.z (length a.gains.now) (length a.lags.now) = let b = settings a.s c.struct_told-12-1.given in rw (b.subfr_length, b.nb_subfr) at c.rows_refused.ensures in
    let not_by_gains : c.gains_refused.result ≡ gains_refused a.prev_gain_Q16 a.gains.now = rw (read c.ranges.prev_gain_Q16) at c.gains_refused.ensures in
    let found_7 : c.lags_refused.result ≡ lags_refused a.s.subfr_length a.s.signalType a.lagPrev a.lags.now = let b = settings a.s c.struct_told-14-1.given in rw (b.subfr_length, b.signalType, read c.ranges.lagPrev) at c.lags_refused.ensures in
    rw (sym found_1 ∙ c.if-lengths_refused.false, sym found_2 ∙ c.if-orders_refused.false, sym found_3 ∙ c.if-paths_refused.false, sym found_4 ∙ c.if-kinds_refused.false, sym found_5 ∙ c.if-rows_refused.false, sym not_by_gains ∙ c.if-gains_refused.false, sym found_7 ∙ c.if-lags_refused.true)

pub returns : goal.returns
unfolding answer_of table
returns c =
    let a = c.args in
    let found_1 : c.lengths_refused.result ≡ lengths_refused a.s.subfr_length a.s.nb_subfr = let b = settings a.s c.struct_told-2-1.given in rw (b.subfr_length, b.nb_subfr) at c.lengths_refused.ensures in
    let found_2 : c.orders_refused.result ≡ orders_refused a.s.subfr_length a.s.predictLPCOrder a.s.shapingLPCOrder = let b = settings a.s c.struct_told-5-1.given in rw (b.subfr_length, b.predictLPCOrder, b.shapingLPCOrder) at c.orders_refused.ensures in
    let found_3 : c.paths_refused.result ≡ paths_refused a.s.nStatesDelayedDecision = let b = settings a.s c.struct_told-6-1.given in rw b.nStatesDelayedDecision at c.paths_refused.ensures in
    let found_4 : c.kinds_refused.result ≡ kinds_refused a.s.signalType a.s.quantOffsetType a.s.NLSFInterpCoef_Q2 a.s.Seed = let b = settings a.s c.struct_told-10-1.given in rw (b.signalType, b.quantOffsetType, b.NLSFInterpCoef_Q2, b.Seed) at c.kinds_refused.ensures in
    let found_5 : c.rows_refused.result ≡ rows_refused a.s.subfr_length a.s.nb_subfr a.z (length a.gains.now) (length a.lags.now) = let b = settings a.s c.struct_told-12-1.given in rw (b.subfr_length, b.nb_subfr) at c.rows_refused.ensures in
    let found_6 : c.gains_refused.result ≡ gains_refused a.prev_gain_Q16 a.gains.now = rw (read c.ranges.prev_gain_Q16) at c.gains_refused.ensures in
    let found_7 : c.lags_refused.result ≡ lags_refused a.s.subfr_length a.s.signalType a.lagPrev a.lags.now = let b = settings a.s c.struct_told-14-1.given in rw (b.subfr_length, b.signalType, read c.ranges.lagPrev) at c.lags_refused.ensures in
    rw (sym found_1 ∙ c.if-lengths_refused.false, sym found_2 ∙ c.if-orders_refused.false, sym found_3 ∙ c.if-paths_refused.false, sym found_4 ∙ c.if-kinds_refused.false, sym found_5 ∙ c.if-rows_refused.false, sym found_6 ∙ c.if-gains_refused.false, sym found_7 ∙ c.if-lags_refused.false)
