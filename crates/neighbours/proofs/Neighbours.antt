-- What stands next to each thing that doesn't count does count: the calls of specs/Neighbours.antt that differ in one word have different outcomes. By computing
-- each call, whole, on the definition. Assumes nothing.
use mathlib.Core.Path.{◌≡◌, refl}
use mathlib.Core.Bool.{true, false}
use lib.ListN.{set}
use lib.IntN.{pos, negsuc}
use lib.Count.{count_leading_zeros}
use Rattle.limits.specs.Count.{same_z}
use Rattle.fixed.specs.Shift.{shr, shl32, shr32, rround, or32, clz32}
use Rattle.fixed.specs.Wrap.{wrap_to, wrap32, wrap16, wrap8}
use Rattle.fixed.specs.Range.{clamp, sat16, min_z, abs32}
use Rattle.products.specs.Product.{smulbb, smlabb, smulwb, smlawb, smulwt, smlawt, smulww, smlaww, smmul}
use Rattle.seeds.specs.Generator.{rand}
use Rattle.word_steps.specs.Inlines.{headrm, nrm, b32_inv, lshift_SAT32, shifted, err_Q32, refined, silk_INVERSE32_varQ, result_1, rest, result_2, silk_DIV32_varQ}
use Rattle.word_steps.specs.Gains.{at_least_one, inv_gain_Q31, inv_gain_Q26, x_sc_Q10, ltp_scaled_inv_gain, gain_adj_Q16}
use Rattle.word_steps.specs.Filter.{prediction, filtered, analysis}
use Rattle.silk.specs.State.{zeros, fresh_lag, fresh_state}
use Rattle.shaping.specs.Taps.{short_prediction, long_prediction}
use Rattle.warped.specs.WarpedFilter.{warped_filter}
use Rattle.noise.specs.NoiseTerms.{ar_term, lf_term}
use Rattle.word_steps.specs.Harmonic.{packed_gain, shaped_lag, ltp_term}
use Rattle.noise.specs.Residual.{predicted, residual}
use Rattle.noise.specs.Output.{pulse_of, xq_out}
use Rattle.residuals.specs.Offset.{offset_of}
use Rattle.residuals.specs.Residual.{turned, signed_residual, signed_excitation, pulse_of as pulse_of-choice, seed_with}
use Rattle.choice.specs.RustChoice.{with_noise, ordered, costed, choice}
use Rattle.levels.specs.Levels.{biased, q1_Q0, above, at_zero, at_minus_one, below, tried}
use Rattle.path.specs.Path.{moved, candidate_of, terms_of, residual_of, pair_from, pair_of, pair}
use Rattle.path.specs.Taken.{raised, taken_own, taken_rings, taken}
use Rattle.path.specs.Scaled.{scaled_words, scaled_own, scaled_path}
use Rattle.steps.specs.Among.{swap_of, keeps_first, copied, replaced, moved_over}
use Rattle.penalty.specs.Penalty.{same_word, raised_unless, penalised}
use Rattle.winner.specs.Winner.{least_of, worst_of}
use Rattle.steps.specs.Each.{moves, pairs as pairs-samples, taken_all}
use Rattle.steps.specs.Settled.{leaving, replacing, settled}
use Rattle.steps.specs.Sample.{tried as tried-samples, sample}
use Rattle.steps.specs.Subframe.{backed, backs, move_back, subframe}
use Rattle.steps.specs.Turn.{took_from, took, put_at, put, turn}
use Rattle.steps.specs.Leaving.{leaves}
use Rattle.steps.specs.Shared.{predicted as predicted-paths, harmonic, common}
use Rattle.places.specs.Places.{down}
use Rattle.steps.specs.Scale.{filled, scaled_paths, scaled_work, scaled}
use Rattle.limits.specs.Tests.{outside, length_allowed, count_allowed, order_for, odd_z, lengths_refused, orders_refused, paths_refused, kinds_refused, gain_refused, some_gain, gains_refused, lag_refused, quiet_lag_refused, some_lag, last_of, lags_refused}
use Rattle.refusal_rules.specs.Table.{each_refused, rows_refused, table, answer_of}
use Rattle.steps.specs.Call.{delay_of, voiced_by, interpolated_by, lowered, voiced_delay, quiet_delay, delay_by, given_by, lag_by, twice_by, second_by, rewhites_by, since_by, row_by, fix_by, halves_by, rows_by, white_by}
use Rattle.steps.specs.Begin.{zero_path, zero_lpcs, zero_rings, own_from, start_lpc, start_rings, begun}
use Rattle.steps.specs.Flush.{best_of, fit_middle, fit_last, flush_at, flushed, raised_path, other_path, others_raised}
use Rattle.steps.specs.Frame.{start_paths, start, flushed_run, middle_by, rewhitened, refilled, whitened, regained, flushed_first, whitened_first, before, coded, step, prior_by, turn_by, run, left_by, ended_by, frame}
use Rattle.word_steps.specs.Tail.{moved_down, words_from}
use Rattle.steps.specs.Entry.{answered, outcome_by, outcome}
use Rattle.steps.specs.Sizes.{sizes_of}
use Rattle.full_copy.specs.Copy.{later}
use Rattle.neighbours.specs.Neighbours.{same_row, given, others, differ, settings_for, settings_of, settings, state_of, state, history, shapes, lpcs, filter, after, preds, ltps, ars, each, call, quiet, one, voiced, with_pred, with_ltp, with_ar, with_harm, with_tilt, with_lags, shaped, by_quiet, by_shaped, by_one, by_voiced, last_lag, last_history, last_filter, four, tight, tight_samples, by_late, oldest, by_rule}

-- all by one statement:
pub neighbours-matter :
    -- the pulses: not voiced, the same with other AR coefficients, with interpolation 4, voiced
    (differ quiet by_quiet ≡ true)
    × (differ (shaped quiet) by_shaped ≡ true)
    × (differ one by_one ≡ true)
    × (differ voiced by_voiced ≡ true)
    -- row 1 of PredCoef, its last slot below the order, in a frame of four subframes
    × (same_row (four preds) (four (set preds 25 (pos 4000))) ≡ false)
    -- a word of the state that is handed out: lagPrev, a history word, a filter word
    × (same_z (last_lag (pos 16)) (last_lag (pos 17)) ≡ false)
    × (same_z (last_history (pos 9)) (last_history (pos 10)) ≡ false)
    × (same_z (last_filter (pos 30000)) (last_filter (pos 50000)) ≡ false)
    -- sample 31 does change the pulse at 31 - D: the bound of demand 3's second half can't be moved by one
    × (delay_of tight ≡ 13)
    × (same_z (by_late (negsuc 1)) (by_late (pos 2)) ≡ false)
    -- a replaced path that is copied from word i + 2 on gives other pulses than the Rust's
    × (same_row (by_rule keeps_first) (by_rule (later 2)) ≡ false)
unfolding count_leading_zeros same_row given others differ settings_for settings_of settings state_of state history shapes lpcs filter after preds ltps ars each call quiet one voiced with_pred with_ltp with_ar with_harm with_tilt with_lags shaped by_quiet by_shaped by_one by_voiced last_lag last_history last_filter shr shl32 shr32 rround or32 clz32 wrap_to wrap32 wrap16 wrap8 clamp sat16 min_z abs32 smulbb smlabb smulwb smlawb smulwt smlawt smulww smlaww smmul rand headrm nrm b32_inv lshift_SAT32 shifted err_Q32 refined silk_INVERSE32_varQ result_1 rest result_2 silk_DIV32_varQ at_least_one inv_gain_Q31 inv_gain_Q26 x_sc_Q10 ltp_scaled_inv_gain gain_adj_Q16 prediction filtered analysis zeros fresh_lag fresh_state short_prediction long_prediction warped_filter ar_term lf_term packed_gain shaped_lag ltp_term predicted residual pulse_of xq_out offset_of turned signed_residual signed_excitation pulse_of-choice seed_with biased q1_Q0 above at_zero at_minus_one below tried with_noise ordered costed choice moved candidate_of terms_of residual_of pair_from pair_of pair raised taken_own taken_rings taken scaled_words scaled_own scaled_path least_of worst_of same_word raised_unless penalised swap_of keeps_first copied replaced moved_over moves pairs-samples taken_all leaving replacing settled tried-samples sample down predicted-paths harmonic common took_from took leaves put_at put turn backed backs move_back subframe filled scaled_paths scaled_work scaled outside length_allowed count_allowed order_for odd_z lengths_refused orders_refused paths_refused kinds_refused each_refused rows_refused gain_refused some_gain gains_refused lag_refused quiet_lag_refused some_lag last_of lags_refused table answer_of voiced_by interpolated_by lowered voiced_delay quiet_delay delay_by given_by lag_by twice_by second_by rewhites_by since_by row_by fix_by halves_by rows_by white_by zero_path zero_lpcs zero_rings own_from start_lpc start_rings begun best_of fit_middle fit_last flush_at flushed raised_path other_path others_raised start_paths start flushed_run middle_by rewhitened refilled whitened regained flushed_first whitened_first before coded step prior_by turn_by run moved_down words_from left_by ended_by frame sizes_of answered outcome_by outcome four tight tight_samples by_late later oldest by_rule
neighbours-matter = (refl, refl, refl, refl, refl, refl, refl, refl, refl, refl, refl)

-- so the window of `full_copy` can't be moved by one: its rules copy from word i + 1 on, and one that copies from word i + 2 on is heard
pub two-later-heard : same_row (by_rule keeps_first) (by_rule (later 2)) ≡ false
two-later-heard = neighbours-matter.10
