-- First frames computed, whole, on the definition, from a fresh state as it is and as it was before request E3: silence is what it was, and in two
-- frames that are not voiced and have harmonic gains the change is heard, in the second as early as it can be. Assumes nothing.
use mathlib.Core.Path.{◌≡◌, refl}
use mathlib.Core.Bool.{true, false}
use lib.ListN.{take}
use lib.IntN.{pos}
use Rattle.fixed.specs.Row.{word}
use lib.Count.{count_leading_zeros}
use Rattle.limits.specs.Count.{same_z}
use Rattle.fixed.specs.Shift.{shr, shl32, shr32, rround, or32, clz32}
use Rattle.fixed.specs.Wrap.{wrap_to, wrap32, wrap16, wrap8}
use Rattle.fixed.specs.Range.{clamp, sat16, min_z, abs32}
use Rattle.products.specs.Product.{smulbb, smlabb, smulwb, smlawb, smulwt, smlawt, smulww, smlaww, smmul}
use Rattle.seeds.specs.Generator.{rand}
use Rattle.word_steps.specs.Inlines.{headrm, nrm, b32_inv, lshift_SAT32, shifted, err_Q32, refined, silk_INVERSE32_varQ, result_1, rest, result_2, silk_DIV32_varQ}
use Rattle.word_steps.specs.Gains.{at_least_one, inv_gain_Q31, inv_gain_Q26, x_sc_Q10, ltp_scaled_inv_gain, gain_adj_Q16}
use Rattle.word_steps.specs.Filter.{prediction, filtered, analysis}
use Rattle.silk.specs.State.{zeros, fresh_lag, fresh_state}
use Rattle.shaping.specs.Taps.{short_prediction, long_prediction}
use Rattle.warped.specs.WarpedFilter.{warped_filter}
use Rattle.noise.specs.NoiseTerms.{ar_term, lf_term}
use Rattle.word_steps.specs.Harmonic.{packed_gain, shaped_lag, ltp_term}
use Rattle.noise.specs.Residual.{predicted, residual}
use Rattle.noise.specs.Output.{pulse_of, xq_out}
use Rattle.residuals.specs.Offset.{offset_of}
use Rattle.residuals.specs.Residual.{turned, signed_residual, signed_excitation, pulse_of as pulse_of-choice, seed_with}
use Rattle.choice.specs.RustChoice.{with_noise, ordered, costed, choice}
use Rattle.levels.specs.Levels.{biased, q1_Q0, above, at_zero, at_minus_one, below, tried}
use Rattle.path.specs.Path.{moved, candidate_of, terms_of, residual_of, pair_from, pair_of, pair}
use Rattle.path.specs.Taken.{raised, taken_own, taken_rings, taken}
use Rattle.path.specs.Scaled.{scaled_words, scaled_own, scaled_path}
use Rattle.steps.specs.Among.{swap_of, keeps_first, copied, replaced, moved_over}
use Rattle.penalty.specs.Penalty.{same_word, raised_unless, penalised}
use Rattle.winner.specs.Winner.{least_of, worst_of}
use Rattle.steps.specs.Each.{moves, pairs as pairs-samples, taken_all}
use Rattle.steps.specs.Settled.{leaving, replacing, settled}
use Rattle.steps.specs.Sample.{tried as tried-samples, sample}
use Rattle.steps.specs.Subframe.{backed, backs, move_back, subframe}
use Rattle.steps.specs.Turn.{took_from, took, put_at, put, turn}
use Rattle.steps.specs.Leaving.{leaves}
use Rattle.steps.specs.Shared.{predicted as predicted-paths, harmonic, common}
use Rattle.places.specs.Places.{down}
use Rattle.steps.specs.Scale.{filled, scaled_paths, scaled_work, scaled}
use Rattle.limits.specs.Tests.{outside, length_allowed, count_allowed, order_for, odd_z, lengths_refused, orders_refused, paths_refused, kinds_refused, gain_refused, some_gain, gains_refused, lag_refused, quiet_lag_refused, some_lag, last_of, lags_refused}
use Rattle.refusal_rules.specs.Table.{each_refused, rows_refused, table, answer_of}
use Rattle.steps.specs.Call.{delay_of, voiced_by, interpolated_by, lowered, voiced_delay, quiet_delay, delay_by, given_by, lag_by, twice_by, second_by, rewhites_by, since_by, row_by, fix_by, halves_by, rows_by, white_by}
use Rattle.steps.specs.Begin.{zero_path, zero_lpcs, zero_rings, own_from, start_lpc, start_rings, begun}
use Rattle.steps.specs.Flush.{best_of, fit_middle, fit_last, flush_at, flushed, raised_path, other_path, others_raised}
use Rattle.steps.specs.Frame.{start_paths, start, flushed_run, middle_by, rewhitened, refilled, whitened, regained, flushed_first, whitened_first, before, coded, step, prior_by, turn_by, run, left_by, ended_by, frame}
use Rattle.word_steps.specs.Tail.{moved_down, words_from}
use Rattle.steps.specs.Entry.{answered, outcome_by, outcome}
use Rattle.steps.specs.Sizes.{sizes_of}
use Rattle.settings_row.specs.Named.{settings_of}
use Rattle.refusal_rules.specs.Code.{code_of}
use Rattle.sheet_form.specs.Sheets.{default_paths, paths_of as sheet_paths, with_default}
use Rattle.sheet_page.specs.Calls.{sheet_call, defaulted, frame_length, pulses_for, sheet_outcome}
use Rattle.neighbours.specs.Neighbours.{same_row}
use Rattle.fresh_lag.specs.Lags.{from, lagged, old_lag, first, first_before}
use Rattle.fresh_lag.specs.Frames.{outcome_before, silence, quiet_settings, quiet_call, one_path, one_path_samples, four_paths, four_paths_samples, pulses_of}

-- all by one statement:
pub computed-frames :
    -- silence, by the Rust's rule, from a fresh state as it is and as it was: accepted, seed 0, 80 pulses of 0
    (code_of (sheet_outcome keeps_first silence).answer ≡ 0)
    × ((sheet_outcome keeps_first silence).seed ≡ pos 0)
    × ((sheet_outcome keeps_first silence).pulses ≡ zeros 80)
    × (code_of (outcome_before keeps_first silence).answer ≡ 0)
    × ((outcome_before keeps_first silence).seed ≡ pos 0)
    × ((outcome_before keeps_first silence).pulses ≡ zeros 80)
    -- one path: the first 99 pulses are the same, pulse 99 isn't
    × (same_row (take 99 (pulses_of (first one_path) one_path_samples)) (take 99 (pulses_of (first_before one_path) one_path_samples)) ≡ true)
    × (same_z (word (pulses_of (first one_path) one_path_samples) 99) (word (pulses_of (first_before one_path) one_path_samples) 99) ≡ false)
    -- four paths, so that what comes D samples after a pulse can still decide it: pulse 59 = 99 - D isn't the same
    × (delay_of (first four_paths) ≡ 40)
    × (same_z (word (pulses_of (first four_paths) four_paths_samples) 59) (word (pulses_of (first_before four_paths) four_paths_samples) 59) ≡ false)
    -- both frames are accepted
    × (code_of (answered (first one_path) one_path_samples (zeros 160)) ≡ 0)
    × (code_of (answered (first four_paths) four_paths_samples (zeros 160)) ≡ 0)
unfolding same_row silence outcome_before sheet_outcome pulses_for frame_length defaulted sheet_call with_default sheet_paths default_paths settings_of from lagged old_lag first first_before quiet_settings quiet_call count_leading_zeros shr shl32 shr32 rround or32 clz32 wrap_to wrap32 wrap16 wrap8 clamp sat16 min_z abs32 smulbb smlabb smulwb smlawb smulwt smlawt smulww smlaww smmul rand headrm nrm b32_inv lshift_SAT32 shifted err_Q32 refined silk_INVERSE32_varQ result_1 rest result_2 silk_DIV32_varQ at_least_one inv_gain_Q31 inv_gain_Q26 x_sc_Q10 ltp_scaled_inv_gain gain_adj_Q16 prediction filtered analysis zeros fresh_lag fresh_state short_prediction long_prediction warped_filter ar_term lf_term packed_gain shaped_lag ltp_term predicted residual pulse_of xq_out offset_of turned signed_residual signed_excitation pulse_of-choice seed_with biased q1_Q0 above at_zero at_minus_one below tried with_noise ordered costed choice moved candidate_of terms_of residual_of pair_from pair_of pair raised taken_own taken_rings taken scaled_words scaled_own scaled_path least_of worst_of same_word raised_unless penalised swap_of keeps_first copied replaced moved_over moves pairs-samples taken_all leaving replacing settled tried-samples sample down predicted-paths harmonic common took_from took leaves put_at put turn backed backs move_back subframe filled scaled_paths scaled_work scaled outside length_allowed count_allowed order_for odd_z lengths_refused orders_refused paths_refused kinds_refused each_refused rows_refused gain_refused some_gain gains_refused lag_refused quiet_lag_refused some_lag last_of lags_refused table answer_of voiced_by interpolated_by lowered voiced_delay quiet_delay delay_by given_by lag_by twice_by second_by rewhites_by since_by row_by fix_by halves_by rows_by white_by zero_path zero_lpcs zero_rings own_from start_lpc start_rings begun best_of fit_middle fit_last flush_at flushed raised_path other_path others_raised start_paths start flushed_run middle_by rewhitened refilled whitened regained flushed_first whitened_first before coded step prior_by turn_by run moved_down words_from left_by ended_by frame sizes_of answered outcome_by outcome one_path one_path_samples four_paths four_paths_samples
computed-frames = (refl, refl, refl, refl, refl, refl, refl, refl, refl, refl, refl, refl)
