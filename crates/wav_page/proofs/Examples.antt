-- The definition computed on small files. Assumes nothing.
use mathlib.Core.Path.{◌≡◌, refl}
use mathlib.Core.List.{[], ◌∷◌}
use lib.IntN.{pos, negsuc}
use Rattle.fixed.specs.Wrap.{wrap_to, wrap16}
use Rattle.pages.specs.Decimal.{digits_up_to, digits, decimal}
use Rattle.sheet_text.specs.Text.{line_of, after_pulse, pulse_lines}
use Rattle.wav_file.specs.Bytes.{word16, word32, named}
use Rattle.wav_file.specs.Riff.{size_at, is_format, is_data, whole, after, is_last, chunks_from}
use Rattle.wav_file.specs.Find.{past_at, format_at, data_at, rate_allowed, other_sound, too_long, not_wave, runs_past, no_format, other_format, no_data, odd_data, table, answer_of, accepted, found, part}
use Rattle.wav_file.specs.Fill.{sample_of}
use Rattle.wav_file.specs.Plain.{wav_of}
use Rattle.wav_page.specs.Text.{sound_text, found_text, note_of, wav_text}

-- a plain file of three samples: `rate 16000`, `samples 3`, `7 -1 -32768`
pub three-samples : wav_text (wav_of 16000 (pos 7 ∷ negsuc 0 ∷ negsuc 32767 ∷ []))
    ≡ 114 ∷ 97 ∷ 116 ∷ 101 ∷ 32 ∷ 49 ∷ 54 ∷ 48 ∷ 48 ∷ 48 ∷ 10 ∷ 115 ∷ 97 ∷ 109 ∷ 112 ∷ 108 ∷ 101 ∷ 115 ∷ 32 ∷ 51 ∷ 10 ∷ 55 ∷ 32 ∷ 45 ∷ 49 ∷ 32 ∷ 45 ∷ 51 ∷ 50 ∷ 55 ∷ 54 ∷ 56 ∷ 10 ∷ []
unfolding wav_text found_text sound_text note_of line_of after_pulse pulse_lines decimal digits digits_up_to sample_of wrap16 wrap_to wav_of word16 word32 named size_at is_format is_data whole after is_last chunks_from past_at format_at data_at rate_allowed other_sound too_long not_wave runs_past no_format other_format no_data odd_data table answer_of accepted found part
three-samples = refl

-- one of no samples: `rate 8000`, `samples 0`
pub no-samples : wav_text (wav_of 8000 []) ≡ 114 ∷ 97 ∷ 116 ∷ 101 ∷ 32 ∷ 56 ∷ 48 ∷ 48 ∷ 48 ∷ 10 ∷ 115 ∷ 97 ∷ 109 ∷ 112 ∷ 108 ∷ 101 ∷ 115 ∷ 32 ∷ 48 ∷ 10 ∷ []
unfolding wav_text found_text sound_text note_of line_of after_pulse pulse_lines decimal digits digits_up_to sample_of wrap16 wrap_to wav_of word16 word32 named size_at is_format is_data whole after is_last chunks_from past_at format_at data_at rate_allowed other_sound too_long not_wave runs_past no_format other_format no_data odd_data table answer_of accepted found part
no-samples = refl

-- nothing at all, which is no WAV file: `wav 2`; a plain file with a rate that isn't allowed: `wav 5`
pub refusals : (wav_text [] ≡ 119 ∷ 97 ∷ 118 ∷ 32 ∷ 50 ∷ 10 ∷ []) × (wav_text (wav_of 44100 []) ≡ 119 ∷ 97 ∷ 118 ∷ 32 ∷ 53 ∷ 10 ∷ [])
unfolding wav_text found_text sound_text note_of line_of after_pulse pulse_lines decimal digits digits_up_to sample_of wrap16 wrap_to wav_of word16 word32 named size_at is_format is_data whole after is_last chunks_from past_at format_at data_at rate_allowed other_sound too_long not_wave runs_past no_format other_format no_data odd_data table answer_of accepted found part
refusals = (refl, refl)
