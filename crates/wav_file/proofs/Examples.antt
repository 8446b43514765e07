-- Files for each answer, by computation: no statement on accepted or refused files is empty. Assumes nothing.
use Prim.Native.Nat.{ℕ, ◌+◌, ◌*◌, ◌<◌, ◌≤◌}
use native.Mathlib.Omega.{arith}
use mathlib.Core.Path.{◌≡◌, refl, ap, ◌∙◌}
use mathlib.Core.Logic.{◌↔◌}
use mathlib.Core.List.{List, [], ◌∷◌}
use lib.ListN.{length, replicate, length-replicate}
use lib.IntN.{ℤ, pos, negsuc}
use borrow.Author.Tests.{ltb-true, lt-ltb}
use Rattle.fixed.specs.Wrap.{wrap_to, wrap16}
use Rattle.wav_file.specs.Bytes.{word16, word32, named}
use Rattle.wav_file.specs.Riff.{size_at, is_format, is_data, whole, after, is_last, chunks_from}
use Rattle.wav_file.specs.Find.{past_at, format_at, data_at, rate_allowed, other_sound, too_long, not_wave, runs_past, no_format, other_format, no_data, odd_data, table, answer_of, accepted, found}
use Rattle.wav_file.specs.Fill.{sample_of, filled, filling, not_twice}
use Rattle.wav_file.specs.Plain.{put16, put32, wav_of}
use Rattle.wav_file.proofs.Exactly.{exactly-refused}
use Rattle.wav_file.proofs.Plain.{read_back}

-- ---- pieces of files
-- `RIFF`, any size, `WAVE`
abbrev riff : List ℕ → List ℕ
riff s = 82 ∷ 73 ∷ 70 ∷ 70 ∷ 1 ∷ 2 ∷ 3 ∷ 255 ∷ 87 ∷ 65 ∷ 86 ∷ 69 ∷ s

-- heads: `fmt `, `data`, `LIST`
abbrev fmt : ℕ → List ℕ → List ℕ
fmt n s = 102 ∷ 109 ∷ 116 ∷ 32 ∷ put32 n s

abbrev dat : ℕ → List ℕ → List ℕ
dat n s = 100 ∷ 97 ∷ 116 ∷ 97 ∷ put32 n s

abbrev other : ℕ → List ℕ → List ℕ
other n s = 76 ∷ 73 ∷ 83 ∷ 84 ∷ put32 n s

-- the 16 bytes of a `fmt `: coding, channels, rate, two fields that aren't looked at, width
abbrev sound : ℕ → ℕ → ℕ → ℕ → List ℕ → List ℕ
sound coding channels rate width s = put16 coding (put16 channels (put32 rate (put32 77 (put16 9 (put16 width s)))))

abbrev good : ℕ → List ℕ → List ℕ
good rate s = fmt 16 (sound 1 1 rate 16 s)

-- a foreign one: two channels
abbrev stereo : List ℕ → List ℕ
stereo s = fmt 16 (sound 1 2 8000 16 s)

-- a short one
abbrev short : List ℕ → List ℕ
short s = fmt 2 (put16 1 s)

-- what is handed back, in a row
abbrev row : List ℕ → List ℕ
row f = (found f).answer ∷ (found f).start ∷ (found f).length ∷ (found f).rate ∷ []

abbrev no : ℕ → List ℕ
no k = k ∷ 0 ∷ 0 ∷ 0 ∷ []

-- accepted: a plain file; `data` empty at the end of the file; an empty first `data` before a second; more in `fmt ` than 16 bytes; an odd chunk
-- with its pad byte; a later `fmt ` that is foreign; chunks of zeros; the other rates; anything behind the `data`
pub accepted-files :
    (row (riff (good 8000 (dat 2 (5 ∷ 6 ∷ []))))
    ∷ row (riff (good 12000 (dat 0 [])))
    ∷ row (riff (good 16000 (dat 0 (dat 2 (5 ∷ 6 ∷ [])))))
    ∷ row (riff (fmt 18 (sound 1 1 8000 16 (0 ∷ 0 ∷ dat 2 (5 ∷ 6 ∷ [])))))
    ∷ row (riff (other 1 (7 ∷ 255 ∷ good 8000 (dat 2 (5 ∷ 6 ∷ [])))))
    ∷ row (riff (good 8000 (stereo (dat 2 (5 ∷ 6 ∷ [])))))
    ∷ row (riff (good 8000 (0 ∷ 0 ∷ 0 ∷ 0 ∷ 0 ∷ 0 ∷ 0 ∷ 0 ∷ dat 2 (5 ∷ 6 ∷ []))))
    ∷ row (riff (good 8000 (dat 2 (5 ∷ 6 ∷ 100 ∷ 97 ∷ 116 ∷ []))))
    ∷ [])
    ≡ ((0 ∷ 44 ∷ 2 ∷ 8000 ∷ [])
    ∷ (0 ∷ 44 ∷ 0 ∷ 12000 ∷ [])
    ∷ (0 ∷ 44 ∷ 0 ∷ 16000 ∷ [])
    ∷ (0 ∷ 46 ∷ 2 ∷ 8000 ∷ [])
    ∷ (0 ∷ 54 ∷ 2 ∷ 8000 ∷ [])
    ∷ (0 ∷ 68 ∷ 2 ∷ 8000 ∷ [])
    ∷ (0 ∷ 52 ∷ 2 ∷ 8000 ∷ [])
    ∷ (0 ∷ 44 ∷ 2 ∷ 8000 ∷ [])
    ∷ [])
unfolding word16 word32 named size_at is_format is_data whole after is_last chunks_from past_at format_at data_at rate_allowed other_sound too_long not_wave runs_past no_format other_format no_data odd_data table answer_of accepted found
accepted-files = refl

-- 2: the empty file, eleven bytes, another beginning (`RIFX`, `RF64`), another form
pub not-wave :
    (row []
    ∷ row (82 ∷ 73 ∷ 70 ∷ 70 ∷ 0 ∷ 0 ∷ 0 ∷ 0 ∷ 87 ∷ 65 ∷ 86 ∷ [])
    ∷ row (82 ∷ 73 ∷ 70 ∷ 88 ∷ 0 ∷ 0 ∷ 0 ∷ 0 ∷ 87 ∷ 65 ∷ 86 ∷ 69 ∷ good 8000 (dat 0 []))
    ∷ row (82 ∷ 70 ∷ 54 ∷ 52 ∷ 0 ∷ 0 ∷ 0 ∷ 0 ∷ 87 ∷ 65 ∷ 86 ∷ 69 ∷ good 8000 (dat 0 []))
    ∷ row (82 ∷ 73 ∷ 70 ∷ 70 ∷ 0 ∷ 0 ∷ 0 ∷ 0 ∷ 65 ∷ 86 ∷ 73 ∷ 32 ∷ good 8000 (dat 0 []))
    ∷ [])
    ≡ (no 2 ∷ no 2 ∷ no 2 ∷ no 2 ∷ no 2 ∷ [])
unfolding word16 word32 named size_at is_format is_data whole after is_last chunks_from past_at format_at data_at rate_allowed other_sound too_long not_wave runs_past no_format other_format no_data odd_data table answer_of accepted found
not-wave = refl

-- 3: one byte and seven bytes where a head should be; a `data` that runs past the end, also without a `fmt `, also with an odd length, also with the
-- length 2^32 - 1; a length that would come round; after a short or a foreign `fmt `; a second `fmt ` that runs past the end; a chunk whose pad byte
-- was forgotten, so that the walk goes on one byte late. A missing last pad byte is no fault: no `data` then, 6
pub runs-past :
    (row (riff (good 8000 (0 ∷ [])))
    ∷ row (riff (good 8000 (0 ∷ 0 ∷ 0 ∷ 0 ∷ 0 ∷ 0 ∷ 0 ∷ [])))
    ∷ row (riff (good 8000 (dat 4 (5 ∷ 6 ∷ []))))
    ∷ row (riff (dat 4 (5 ∷ 6 ∷ [])))
    ∷ row (riff (good 8000 (dat 3 (5 ∷ 6 ∷ []))))
    ∷ row (riff (good 8000 (dat 4294967295 (5 ∷ 6 ∷ []))))
    ∷ row (riff (good 8000 (other 4294967288 (dat 2 (5 ∷ 6 ∷ [])))))
    ∷ row (riff (short (other 1 [])))
    ∷ row (riff (stereo (dat 2 (5 ∷ []))))
    ∷ row (riff (good 8000 (fmt 16 (put16 1 []))))
    ∷ row (riff (other 1 (7 ∷ good 8000 (dat 2 (5 ∷ 6 ∷ [])))))
    ∷ row (riff (good 8000 (other 1 (7 ∷ []))))
    ∷ [])
    ≡ (no 3 ∷ no 3 ∷ no 3 ∷ no 3 ∷ no 3 ∷ no 3 ∷ no 3 ∷ no 3 ∷ no 3 ∷ no 3 ∷ no 3 ∷ no 6 ∷ [])
unfolding word16 word32 named size_at is_format is_data whole after is_last chunks_from past_at format_at data_at rate_allowed other_sound too_long not_wave runs_past no_format other_format no_data odd_data table answer_of accepted found
runs-past = refl

-- 4: no chunk at all; neither `fmt ` nor `data`; a short `fmt ` alone; `data` before `fmt `; a short `fmt ` before a good one; `FMT `; `fmt` and a
-- zero; a good `fmt ` inside another chunk
pub no-format :
    (row (riff [])
    ∷ row (riff (other 0 []))
    ∷ row (riff (short []))
    ∷ row (riff (dat 2 (5 ∷ 6 ∷ good 8000 [])))
    ∷ row (riff (short (good 8000 (dat 0 []))))
    ∷ row (riff (70 ∷ 77 ∷ 84 ∷ 32 ∷ put32 16 (sound 1 1 8000 16 (dat 0 []))))
    ∷ row (riff (102 ∷ 109 ∷ 116 ∷ 0 ∷ put32 16 (sound 1 1 8000 16 (dat 0 []))))
    ∷ row (riff (other 24 (good 8000 (dat 0 []))))
    ∷ [])
    ≡ (no 4 ∷ no 4 ∷ no 4 ∷ no 4 ∷ no 4 ∷ no 4 ∷ no 4 ∷ no 4 ∷ [])
unfolding word16 word32 named size_at is_format is_data whole after is_last chunks_from past_at format_at data_at rate_allowed other_sound too_long not_wave runs_past no_format other_format no_data odd_data table answer_of accepted found
no-format = refl

-- 5: another coding, also the extensible one; two channels, also before a good `fmt `, without a `data`, with an odd one; another width; other rates, also
-- one that would come round. Then a good `fmt ` without a `data`, 6, also with a `DATA`, and with an odd one, 7
pub other-formats :
    (row (riff (fmt 16 (sound 3 1 8000 16 (dat 0 []))))
    ∷ row (riff (fmt 16 (sound 65534 1 8000 16 (dat 0 []))))
    ∷ row (riff (stereo (good 8000 (dat 0 []))))
    ∷ row (riff (stereo []))
    ∷ row (riff (stereo (dat 1 (5 ∷ []))))
    ∷ row (riff (fmt 16 (sound 1 1 8000 8 (dat 0 []))))
    ∷ row (riff (good 11025 (dat 0 [])))
    ∷ row (riff (good (8000 + 65536) (dat 0 [])))
    ∷ row (riff (good 8000 []))
    ∷ row (riff (good 8000 (68 ∷ 65 ∷ 84 ∷ 65 ∷ put32 2 (5 ∷ 6 ∷ []))))
    ∷ row (riff (good 8000 (dat 1 (5 ∷ []))))
    ∷ [])
    ≡ (no 5 ∷ no 5 ∷ no 5 ∷ no 5 ∷ no 5 ∷ no 5 ∷ no 5 ∷ no 5 ∷ no 6 ∷ no 6 ∷ no 7 ∷ [])
unfolding word16 word32 named size_at is_format is_data whole after is_last chunks_from past_at format_at data_at rate_allowed other_sound too_long not_wave runs_past no_format other_format no_data odd_data table answer_of accepted found
other-formats = refl

-- ---- the length of the file
-- 1 is given exactly to the files of more than 65,536 bytes
pub too-long : (f : List ℕ) → (answer_of f ≡ 1) ↔ (65536 < length f)
unfolding table too_long
too-long f = (
  (λ e. ltb-true 65536 (length f) ((exactly-refused f 1 (omega arith) (omega arith)).0 e).0),
  (λ h. (exactly-refused f 1 (omega arith) (omega arith)).1 (lt-ltb 65536 (length f) h, (λ j l u. absurd (omega arith)))),
)

-- a plain file of n samples at 8000 a second
plain_of : (n : ℕ) (zs : List ℤ) → length zs ≡ n → 44 + 2 * n ≤ 65536 → found (wav_of 8000 zs) ≡ record { answer = 0; start = 44; length = 2 * n; rate = 8000 }
unfolding rate_allowed
plain_of n zs e h = read_back 8000 zs refl (omega arith) ∙ ap (λ (k : ℕ). record { answer = 0; start = 44; length = 2 * k; rate = 8000 }) e

-- one of 65,536 bytes is accepted
pub longest : found (wav_of 8000 (replicate 32746 (pos 0))) ≡ record { answer = 0; start = 44; length = 65492; rate = 8000 }
longest = plain_of 32746 (replicate 32746 (pos 0)) (length-replicate 32746 (pos 0)) (omega arith)

-- ---- the second step
-- words at the edges, low byte first; nothing into nothing; a part that isn't twice the row's length leaves the row
pub second-step :
    (filling (255 ∷ 127 ∷ 0 ∷ 128 ∷ 255 ∷ 255 ∷ 1 ∷ 0 ∷ []) (pos 0 ∷ pos 0 ∷ pos 0 ∷ pos 0 ∷ [])
    ∷ filling [] []
    ∷ filling (1 ∷ 2 ∷ 3 ∷ []) (pos 9 ∷ [])
    ∷ filling (1 ∷ 2 ∷ []) []
    ∷ [])
    ≡ (filled 0 (pos 32767 ∷ negsuc 32767 ∷ negsuc 0 ∷ pos 1 ∷ []) ∷ filled 0 [] ∷ filled 8 (pos 9 ∷ []) ∷ filled 8 [] ∷ [])
unfolding filling not_twice sample_of word16 wrap16 wrap_to
second-step = refl
