-- The two rows that `nsq_fresh` leaves, word by word: all 0, but the lag at place 762 and the gain at place 765. By computing. Assumes nothing.
use mathlib.Core.Path.{◌≡◌, refl}
use mathlib.Core.List.{[], ◌∷◌, ◌++◌}
use lib.IntN.{pos}
use Rattle.silk.specs.State.{zeros, fresh_lag, fresh_state}
use Rattle.plain_rows.specs.Layout.{scalars_of, words_of}

-- 640 samples of 0
pub fresh-samples : fresh_state.xq ≡ zeros 640
unfolding fresh_state
fresh-samples = refl

-- 767 words: places 0 to 761 are 0, then 100, 0, 0, 65536, 0
pub fresh-words : words_of fresh_state ≡ zeros 762 ++ (pos 100 ∷ pos 0 ∷ pos 0 ∷ pos 65536 ∷ pos 0 ∷ [])
unfolding words_of scalars_of fresh_state fresh_lag zeros
fresh-words = refl
