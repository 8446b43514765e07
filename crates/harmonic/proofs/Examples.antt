-- Numbers at which a slip in a definition would show, by computation.
-- Assumes nothing.
use mathlib.Core.Path.{◌≡◌, refl}
use lib.IntN.{negsuc}
use Rattle.fixed.specs.Wrap.{wrap_to, wrap32}
use Rattle.fixed.specs.Shift.{shr, shr32, shl32, or32}
use Rattle.word_steps.specs.Harmonic.{packed_gain}

-- the gain -1 packs to -1: a sum of the two halves would be -65537
pub packed-by-or : packed_gain (negsuc 0) ≡ negsuc 0
unfolding packed_gain or32 shl32 shr32 shr wrap32 wrap_to
packed-by-or = refl
