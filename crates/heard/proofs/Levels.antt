-- The levels of a run, sample by sample, and the row of their pulses. Assumes nothing.
use Prim.Native.Nat.{ℕ, suc, ◌+◌, ◌*◌, ◌/◌, ◌%◌, ◌<◌}
use native.Mathlib.Omega.{arith}
use mathlib.Core.Path.{◌≡◌, refl, sym, ◌∙◌}
use mathlib.Core.List.{List}
use lib.ListN.{length, replicate, length-replicate}
use lib.IntN.{ℤ, pos}
use Rattle.fixed.specs.Iter.{iter}
use Rattle.fixed.proofs.Fills.{fill_turn, fill-length, fill-at}
use Rattle.fixed.proofs.Blocks.{block_in}
use Rattle.noise.specs.Output.{pulse_of}
use Rattle.steps.specs.Among.{Rule}
use Rattle.steps.specs.Call.{Call, length_of}
use Rattle.heard.specs.Inside.{at_sample, level_in}
use Rattle.heard.proofs.Kept.{Rounds}

module _ (rule : Rule) (c : Call) (x out : List ℤ) where
  -- the level at sample h of the frame: that of its subframe and its place there
  pub level_at : ℕ → ℤ
  level_at h = level_in (at_sample rule c x out (h / length_of c) (suc (h % length_of c)))

  -- sample i of subframe k
  pub level-in : (k i : ℕ) → i < length_of c → level_at (k * length_of c + i) ≡ level_in (at_sample rule c x out k (suc i))
  unfolding level_at
  level-in k i h = let z = block_in k i (length_of c) h in rw (z.0, z.1) refl

  -- the pulses of the first m levels
  pub pulse_row : ℕ → List ℤ
  pulse_row m = iter (fill_turn (λ h. h) (λ h. pulse_of (level_at h))) m (replicate m (pos 0))

  -- there are m of them
  pub row-long : (m : ℕ) → length (pulse_row m) ≡ m
  unfolding pulse_row
  row-long m = fill-length (λ h. h) (λ h. pulse_of (level_at h)) m (replicate m (pos 0)) ∙ length-replicate m (pos 0)

  -- each is the pulse of its level
  pub row-rounds : (m : ℕ) → Rounds level_at (pulse_row m) m
  unfolding pulse_row
  row-rounds m h k =
      sym
      (fill-at (λ h. h) (λ h. pulse_of (level_at h)) m (replicate m (pos 0)) (pos 0) (λ i j l z. omega arith)
      (λ i l. let z = length-replicate m (pos 0) in omega arith) h k)
