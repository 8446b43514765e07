-- The far end on the pulses of a path: what the RFC's reader makes of them is a 64th of the excitation that the path used. Assumes nothing.
use Prim.Native.Nat.{ℕ, zero, suc, ◌^◌, ◌<◌, ◌≤◌}
use native.Mathlib.Omega.{arith}
use mathlib.Core.Path.{◌≡◌, sym, ap, ◌∙◌, subst}
use mathlib.Core.List.{List}
use lib.ListN.{length}
use lib.IntN.{ℤ, pos, ◌+ℤ◌, ◌*ℤ◌}
use lib.Signed.{◌≤ℤ◌}
use Rattle.fixed.specs.Row.{word}
use Rattle.fixed.specs.Wrap.{mod_z, wrap32}
use Rattle.seeds.specs.Generator.{rand}
use Rattle.residuals.specs.Residual.{signed_excitation, seed_with}
use Rattle.noise.specs.Output.{pulse_of}
use Rattle.choice.specs.RuleChoice.{level_of}
use Rattle.rfc6716.specs.Excitation.{excitation}
use Rattle.heard.proofs.Candidates.{Level}
use Rattle.heard.proofs.Kept.{seeds, seeds-0, seeds-next}
use Rattle.heard.proofs.Reader.{pulse-out, read_all}
use Rattle.belongs.proofs.Words.{trail, trail-0, trail-next}
use Rattle.belongs.proofs.Held.{Exact}
use Rattle.belongs.proofs.Sampled.{seed-with}

module _ (o : ℤ) (low : pos 8 ≤ℤ o) (high : o ≤ℤ pos 60) (m : ℕ) (s0 : ℤ) (own exc : ℕ → ℤ)
    (exact : (h : ℕ) → h < m → Exact (o *ℤ pos 4) (trail s0 own h) (own h) (exc h)) where
  -- the level at each place is that of the pulse
  level : ℕ → ℤ
  level h = level_of (o *ℤ pos 4) (own h)

  level-is : (h : ℕ) (k : h < m) → (exact h k).q ≡ level h
  unfolding level
  level-is h k = let w = exact h k in w.level.is ∙ ap (level_of (o *ℤ pos 4)) (sym (pulse-out w.level) ∙ w.pulse)

  level-at : (h : ℕ) → h < m → Level (o *ℤ pos 4) (level h)
  level-at h k = subst (Level (o *ℤ pos 4)) (level-is h k) (exact h k).level

  pulse-at : (h : ℕ) → h < m → pulse_of (level h) ≡ own h
  pulse-at h k = ap pulse_of (sym (level-is h k)) ∙ (exact h k).pulse

  -- so the seeds of the levels are the words RandState
  seeds-are : (h : ℕ) → h ≤ m → seeds level s0 h ≡ trail s0 own h
  seeds-are zero k = seeds-0 level s0 ∙ sym (trail-0 s0 own)
  seeds-are (suc h) k =
      seeds-next level s0 h
      ∙ ap (λ (z : ℤ). seed_with (rand z) (level h)) (seeds-are h (omega arith))
      ∙ seed-with (rand (trail s0 own h)) (level-at h (omega arith))
      ∙ ap (λ (z : ℤ). wrap32 (rand (trail s0 own h) +ℤ z)) (pulse-at h (omega arith))
      ∙ sym (trail-next s0 own h)

  pub read-own : (ps : List ℤ) → length ps ≡ m → ((h : ℕ) → h < m → word ps h ≡ own h) → (seed : ℕ) → seed ≡ mod_z s0 (2 ^ 32)
      → (h : ℕ) → h < m → exc h ≡ word (excitation o seed ps).e_Q23 h *ℤ pos 64
  read-own ps long are seed e h k =
      let n : (i : ℕ) → i < length ps → i < m = λ i q. subst (λ (y : ℕ). i < y) long q in
      (exact h k).is
      ∙ ap (signed_excitation (rand (trail s0 own h))) (level-is h k)
      ∙ ap (λ (z : ℤ). signed_excitation (rand z) (level h)) (sym (seeds-are h (omega arith)))
      ∙ sym
      (read_all o s0 level low high ps seed e (λ i q. level-at i (n i q)) (λ i q. pulse-at i (n i q) ∙ sym (are i (n i q))) h
      (subst (λ (y : ℕ). h < y) (sym long) k))
