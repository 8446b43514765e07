-- With one path the far end hears what was meant: at every sample of every accepted call the excitation that was used inside is 64 times what the
-- RFC's reader makes of the pulses and the seed handed out. For every rule of replacement. Assumes nothing.
use Prim.Native.Nat.{ℕ, suc, ◌+◌, ◌*◌, ◌/◌, ◌%◌, ◌<◌}
use native.Mathlib.Omega.{arith}
use mathlib.Core.Path.{◌≡◌, refl, sym, ap, ◌∙◌, subst}
use mathlib.Core.List.{List}
use lib.ListN.{length}
use lib.IntN.{ℤ, pos, ◌+ℤ◌, ◌*ℤ◌}
use mir.Syntax.{w32}
use mir.Val.{SFits}
use Rattle.fixed.specs.Row.{word}
use Rattle.fixed.specs.Wrap.{wrap32}
use Rattle.fixed.specs.Shift.{shl32}
use Rattle.fixed.proofs.Blocks.{block_of}
use Rattle.seeds.specs.Generator.{rand}
use Rattle.residuals.specs.Residual.{signed_excitation}
use Rattle.residuals.specs.Offset.{offset_of}
use Rattle.choice.proofs.Rfc.{offset-is-rfc}
use Rattle.limits.specs.Count.{nat_z}
use Rattle.rfc6716.specs.Excitation.{offset_Q23, excitation}
use Rattle.rfc6716.proofs.Offsets.{offset-range}
use Rattle.excitation.specs.Reading.{heard_row}
use Rattle.excitation.proofs.Accepted.{seed-word}
use Rattle.refusal_rules.specs.Code.{code_of}
use Rattle.refusal_rules.proofs.Room.{subframe-within}
use Rattle.path.specs.Data.{ring_pred, ring_at}
use Rattle.steps.specs.Among.{Rule}
use Rattle.steps.specs.Shared.{common}
use Rattle.steps.specs.Call.{Call, given_by, length_of, count_of, paths_of, fix_by, fix_of, rows_of}
use Rattle.steps.specs.Entry.{answered, outcome}
use Rattle.counts.proofs.Accepted.{ready}
use Rattle.heard.specs.Inside.{at_sample, level_in, used_at}
use Rattle.heard.specs.Heard.{heard_at}
use Rattle.heard.proofs.Candidates.{Level}
use Rattle.heard.proofs.Kept.{seeds}
use Rattle.heard.proofs.Start.{given_seed}
use Rattle.heard.proofs.Accepted.{kinds-in-range, seed-in-range}
use Rattle.heard.proofs.Levels.{level_at, level-in, pulse_row, row-long, row-rounds}
use Rattle.heard.proofs.Trace.{seed-at, sampled-at, handed_out}
use Rattle.heard.proofs.Reader.{read_all}

-- ---- the reader on the row of a call's own pulses
-- the RFC's offset of a call
abbrev pub rfc_offset : Call → ℤ
rfc_offset c = offset_Q23 (nat_z c.settings.signalType) (nat_z c.settings.quantOffsetType)

-- the offset of a subframe is that of the two types
pub fix-offset : (c : Call) (k : ℕ) → (fix_of c k).offset_Q10 ≡ offset_of (nat_z c.settings.signalType) (nat_z c.settings.quantOffsetType)
unfolding fix_by given_by
fix-offset c k = refl

module _ (rule : Rule) (c : Call) (x out : List ℤ) (e : code_of (answered c x out) ≡ 0) (one : paths_of c ≡ 1) (fit : SFits w32 c.settings.Lambda_Q10) where
  -- each level is that of a pulse, at an offset that is four times the RFC's
  levels : (h : ℕ) → h < count_of c * length_of c → Level (rfc_offset c *ℤ pos 4) (level_at rule c x out h)
  levels h q =
      let k = h / length_of c in
      let i = h % length_of c in
      let p = block_of h (count_of c) (length_of c) (let z = (ready c x out e).sound.long in omega arith) q in
      let a = kinds-in-range c x out e in
      subst (λ (z : ℕ). Level (rfc_offset c *ℤ pos 4) (level_at rule c x out z)) p.1.1
      (subst (Level (rfc_offset c *ℤ pos 4)) (sym (level-in rule c x out k i p.1.0))
      (subst (λ (z : ℤ). Level z (level_in (at_sample rule c x out k (suc i)))) (fix-offset c k ∙ offset-is-rfc _ _ a.0.most a.1.most)
      (sampled-at rule c x out e one fit k i p.0 p.1.0).level))

  row_read : (h : ℕ) → h < count_of c * length_of c
      → word (excitation (rfc_offset c) (nat_z c.settings.Seed) (pulse_row rule c x out (count_of c * length_of c))).e_Q23 h *ℤ pos 64
      ≡ signed_excitation (rand (seeds (level_at rule c x out) (given_seed c) h)) (level_at rule c x out h)
  row_read h q =
      let m = count_of c * length_of c in
      let a = kinds-in-range c x out e in
      let b = offset-range (nat_z c.settings.signalType) (nat_z c.settings.quantOffsetType) a.0.most a.1.most in
      let n : (h : ℕ) → h < length (pulse_row rule c x out m) → h < m = λ h z. subst (λ (y : ℕ). h < y) (row-long rule c x out m) z in
      read_all (rfc_offset c) (given_seed c) (level_at rule c x out) b.0 b.1 (pulse_row rule c x out m) (nat_z c.settings.Seed)
      (sym (seed-word (pos (nat_z c.settings.Seed)) refl (seed-in-range c x out e).most)) (λ h z. levels h (n h z)) (λ h z. row-rounds rule c x out m h (n h z)) h
      (subst (λ (y : ℕ). h < y) (sym (row-long rule c x out m)) q)

-- ---- the theorems: an accepted call with one path, and an i32 Lambda (the code has no other)
-- the seed that is handed out is the seed that was given
pub seed-handed : (rule : Rule) (c : Call) (x out : List ℤ) → code_of (answered c x out) ≡ 0 → paths_of c ≡ 1 → SFits w32 c.settings.Lambda_Q10
    → (outcome rule c x out).seed ≡ c.settings.Seed
seed-handed rule c x out e one fit = (handed_out rule c x out e one fit).1 ∙ sym (seed-in-range c x out e).counts

-- at sample i of subframe k the excitation used inside is 64 times the one that the far end hears
pub heard : (rule : Rule) (c : Call) (x out : List ℤ) → code_of (answered c x out) ≡ 0 → paths_of c ≡ 1 → SFits w32 c.settings.Lambda_Q10
    → (k i : ℕ) → k < count_of c → i < length_of c → used_at rule c x out k i ≡ heard_at rule c x out (k * length_of c + i) *ℤ pos 64
unfolding used_at at_sample heard_row
heard rule c x out e one fit k i p q =
    let h = k * length_of c + i in
    let o = handed_out rule c x out e one fit in
    ap (λ (z : ℤ). signed_excitation (rand z) (level_in (at_sample rule c x out k (suc i)))) (seed-at rule c x out e one fit k i p q)
    ∙ ap (signed_excitation (rand (seeds (level_at rule c x out) (given_seed c) h))) (sym (level-in rule c x out k i q))
    ∙ sym (row_read rule c x out e one fit h (let z = subframe-within (length_of c) p in omega arith))
    ∙ ap (λ (z : List ℤ). word (excitation (rfc_offset c) (nat_z c.settings.Seed) z).e_Q23 h *ℤ pos 64) (sym o.0)
    ∙ ap (λ (z : ℤ). word (excitation (rfc_offset c) (nat_z z) (outcome rule c x out).pulses).e_Q23 h *ℤ pos 64) (sym o.1)

-- and it is the one that the run itself went on with: with the long-term prediction added, and shifted by one, it stands in the ring Pred_Q15 after
-- the sample
pub used-inside : (rule : Rule) (c : Call) (x out : List ℤ) → code_of (answered c x out) ≡ 0 → paths_of c ≡ 1 → SFits w32 c.settings.Lambda_Q10
    → (k i : ℕ) → k < count_of c → i < length_of c
    → ring_at (at_sample rule c x out k (suc i)).core.ps.rings 0 ring_pred (at_sample rule c x out k (suc i)).core.smpl_buf_idx
    ≡ shl32 (wrap32 (used_at rule c x out k i +ℤ (common (fix_of c k) (rows_of c k) x i (at_sample rule c x out k i)).LTP_pred_Q14)) 1
unfolding used_at at_sample
used-inside rule c x out e one fit k i p q = (sampled-at rule c x out e one fit k i p q).pred
