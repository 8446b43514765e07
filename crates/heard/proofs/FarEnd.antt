-- The whole way: a call is coded with one path, its pulses and its seed go to the far end, and the reader there gives a 64th of what was used at
-- each sample. Assumes nothing.
use Prim.Native.Nat.{ℕ, ◌+◌, ◌*◌, ◌<◌}
use native.Mathlib.Omega.{arith}
use mathlib.Core.Path.{◌≡◌, sym, ap, ◌∙◌}
use mathlib.Core.List.{List}
use lib.ListN.{length}
use lib.IntN.{ℤ, pos, ◌*ℤ◌}
use mir.Syntax.{w32}
use mir.Val.{SFits}
use Rattle.fixed.specs.Row.{word}
use Rattle.excitation.specs.Code.{Accepted}
use Rattle.excitation.specs.Code as excitation
use Rattle.excitation.specs.Refused.{answer_of}
use Rattle.excitation.specs.Reading.{Heard, heard, heard_row, reading}
use Rattle.excitation.proofs.Accepted.{Good, good-accepted, heard-accepted}
use Rattle.refusal_rules.specs.Code.{code_of}
use Rattle.steps.specs.Among.{Rule}
use Rattle.steps.specs.Call.{Call, length_of, count_of, paths_of}
use Rattle.steps.specs.Entry.{answered, outcome}
use Rattle.heard.specs.Inside.{used_at}
use Rattle.heard.specs.Heard.{far_end}
use Rattle.heard.proofs.Accepted.{kinds-in-range, seed-in-range, frame-320, pulses-long}
use Rattle.heard.proofs.Theorems as theorems

-- what the reader leaves where it accepts
accepted-reading : (seed signalType offset_type : ℤ) (pulses row : List ℤ) → excitation.code_of (answer_of seed signalType offset_type (length pulses) (length row)) ≡ 0
    → reading seed signalType offset_type pulses row ≡ heard Accepted (heard_row seed signalType offset_type pulses)
unfolding reading
accepted-reading seed signalType offset_type pulses row e =
    heard-accepted (answer_of seed signalType offset_type (length pulses) (length row)) (heard_row seed signalType offset_type pulses) row e

module _ (rule : Rule) (c : Call) (x out row : List ℤ) (e : code_of (answered c x out) ≡ 0) (one : paths_of c ≡ 1) (fit : SFits w32 c.settings.Lambda_Q10)
    (long : length row ≡ count_of c * length_of c) where
  -- what is handed out is good for the reader
  handed-good : Good (outcome rule c x out).seed c.settings.signalType c.settings.quantOffsetType (length (outcome rule c x out).pulses) (length row)
  handed-good =
      let k = kinds-in-range c x out e in
      let s = seed-in-range c x out e in
      let n = pulses-long c x out e rule in
      rw (theorems.seed-handed rule c x out e one fit)
      (record {
        seed-counts = s.counts;
        seed-most = s.most;
        kind-counts = k.0.counts;
        kind-most = k.0.most;
        type-counts = k.1.counts;
        type-most = k.1.most;
        same = n ∙ sym long;
        most = omega (arith, n, frame-320 c x out e);
      })

  read : far_end rule c x out row
      ≡ heard Accepted (heard_row (outcome rule c x out).seed c.settings.signalType c.settings.quantOffsetType (outcome rule c x out).pulses)
  read =
      accepted-reading (outcome rule c x out).seed c.settings.signalType c.settings.quantOffsetType (outcome rule c x out).pulses row
      (good-accepted handed-good)

  -- an accepted call with one path: the reader accepts what it hands out, and at sample i of subframe k the excitation that was used inside (Q14) is
  -- 64 times the word that the reader writes there
  pub far-end :
      (excitation.code_of (far_end rule c x out row).answer ≡ 0)
      × ((k i : ℕ) → k < count_of c → i < length_of c → used_at rule c x out k i ≡ word (far_end rule c x out row).row (k * length_of c + i) *ℤ pos 64)
  far-end = (
    ap (λ (h : Heard). excitation.code_of h.answer) read,
    λ k i p q. theorems.heard rule c x out e one fit k i p q ∙ ap (λ (h : Heard). word h.row (k * length_of c + i) *ℤ pos 64) (sym read),
  )
