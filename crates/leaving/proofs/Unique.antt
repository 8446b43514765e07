-- Each contract leaves one outcome: two that meet it have equal results, and every row is left with equal words.
-- Assumes nothing.
use Prim.Native.Nat.{ℕ}
use mathlib.Core.Path.{◌≡◌, sym, ◌∙◌}
use mathlib.Core.List.{List}
use lib.IntN.{ℤ}
use Rattle.path.specs.Data.{States, Work}
use Rattle.leaving.proofs.emission.emit.Reads as emit

-- a subframe in work, of its rows
abbrev made : States → List (List ℤ) → List ℤ → List ℤ → ℕ → List ℤ → List ℤ → Work
made s chosen ltp dgain r xq shp =
    record { states = s; chosen = chosen; sLTP_Q15 = ltp; delayedGain_Q10 = dgain; smpl_buf_idx = r; xq = xq; sLTP_shp_Q14 = shp }

-- two are equal where each of their rows is
all-words : (w v : Work) → w.states ≡ v.states → w.chosen ≡ v.chosen → w.sLTP_Q15 ≡ v.sLTP_Q15 → w.delayedGain_Q10 ≡ v.delayedGain_Q10
    → w.smpl_buf_idx ≡ v.smpl_buf_idx → w.xq ≡ v.xq → w.sLTP_shp_Q14 ≡ v.sLTP_shp_Q14 → w ≡ v
all-words w v a b c d e f g =
    let all : made w.states w.chosen w.sLTP_Q15 w.delayedGain_Q10 w.smpl_buf_idx w.xq w.sLTP_shp_Q14
    ≡ made v.states v.chosen v.sLTP_Q15 v.delayedGain_Q10 v.smpl_buf_idx v.xq v.sLTP_shp_Q14 = cc in
    all

-- all that a subframe works on, and the pulses at exit
pub emit-unique : (κs a r s e f : _) → emit.Post κs a r e → emit.Post κs a s f → (e.0.now ≡ f.0.now) × (e.1.0.now ≡ f.1.0.now)
emit-unique κs a r s e f p q =
    let k = p.1.1.1.1 in
    let l = q.1.1.1.1 in (
      all-words e.0.now f.0.now (k.0.0 ∙ sym l.0.0) (k.0.1 ∙ sym l.0.1) (p.0 ∙ sym q.0) (k.1.0 ∙ sym l.1.0) (k.1.1 ∙ sym l.1.1) (p.1.0 ∙ sym q.1.0) (p.1.1.0 ∙ sym q.1.1.0),
      p.1.1.1.0 ∙ sym q.1.1.1.0,
    )
