-- The RFC's reader on the pulses of a run of levels: its seed is the run's, and its excitation a 64th of the run's. Assumes nothing.
use Prim.Native.Nat.{ℕ, suc, ◌^◌, ◌<◌}
use native.Mathlib.Omega.{arith}
use mathlib.Core.Path.{◌≡◌, refl, sym, ap, ◌∙◌, subst}
use mathlib.Core.Bool.{Bool, true, false}
use mathlib.Core.List.{List, [], ◌∷◌, ◌++◌}
use lib.ListN.{length, get_or-append}
use lib.Seq.{get_or-append_seam}
use lib.IntN.{ℤ, pos, neg_ℤ, ◌*ℤ◌}
use lib.Signed.{◌≤ℤ◌}
use mir.Syntax.{w8}
use mir.Val.{SFits}
use Rattle.fixed.specs.Iter.{either}
use Rattle.fixed.specs.Row.{word}
use Rattle.fixed.specs.Wrap.{mod_z}
use Rattle.fixed.proofs.Iters.{iter-keeps, one_more}
use Rattle.fixed.proofs.Lin.{eq_of, neg-lin, le-lin, le-of-lin, sfits-of-lin}
use Rattle.seeds.specs.Generator.{rand}
use Rattle.residuals.specs.Residual.{signed_excitation, seed_with}
use Rattle.noise.specs.Output.{pulse_of}
use Rattle.noise.proofs.Pulses.{handed-pulse}
use Rattle.choice.proofs.Near.{times-lin}
use Rattle.choice.proofs.Rfc.{sample-is-rfc}
use Rattle.rfc6716.specs.Excitation.{value, next_seed, negates, signed, Row, pulse, turn, excitation}
use Rattle.rfc6716.proofs.Rows.{pulse-length}
use Rattle.heard.proofs.Candidates.{Level}
use Rattle.heard.proofs.Kept.{seeds, seeds-0, seeds-next, Rounds}

-- the pulse that is handed out for the level of a pulse is that pulse
pub pulse-out : {o q : ℤ} (l : Level o q) → pulse_of q ≡ l.p
pulse-out {o} {q} l =
    let a = le-lin l.low in
    let b = le-lin l.high in
    handed-pulse q (subst (SFits w8) (sym l.pulse) (sfits-of-lin w8 l.p (omega arith) (omega arith))) ∙ l.pulse

-- the sign step and a factor
neg_64 : (v : ℤ) → neg_ℤ (v *ℤ pos 64) ≡ neg_ℤ v *ℤ pos 64
neg_64 v = eq_of (neg_ℤ (v *ℤ pos 64)) (neg_ℤ v *ℤ pos 64) (omega (arith, neg-lin v, neg-lin (v *ℤ pos 64), times-lin 64 v, times-lin 64 (neg_ℤ v)))

signed-64 : (seed : ℕ) (v : ℤ) → signed seed (v *ℤ pos 64) ≡ signed seed v *ℤ pos 64
unfolding signed
signed-64 seed v = go (negates seed)
  where
    go : (b : Bool) → either b (neg_ℤ (v *ℤ pos 64)) (v *ℤ pos 64) ≡ either b (neg_ℤ v) v *ℤ pos 64
    go true = neg_64 v
    go false = refl

-- after j pulses
record Read (Q : ℕ → ℤ) (s0 : ℤ) (j : ℕ) (t : Row) : Type 0 where
  seed : t.seed ≡ mod_z (seeds Q s0 j) (2 ^ 32)
  long : length t.e_Q23 ≡ j
  at : (h : ℕ) → h < j → word t.e_Q23 h *ℤ pos 64 ≡ signed_excitation (rand (seeds Q s0 h)) (Q h)

pulse-row : (o x : ℤ) (t : Row) → (pulse o x t).e_Q23 ≡ t.e_Q23 ++ (signed (next_seed t.seed) (value o x) ∷ [])
unfolding pulse
pulse-row o x t = refl

-- the word that a pulse adds, and those before it
row_last : (o x : ℤ) (t : Row) (j : ℕ) → length t.e_Q23 ≡ j → word (pulse o x t).e_Q23 j ≡ signed (next_seed t.seed) (value o x)
row_last o x t j l =
    ap (λ (y : List ℤ). word y j) (pulse-row o x t)
    ∙ ap (word (t.e_Q23 ++ (signed (next_seed t.seed) (value o x) ∷ []))) (sym l)
    ∙ get_or-append_seam t.e_Q23 (signed (next_seed t.seed) (value o x)) [] (pos 0)

row_before : (o x : ℤ) (t : Row) (h : ℕ) → h < length t.e_Q23 → word (pulse o x t).e_Q23 h ≡ word t.e_Q23 h
row_before o x t h l = ap (λ (y : List ℤ). word y h) (pulse-row o x t) ∙ get_or-append t.e_Q23 _ (pos 0) h l

module _ (o s0 : ℤ) (Q : ℕ → ℤ) (low : pos 8 ≤ℤ o) (high : o ≤ℤ pos 60) where
  one-read : (j : ℕ) (t : Row) (l : Level (o *ℤ pos 4) (Q j)) → Read Q s0 j t → Read Q s0 (suc j) (pulse o l.p t)
  one-read j t l r =
      let s = seeds Q s0 j in
      let p = l.p in
      let e = sample-is-rfc s o p t r.seed low high l.low (le-of-lin p (pos 31) (omega (arith, le-lin l.high))) in
      record {
        seed = sym e.0 ∙ ap (λ (z : ℤ). mod_z (seed_with (rand s) z) (2 ^ 32)) (sym l.is) ∙ ap (λ (z : ℤ). mod_z z (2 ^ 32)) (sym (seeds-next Q s0 j));
        long = pulse-length o p t ∙ ap suc r.long;
        at = λ h q.
            one_more (λ h. word (pulse o p t).e_Q23 h *ℤ pos 64 ≡ signed_excitation (rand (seeds Q s0 h)) (Q h)) h j q
            (λ z. ap (λ (y : ℤ). y *ℤ pos 64) (row_before o p t h (let a = r.long in omega arith)) ∙ r.at h z)
            (ap (λ (y : ℤ). y *ℤ pos 64) (row_last o p t j r.long)
            ∙ sym (signed-64 (next_seed t.seed) (value o p))
            ∙ sym e.1
            ∙ ap (signed_excitation (rand s)) (sym l.is));
      }

  -- the whole row: one level for each pulse
  pub read_all : (ps : List ℤ) (seed : ℕ) → seed ≡ mod_z s0 (2 ^ 32) → ((h : ℕ) → h < length ps → Level (o *ℤ pos 4) (Q h)) → Rounds Q ps (length ps)
      → (h : ℕ) → h < length ps → word (excitation o seed ps).e_Q23 h *ℤ pos 64 ≡ signed_excitation (rand (seeds Q s0 h)) (Q h)
  unfolding excitation
  read_all ps seed e levels are h k =
      (iter-keeps (Read Q s0) (turn o ps) (length ps)
      (λ j q t r. subst (λ (z : ℤ). Read Q s0 (suc j) (pulse o z t)) (sym (pulse-out (levels j q)) ∙ are j q) (one-read j t (levels j q) r))
      (record { seed = seed; e_Q23 = [] })
      (record { seed = e ∙ ap (λ (z : ℤ). mod_z z (2 ^ 32)) (sym (seeds-0 Q s0)); long = refl; at = λ h q. absurd (omega arith) })).at h k
