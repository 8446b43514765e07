-- Looking at two candidates loses nothing, for Lambda from 0 to 1104 (request E10) and from 2049 on: of the rule of docs/RULES.md, of the Rust's choice, of a
-- sample, and of a path's first candidate. With each Lambda in between something is lost (Edge.antt). Assumes nothing.
use Prim.Native.Nat.{ℕ, ◌+◌, ◌≤◌, ◌<◌}
use native.Mathlib.Omega.{arith}
use native.Mathlib.Decide.{dec_lt}
use mathlib.Core.Path.{◌≡◌, refl, sym, subst}
use mathlib.Core.Logic.{◌⊎◌, inl, inr}
use mathlib.Core.List.{List}
use lib.ListN.{get_or}
use lib.IntN.{ℤ, pos, negsuc, ◌+ℤ◌, ◌-ℤ◌}
use lib.Signed.{lt_z, ◌≤ℤ◌}
use Rattle.fixed.proofs.Lin.{P, N, add-lin, sub-lin-Z, le-lin, le-of-lin, lt-true, lt-false}
use Rattle.fixed.proofs.Iters.{either-all}
use Rattle.choice.specs.declared.candidate.Choice.{Choice}
use Rattle.choice.specs.RustChoice.{ordered, choice}
use Rattle.choice.specs.RuleChoice.{level_of, lower_of, between, ruled}
use Rattle.choice.specs.Ranges.{InRange}
use Rattle.choice.proofs.Rule.{choice-is-rule}
use Rattle.choice.proofs.Table.{table-in-range, sample-in-range}
use Rattle.residuals.specs.Offset.{offset_of}
use Rattle.residuals.specs.Residual.{signed_residual}
use Rattle.path.specs.declared.structs.Common.{Common}
use Rattle.path.specs.declared.structs.Fix.{Fix}
use Rattle.path.specs.declared.structs.Path.{Path}
use Rattle.path.specs.declared.structs.Terms.{Terms}
use Rattle.path.specs.Data.{no_candidate}
use Rattle.path.specs.Path.{candidate_of, terms_of, residual_of, pair_from, pair_of, pair}
use Rattle.cheapest.specs.Cheapest.{pulse_cost, Cheapest, CheapestOf, NothingLost, ModestLambda, FairLambda, SmallOffset}
use Rattle.cheapest.proofs.Levels.{nearest-below, nearest-above}
use Rattle.cheapest.proofs.Costs.{fair-plain, lambda-word, pulse-is, cost-keeps}
use Rattle.cheapest.proofs.Pairs.{Room, lower-room}

-- ---- the rule of docs/RULES.md
-- where every pulse costs at least as much as p or as s, the cheaper of these two is the cheapest of all
ordered-cheapest : (r Lambda o p s : ℤ)
    → ((k : ℤ) → (pulse_cost r Lambda o p ≤ℤ pulse_cost r Lambda o k) ⊎ (pulse_cost r Lambda o s ≤ℤ pulse_cost r Lambda o k))
    → Cheapest r Lambda o (ordered (level_of o p) (pulse_cost r Lambda o p) (level_of o s) (pulse_cost r Lambda o s))
unfolding ordered
ordered-cheapest r Lambda o p s h =
    either-all (Cheapest r Lambda o) (lt_z x y) _ _
    (λ e. record { pulse = p; level = refl; cost = refl; least = λ k. lower k (lt-true x y e) (h k) })
    (λ e. record { pulse = s; level = refl; cost = refl; least = λ k. upper k (lt-false x y e) (h k) })
  where
    x : ℤ
    x = pulse_cost r Lambda o p

    y : ℤ
    y = pulse_cost r Lambda o s

    lower : (k : ℤ) → P x + N y < P y + N x → (x ≤ℤ pulse_cost r Lambda o k) ⊎ (y ≤ℤ pulse_cost r Lambda o k) → x ≤ℤ pulse_cost r Lambda o k
    lower k e (inl a) = a
    lower k e (inr a) = le-of-lin x (pulse_cost r Lambda o k) (omega (arith, le-lin a))

    upper : (k : ℤ) → P y + N x ≤ P x + N y → (x ≤ℤ pulse_cost r Lambda o k) ⊎ (y ≤ℤ pulse_cost r Lambda o k) → y ≤ℤ pulse_cost r Lambda o k
    upper k e (inl a) = le-of-lin y (pulse_cost r Lambda o k) (omega (arith, le-lin a))
    upper k e (inr a) = a

module _ (r Lambda o : ℤ) (fair : FairLambda Lambda) (small : SmallOffset o) where
  -- every pulse costs at least as much as one of the two that are looked at, lo and lo + 1
  one_of_two : (lo p : ℤ) → Room (P Lambda) (r -ℤ o) lo → Dec (P lo + N p < P p + N lo)
      → (pulse_cost r Lambda o lo ≤ℤ pulse_cost r Lambda o p) ⊎ (pulse_cost r Lambda o (lo +ℤ pos 1) ≤ℤ pulse_cost r Lambda o p)
  one_of_two lo p m (yes k) =
      let u = lo +ℤ pos 1 in
      let s = add-lin lo (pos 1) in
      let q = sub-lin-Z r o in
      let i = m.is in
      let t = sub-lin-Z (pos 1024) m.t in
      let c = le-lin small.low in
      inr (cost-keeps r Lambda o u p (fair-plain fair) (nearest-above (P Lambda) r o (omega arith) u p (pos 1024 -ℤ m.t) (omega arith) m.above (omega arith)))
  one_of_two lo p m (no k) =
      let q = sub-lin-Z r o in
      let i = m.is in
      let c = le-lin small.high in
      inl (cost-keeps r Lambda o lo p (fair-plain fair) (nearest-below (P Lambda) r o (omega arith) lo p m.t (omega arith) m.below (omega arith)))

  -- the rule of docs/RULES.md, for every residual
  pub rule-cheapest : Cheapest r Lambda o (ruled r Lambda o)
  unfolding ruled between
  rule-cheapest =
      let lo = lower_of (r -ℤ o) Lambda in
      rw (pulse-is r Lambda o lo, pulse-is r Lambda o (lo +ℤ pos 1)) at
      (ordered-cheapest r Lambda o lo (lo +ℤ pos 1) (λ p. one_of_two lo p (lower-room (r -ℤ o) Lambda fair) (dec_lt (P lo + N p) (P p + N lo))))

-- ---- the Rust's choice
range_small : {r o : ℤ} → InRange r o → SmallOffset o
range_small {r} {o} h =
    let a = le-lin h.least in
    let b = le-lin h.most in
    record { low = le-of-lin (negsuc 471) o (omega arith); high = le-of-lin o (pos 472) (omega arith) }

-- a residual in its range, an offset from the least to the greatest of the table
pub choice-cheapest : (r Lambda o : ℤ) → InRange r o → FairLambda Lambda → Cheapest r Lambda o (choice r Lambda o)
choice-cheapest r Lambda o h m =
    subst (Cheapest r Lambda o) (sym (choice-is-rule r Lambda o h (lambda-word (fair-plain m)))) (rule-cheapest r Lambda o m (range_small h))

-- ---- at the entries of the table
module _ (signalType offset_type : ℕ) (type : signalType ≤ 2) (kind : offset_type ≤ 1) (Lambda : ℤ) where
  -- nothing is lost with a Lambda up to 1104, nor with one from 2049 on
  pub fair-loses-nothing : FairLambda Lambda → NothingLost Lambda (offset_of signalType offset_type)
  fair-loses-nothing m r low high = rule-cheapest r Lambda _ m (range_small (table-in-range r signalType offset_type low high type kind))

  -- request E10's statement
  pub no-cheaper-level : ModestLambda Lambda → NothingLost Lambda (offset_of signalType offset_type)
  no-cheaper-level m = fair-loses-nothing (inl m)

  -- the same of the Rust's choice at every sample: a seed as it comes, and a residual before its sign and its clamp
  pub sample-cheapest : FairLambda Lambda → (seed r : ℤ)
      → Cheapest (signed_residual seed r) Lambda (offset_of signalType offset_type) (choice (signed_residual seed r) Lambda (offset_of signalType offset_type))
  sample-cheapest m seed r =
      choice-cheapest _ Lambda _ (sample-in-range seed r signalType offset_type type kind) m

-- ---- a path
-- the candidates made of a choice
pair-cheapest : (r Lambda o rd : ℤ) (t : Terms) (c : Choice) → Cheapest r Lambda o c → CheapestOf r Lambda o rd (get_or (pair_from t rd c) 0 no_candidate)
unfolding pair_from candidate_of
pair-cheapest r Lambda o rd t c h =
    record {
      pulse = h.pulse;
      level = h.level;
      total = rw h.cost;
      least = λ p. subst (λ (z : ℤ). z ≤ℤ pulse_cost r Lambda o p) h.cost (h.least p);
    }

-- the first of the two candidates of a path at a sample of a subframe f whose offset is an entry of the table
module _ (f : Fix) (signalType offset_type : ℕ) (type : signalType ≤ 2) (kind : offset_type ≤ 1) (fair : FairLambda f.Lambda_Q10)
    (tabled : f.offset_Q10 ≡ offset_of signalType offset_type) where
  -- from the path's terms t and its running cost rd
  terms-cheapest : (nLTP rd : ℤ) (t : Terms)
      → CheapestOf (residual_of t nLTP) f.Lambda_Q10 f.offset_Q10 rd (get_or (pair_of f nLTP rd t) 0 no_candidate)
  unfolding pair_of residual_of
  terms-cheapest nLTP rd t =
      pair-cheapest _ _ _ rd t _ (rw tabled (sample-cheapest signalType offset_type type kind f.Lambda_Q10 fair t.«Seed» _))

  -- of path p, whatever it has in its words
  pub path-cheapest : (a : List ℤ) (s : Common) (i r0 : ℕ) (p : Path) (nAR : ℤ) (lpc : List ℤ) (ring : List (List ℤ))
      → CheapestOf (residual_of (terms_of f a s i r0 p nAR lpc ring) s.n_LTP_Q14) f.Lambda_Q10 f.offset_Q10 p.RD_Q10
      (get_or (pair f a s i r0 p nAR lpc ring) 0 no_candidate)
  unfolding pair
  path-cheapest a s i r0 p nAR lpc ring = terms-cheapest s.n_LTP_Q14 p.RD_Q10 (terms_of f a s i r0 p nAR lpc ring)
