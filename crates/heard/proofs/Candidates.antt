-- The two candidates of one path at a sample: each level is that of a pulse from -32 to 30, and each excitation that of its level, with the sign of
-- the path's seed. The penalty and the replacement by itself keep that. Assumes nothing.
use Prim.Native.Nat.{ℕ, ◌<◌, ◌≤◌}
use native.Mathlib.Omega.{arith}
use mathlib.Core.Path.{◌≡◌, refl, sym, subst}
use mathlib.Core.Logic.{◌⊎◌, inl, inr}
use mathlib.Core.List.{List, [], ◌∷◌}
use lib.ListN.{get_or, set, length, replicate}
use lib.IntN.{ℤ, pos, negsuc, ◌+ℤ◌}
use lib.Signed.{◌≤ℤ◌}
use mir.Syntax.{w32}
use mir.Val.{SFits}
use Rattle.fixed.specs.Iter.{iter}
use Rattle.fixed.specs.Row.{word}
use Rattle.fixed.specs.Wrap.{wrap32}
use Rattle.fixed.proofs.Iters.{either-all}
use Rattle.fixed.proofs.Lin.{add-lin, le-lin, le-of-lin}
use Rattle.residuals.specs.Residual.{signed_excitation, pulse_of}
use Rattle.residuals.specs.Offset.{offset_of}
use Rattle.choice.specs.declared.candidate.Choice.{Choice}
use Rattle.choice.specs.RustChoice.{choice}
use Rattle.choice.specs.RuleChoice.{level_of}
use Rattle.choice.specs.Ranges.{Ordered, Neighbours}
use Rattle.choice.proofs.Table.{sample-pulses}
use Rattle.path.specs.declared.structs.Path.{Path}
use Rattle.path.specs.declared.structs.Candidate.{Candidate}
use Rattle.path.specs.declared.structs.Fix.{Fix}
use Rattle.path.specs.declared.structs.Common.{Common}
use Rattle.path.specs.declared.structs.Terms.{Terms}
use Rattle.path.specs.declared.structs.Moves.{Moves}
use Rattle.path.specs.declared.structs.Swap.{Swap}
use Rattle.path.specs.Data.{no_path, no_candidate}
use Rattle.path.specs.Path.{candidate_of, terms_of, residual_of, pair_from, pair_of, pair}
use Rattle.path.specs.Taken.{raised}
use Rattle.penalty.specs.Penalty.{same_word, raised_unless, penalised}
use Rattle.steps.specs.Among.{moved_over}
use Rattle.steps.specs.Each.{pair_turn, pairs}

-- ---- levels
-- q is the level of a pulse from -32 to 30, at offset o
pub record Level (o q : ℤ) : Type 0 where
  pub p : ℤ
  pub is : q ≡ level_of o p
  pub pulse : pulse_of q ≡ p
  pub low : negsuc 31 ≤ℤ p
  pub high : p ≤ℤ pos 30

next_low : (p : ℤ) → negsuc 31 ≤ℤ p → negsuc 31 ≤ℤ (p +ℤ pos 1)
next_low p h = le-of-lin (negsuc 31) (p +ℤ pos 1) (omega (arith, le-lin h, add-lin p (pos 1)))

this-high : (p : ℤ) → (p +ℤ pos 1) ≤ℤ pos 30 → p ≤ℤ pos 30
this-high p h = le-of-lin p (pos 30) (omega (arith, le-lin h, add-lin p (pos 1)))

-- both levels of a choice
levels-of : (o p : ℤ) (c : Choice) → Neighbours o p c → Level o c.first_level × Level o c.second_level
levels-of o p c n = go n.order
  where
    go : Ordered o p (p +ℤ pos 1) c ⊎ Ordered o (p +ℤ pos 1) p c → Level o c.first_level × Level o c.second_level
    go (inl e) = (
      record { p = p; is = e.first_level; pulse = e.first_pulse; low = n.low; high = this-high p n.high },
      record { p = p +ℤ pos 1; is = e.second_level; pulse = e.second_pulse; low = next_low p n.low; high = n.high },
    )
    go (inr e) = (
      record { p = p +ℤ pos 1; is = e.first_level; pulse = e.first_pulse; low = next_low p n.low; high = n.high },
      record { p = p; is = e.second_level; pulse = e.second_pulse; low = n.low; high = this-high p n.high },
    )

-- ---- the candidates of a path whose generator stepped to this seed
pub record Fair (o seed ltp : ℤ) (c : Candidate) : Type 0 where
  pub level : Level o c.Q_Q10
  pub exc : c.LPC_exc_Q14 ≡ wrap32 (signed_excitation seed c.Q_Q10 +ℤ ltp)

-- what holds of both
abbrev pub Both : (Candidate → Type 0) → List Candidate → Type 0
Both F row = F (get_or row 0 no_candidate) × F (get_or row 1 no_candidate)

candidate-fair : (o : ℤ) (t : Terms) (q rd : ℤ) → Level o q → Fair o t.«Seed» t.LTP_pred_Q14 (candidate_of t q rd)
unfolding candidate_of
candidate-fair o t q rd l = record { level = l; exc = refl }

pair_from-fair : (o : ℤ) (t : Terms) (rd : ℤ) (c : Choice) → Level o c.first_level × Level o c.second_level
    → Both (Fair o t.«Seed» t.LTP_pred_Q14) (pair_from t rd c)
unfolding pair_from
pair_from-fair o t rd c l = (candidate-fair o t _ _ l.0, candidate-fair o t _ _ l.1)

-- the offset is one of the table, and Lambda an i32
pub record Tabled (f : Fix) : Type 0 where
  pub kind : ℕ
  pub type : ℕ
  pub kind2 : kind ≤ 2
  pub type1 : type ≤ 1
  pub offset : f.offset_Q10 ≡ offset_of kind type
  pub lambda : SFits w32 f.Lambda_Q10

-- so both candidates of a path are fair
residual-levels : (f : Fix) → Tabled f → (t : Terms) (nLTP : ℤ)
    → Level f.offset_Q10 (choice (residual_of t nLTP) f.Lambda_Q10 f.offset_Q10).first_level
    × Level f.offset_Q10 (choice (residual_of t nLTP) f.Lambda_Q10 f.offset_Q10).second_level
unfolding residual_of
residual-levels f k t nLTP =
    rw k.offset (levels-of _ _ _ (sample-pulses t.«Seed» _ f.Lambda_Q10 k.kind k.type k.kind2 k.type1 k.lambda))

pub pair-fair : (f : Fix) → Tabled f → (a : List ℤ) (s : Common) (i r0 : ℕ) (p : Path) (n : ℤ) (lpc : List ℤ) (ring : List (List ℤ))
    → Both (Fair f.offset_Q10 p.«Seed» s.LTP_pred_Q14) (pair f a s i r0 p n lpc ring)
unfolding pair pair_of terms_of
pair-fair f k a s i r0 p n lpc ring =
    let t = terms_of f a s i r0 p n lpc ring in
    pair_from-fair f.offset_Q10 t p.RD_Q10 _ (residual-levels f k t s.n_LTP_Q14)

-- ---- the first path's row of all candidates
pub record First (F : Candidate → Type 0) (c : List (List Candidate)) : Type 0 where
  pub some : 0 < length c
  pub row : Both F (get_or c 0 [])

first-set : (F : Candidate → Type 0) (c : List (List Candidate)) (row : List Candidate) → 0 < length c → Both F row → First F (set c 0 row)
first-set F [] row h r = absurd (omega arith)
first-set F (x ∷ c) row h r = record { some = h; row = r }

-- both of its candidates are fair
pub pairs-fair : (f : Fix) → Tabled f → f.nStates ≡ 1
    → (a : List ℤ) (s : Common) (i r0 : ℕ) (m : Moves) (lpcs : List (List ℤ)) (rings : List (List (List ℤ)))
    → First (Fair f.offset_Q10 (get_or m.owns 0 no_path).«Seed» s.LTP_pred_Q14) (pairs f a s i r0 m lpcs rings)
unfolding pairs
pairs-fair f k one a s i r0 m lpcs rings =
    let none = replicate 4 (replicate 2 no_candidate) in
    let p = get_or m.owns 0 no_path in
    let F = Fair f.offset_Q10 p.«Seed» s.LTP_pred_Q14 in
    subst (λ (n : ℕ). First F (iter (pair_turn f a s i r0 m lpcs rings) n none)) (sym one)
    (first-set F none _ (omega arith) (pair-fair f k a s i r0 p (word m.n_AR_Q14 0) (get_or lpcs 0 []) (get_or rings 0 [])))

-- the penalty changes the cost alone
pub raised-fair : (o seed ltp : ℤ) (c : Candidate) → Fair o seed ltp c → Fair o seed ltp (raised c)
unfolding raised
raised-fair o seed ltp c r = record { level = r.level; exc = r.exc }

module _ (F : Candidate → Type 0) where
  -- what holds of both candidates of a path still does after the penalty
  pub unless-both : ((c : Candidate) → F c → F (raised c)) → (row : List Candidate) (state mark : ℤ) → Both F row → Both F (raised_unless row state mark)
  unfolding raised_unless
  unless-both up row state mark r = either-all (Both F) (same_word state mark) _ _ (λ e. r) (λ e. (up _ r.0, up _ r.1))

  -- so it does of the first path's
  pub penalised-first : ((c : Candidate) → F c → F (raised c)) → (c : List (List Candidate)) (rings : List (List (List ℤ))) (w last : ℕ)
      → First F c → First F (penalised c rings 1 w last)
  unfolding penalised
  penalised-first up c rings w last r = first-set F c _ r.some (unless-both up (get_or c 0 []) _ _ r.row)

  -- and after a replacement by itself: the second candidate takes the first's place, or nothing moves
  pub moved_over-first : (d : List (List Candidate)) (s : Swap) → s.to ≡ 0 → s.by ≡ 0 → First F d → First F (moved_over d s)
  unfolding moved_over
  moved_over-first d s to by r =
      rw (to, by) (either-all (First F) s.yes _ _ (λ e. first-set F d _ r.some (r.row.1, r.row.1)) (λ e. r))
