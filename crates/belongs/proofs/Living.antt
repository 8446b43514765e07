-- The living and the dead between two samples, and that a sample keeps what holds of them: those that may still win agree in what has been handed out,
-- and the others cost too much to be chosen or copied. u is what each path costs, τ its words RandState, one for each sample; e of them are settled.
-- All rests on runs being short. At each sample of a run a dead path is replaced by a living one, so the dead run out unless a living path dies. One can
-- only die for a word from before the run began, since the delay is longer than a run; then its past dies out, at most three are dead, and of pasts
-- there were at most four. For any penalty F of at least `least_penalty`. Assumes nothing.
use Prim.Native.Nat.{ℕ, suc, ◌+◌, ◌-◌, ◌*◌, ◌<◌, ◌≤◌}
use native.Mathlib.Omega.{arith}
use mathlib.Core.Path.{◌≡◌, refl, sym, ap, ◌∙◌}
use mathlib.Core.Logic.{◌≢◌, ◌⊎◌, inl, inr}
use mathlib.Core.Bool.{Bool, true, false, not, ◌&&◌}
use mathlib.Core.List.{List}
use lib.ListN.{length}
use lib.Dec.{ltb, eqb}
use borrow.Author.Tests.{ltb-true, ltb-false, eqb-true, eqb-false, eq-eqb, not-true, not-false}
use lib.IntN.{ℤ}
use mir.Syntax.{w32}
use mir.Val.{SFits, of_z, to_z}
use Rattle.fixed.specs.Iter.{either}
use Rattle.fixed.proofs.Iters.{cases, not-both, one_more}
use Rattle.fixed.proofs.Fit.{read}
use Rattle.penalty.specs.Penalty.{same_word}
use Rattle.belongs.specs.Costs.{least_penalty, out_of}
use Rattle.belongs.proofs.Dead.{none-or-one, all-alive, fewer, one_less, some_left}
use Rattle.belongs.proofs.Pasts.{Heir, heir-some, heir-same, culled, culled-heir, culled-less, all-pasts, all-long, all-heirs}
use Rattle.belongs.proofs.Costing.{Costing, Chose, still, next, costs, still-true, v-still, by-still, dead-swaps, dead_goes, costing-dead, costing-free}

-- ---- words with the same bits
same-word : {a b : ℤ} → SFits w32 a → SFits w32 b → same_word a b ≡ true → a ≡ b
unfolding same_word
same-word {a} {b} f g e = sym (read f) ∙ ap (to_z w32) (eqb-true (of_z w32 a) (of_z w32 b) e) ∙ read g

pub word_same : {a b : ℤ} → a ≡ b → same_word a b ≡ true
unfolding same_word
word_same {a} {b} e = eq-eqb (of_z w32 a) (of_z w32 b) (ap (of_z w32) e)

-- ---- what holds between two samples
-- t are done. The present run has lasted ρ and began at x; each living path is heir to one of the pasts from there. For each past there is room for
-- three dead: a path that dies takes its past with it. φ counts the fines from before the flush in the middle, ψ says how many there may be
pub record Living (F n t e ψ : ℕ) (u : ℕ → ℕ) (τ : ℕ → ℕ → ℤ) : Type 0 where
  pub ρ : ℕ
  pub φ : ℕ
  pub w : ℕ
  pub x : ℕ
  pub alive : ℕ → Bool
  pub pasts : List (ℕ → ℤ)
  pub costing : Costing F n t ρ φ u alive w
  pub began : x + ρ ≡ t
  pub short : ρ + out_of alive n + 3 * length pasts ≤ 12
  pub fines : φ + ρ + out_of alive n + 3 * length pasts ≤ 16
  pub heirs : (k : ℕ) → k < n → alive k ≡ true → Heir x (τ k) pasts
  pub few : φ ≤ ψ
  pub settled : e ≤ t
  pub agree : (j k : ℕ) → j < n → k < n → alive j ≡ true → alive k ≡ true → (h : ℕ) → h < e → τ j h ≡ τ k h

-- there is a past, since the cheapest lives: so a run lasts at most 9 samples
pub one-past : {F n t e ψ : ℕ} {u : ℕ → ℕ} {τ : ℕ → ℕ → ℤ} (g : Living F n t e ψ u τ) → 1 ≤ length g.pasts
one-past g = heir-some g.x _ g.pasts (g.heirs g.w g.costing.in-n g.costing.lives)

pub run-9 : {F n t e ψ : ℕ} {u : ℕ → ℕ} {τ : ℕ → ℕ → ℤ} (g : Living F n t e ψ u τ) → g.ρ ≤ 9
run-9 g = omega (arith, one-past g, g.short)

-- ---- one sample
-- whose words a path has after the replacement
abbrev pub source : Bool → ℕ → ℕ → ℕ → ℕ
source sw to by k = either (sw && eqb k to) by k

pub from-source : (Q : ℕ → Bool → Type 0) (a : ℕ → Bool) (sw : Bool) (to by k : ℕ) → (sw ≡ true → k ≡ to → Q by true) → ((sw ≡ true → k ≢ to) → Q k (a k))
    → Q (source sw to by k) (next sw to a k)
from-source Q a sw to by k f g =
    cases sw
    (λ s. cases (eqb k to) (λ e. rw (s, e) (f s (eqb-true k to e))) (λ e. rw (s, e) (g (λ z. eqb-false k to e))))
    (λ s. rw s (g (λ z. not-both sw z s)))

-- who is fined: mark is what is read at the delay d, which before d samples is the same in all
pub record Marks (n d t : ℕ) (τ : ℕ → ℕ → ℤ) (mark : ℕ → ℤ) (pen : ℕ → Bool) (v : ℕ) : Type 0 where
  pub pens : (k : ℕ) → k < n → pen k ≡ not (same_word (mark k) (mark v))
  pub early : t < d → (k : ℕ) → k < n → mark k ≡ mark v
  pub late : d ≤ t → (k : ℕ) → k < n → mark k ≡ τ k (t - d)

-- one word more is settled, that at the delay; or none, then it already was
abbrev pub Leaves : ℕ → ℕ → ℕ → ℕ → Type 0
Leaves d t e e' = ((e' ≡ suc e) × ((d ≤ t) × (t - d ≡ e))) ⊎ ((e' ≡ e) × (d ≤ t → t - d < e))

leaves-most : {d t e e' : ℕ} → Leaves d t e e' → e ≤ t → e' ≤ suc t
leaves-most (inl q) h = omega (arith, q.0)
leaves-most (inr q) h = omega (arith, q.0)

module _ {F n t e ψ : ℕ} {u : ℕ → ℕ} {τ : ℕ → ℕ → ℤ} (enough : least_penalty ≤ F) (g : Living F n t e ψ u τ)
    {a b : ℕ → ℕ} {pen : ℕ → Bool} {v to by : ℕ} {sw : Bool} (c : Chose F n u a b pen v to by sw)
    {d : ℕ} {mark : ℕ → ℤ} (m : Marks n d t τ mark pen v) (d10 : 10 ≤ d) (n4 : n ≤ 4) (fits : (k : ℕ) → k < n → (h : ℕ) → h < t → SFits w32 (τ k h))
    (τ' : ℕ → ℕ → ℤ) (goes : (k : ℕ) → k < n → (h : ℕ) → h < t → τ' k h ≡ τ (source sw to by k) h) (e' : ℕ) (l : Leaves d t e e') where
  -- who lives once the fines are out, and after the replacement
  spared : ℕ → Bool
  spared = still g.alive pen

  alive' : ℕ → Bool
  alive' = next sw to spared

  was-alive : (k : ℕ) → spared k ≡ true → g.alive k ≡ true
  unfolding spared
  was-alive k s = (still-true g.alive pen k s).0

  -- what holds after it, and who lives then
  pub record After : Type 0 where
    pub living : Living F n (suc t) e' ψ (costs F u a b pen sw to by) τ'
    pub alive-is : (k : ℕ) → living.alive k ≡ next sw to (still g.alive pen) k

  -- a path that lives after the sample has the words of one that lived
  source-spared : (k : ℕ) → k < n → alive' k ≡ true → (source sw to by k < n) × (spared (source sw to by k) ≡ true)
  unfolding alive' spared
  source-spared k h =
      from-source (λ i y. y ≡ true → (i < n) × (still g.alive pen i ≡ true)) (still g.alive pen) sw to by k
      (λ s z q. (c.by_in, by-still enough g.costing c (run-9 g) n4)) (λ z q. (h, q))

  pub source-alive : (k : ℕ) → k < n → next sw to (still g.alive pen) k ≡ true → g.alive (source sw to by k) ≡ true
  unfolding alive' spared
  source-alive k h q = was-alive (source sw to by k) (source-spared k h q).1

  -- and one that isn't fined has the winner's word at the delay
  spared-same : d ≤ t → (k : ℕ) → k < n → spared k ≡ true → same_word (τ k (t - d)) (mark v) ≡ true
  unfolding spared
  spared-same q k h s =
      ap (λ (z : ℤ). same_word z (mark v)) (sym (m.late q k h)) ∙ not-false (same_word (mark k) (mark v)) (sym (m.pens k h) ∙ (still-true g.alive pen k s).1)

  spared-word : d ≤ t → (k : ℕ) → k < n → spared k ≡ true → τ k (t - d) ≡ τ v (t - d)
  spared-word q k h s =
      same-word (fits k h (t - d) (omega arith)) (fits v c.v-in (t - d) (omega arith))
      (ap (λ (z : ℤ). same_word (τ k (t - d)) z) (sym (m.late q v c.v-in)) ∙ spared-same q k h s)

  -- ---- so they agree in what is settled
  agree' : (j k : ℕ) → j < n → k < n → alive' j ≡ true → alive' k ≡ true → (h : ℕ) → h < e' → τ' j h ≡ τ' k h
  agree' j k hj hk aj ak h p = go l
    where
      sj : (source sw to by j < n) × (spared (source sw to by j) ≡ true)
      sj = source-spared j hj aj

      sk : (source sw to by k < n) × (spared (source sw to by k) ≡ true)
      sk = source-spared k hk ak

      -- as their sources do
      both : (h : ℕ) → h < t → τ (source sw to by j) h ≡ τ (source sw to by k) h → τ' j h ≡ τ' k h
      both h z w = goes j hj h z ∙ w ∙ sym (goes k hk h z)

      old : h < e → τ' j h ≡ τ' k h
      old q =
          both h (omega (arith, g.settled))
          (g.agree (source sw to by j) (source sw to by k) sj.0 sk.0 (was-alive (source sw to by j) sj.1) (was-alive (source sw to by k) sk.1) h q)

      go : Leaves d t e e' → τ' j h ≡ τ' k h
      go (inl q) =
          let s = q.1 in
          one_more (λ i. (i < e → τ' j i ≡ τ' k i) → τ' j i ≡ τ' k i) h e (omega (arith, q.0))
          (λ z o. o z)
          (λ o.
          rw (← s.1)
          (both (t - d) (omega (arith, s.0))
          (spared-word s.0 (source sw to by j) sj.0 sj.1 ∙ sym (spared-word s.0 (source sw to by k) sk.0 sk.1))))
          old
      go (inr q) = old (omega (arith, q.0))

  -- ---- a sample at which one is dead: the run goes on
  heir-goes : (P : List (ℕ → ℤ)) → ((k : ℕ) → k < n → spared k ≡ true → Heir g.x (τ k) P) → (k : ℕ) → k < n → alive' k ≡ true → Heir g.x (τ' k) P
  heir-goes P f k h q =
      let s = source-spared k h q in
      heir-same g.x (τ (source sw to by k)) (τ' k) P (λ i z. goes k h i (omega (arith, g.began))) (f (source sw to by k) s.0 s.1)

  module _ (k0 : ℕ) (k0-in : k0 < n) (k0-dead : spared k0 ≡ false) where
    -- one dead less, after the replacement
    one-goes : suc (out_of alive' n) ≤ out_of spared n
    unfolding alive' spared
    one-goes =
        let s = dead-swaps enough g.costing c (run-9 g) n4 k0 k0-in k0-dead in
        one_less (still g.alive pen) (next sw to (still g.alive pen)) n to c.to_in (dead_goes enough g.costing c (run-9 g) n4 k0 k0-in k0-dead)
        (from-source (λ i y. y ≡ true) (still g.alive pen) sw to by to (λ r z. refl) (λ z. absurd (z s refl)))
        (λ i r z. from-source (λ o y. y ≡ still g.alive pen i) (still g.alive pen) sw to by i (λ y w. absurd (z w)) (λ w. refl))

    living-dead : (P : List (ℕ → ℤ)) → ((k : ℕ) → k < n → spared k ≡ true → Heir g.x (τ k) P)
        → suc g.ρ + out_of alive' n + 3 * length P ≤ 12 → g.φ + suc g.ρ + out_of alive' n + 3 * length P ≤ 16 → After
    unfolding alive' spared
    living-dead P f s r =
        record {
          living =
              record {
                ρ = suc g.ρ;
                φ = g.φ;
                w = v;
                x = g.x;
                alive = next sw to (still g.alive pen);
                pasts = P;
                costing = costing-dead enough g.costing c (run-9 g) n4 k0 k0-in k0-dead;
                began = omega (arith, g.began);
                short = s;
                fines = r;
                heirs = heir-goes P f;
                few = g.few;
                settled = leaves-most l g.settled;
                agree = agree';
              };
          alive-is = λ k. refl;
        }

    -- none dies at it: the run is one longer, but one dead less
    living-quiet : ((k : ℕ) → k < n → g.alive k ≡ true → pen k ≡ false) → After
    unfolding spared
    living-quiet f =
        let y = fewer (still g.alive pen) g.alive n free in
        living-dead g.pasts (λ k h q. g.heirs k h (was-alive k q)) (omega (arith, one-goes, g.short)) (omega (arith, one-goes, g.fines))
      where
        free : (k : ℕ) → k < n → still g.alive pen k ≡ false → g.alive k ≡ false
        free k h q =
            cases (g.alive k) (λ z. not-both (still g.alive pen k) (ap (λ (y : Bool). either y false (g.alive k)) (f k h z) ∙ z) q) (λ z. z)

    -- one dies: it differs at the delay, which lies before the run began, so its past dies out; at most two are dead afterwards
    living-event : (k : ℕ) → k < n → g.alive k ≡ true → pen k ≡ true → After
    unfolding spared
    living-event k h q r =
        let P = culled (t - d) (mark v) g.pasts in
        let s : same_word (mark k) (mark v) ≡ false = not-true (same_word (mark k) (mark v)) (sym (m.pens k h) ∙ r) in
        let dt : d ≤ t =
        cases (ltb t d) (λ z. not-both (same_word (mark k) (mark v)) (word_same (m.early (ltb-true t d z) k h)) s) (λ z. ltb-false t d z) in
        let near : t - d < g.x = omega (arith, g.began, run-9 g) in
        let less =
        culled-less g.x (t - d) (mark v) (τ k) g.pasts near (ap (λ (z : ℤ). same_word z (mark v)) (sym (m.late dt k h)) ∙ s) (g.heirs k h q) in
        let y = some_left (still g.alive pen) n v c.v-in (v-still enough g.costing c (run-9 g) n4) in
        living-dead P (λ i o p. culled-heir g.x (t - d) (mark v) (τ i) g.pasts near (spared-same dt i o p) (g.heirs i o (was-alive i p)))
        (omega (arith, one-goes, g.short)) (omega (arith, one-goes, g.fines))

  -- ---- a sample at which all live: the run is over, and the pasts are the paths' own, at most four
  living-free : ((k : ℕ) → k < n → spared k ≡ true) → After
  unfolding alive' spared
  living-free f =
      let z : out_of (next sw to (still g.alive pen)) n ≡ 0 =
      all-alive (next sw to (still g.alive pen)) n
      (λ k h. from-source (λ i y. y ≡ true) (still g.alive pen) sw to by k (λ r z. refl) (λ z. f k h)) in
      let y = all-long τ' n in
      record {
        living =
            record {
              ρ = 0;
              φ = 0;
              w = v;
              x = suc t;
              alive = next sw to (still g.alive pen);
              pasts = all-pasts τ' n;
              costing = costing-free enough g.costing c (run-9 g) n4 f;
              began = omega arith;
              short = omega arith;
              fines = omega arith;
              heirs = λ k h q. all-heirs (suc t) τ' n k h;
              few = omega arith;
              settled = leaves-most l g.settled;
              agree = agree';
            };
        alive-is = λ k. refl;
      }

  -- ---- so every sample keeps it
  pub living-next : After
  living-next =
      none-or-one spared n
      (λ k0.
      none-or-one unhurt n
      (λ k. let z = hurt-is (g.alive k.k) (pen k.k) k.dead in living-event k0.k k0.in-n k0.dead k.k k.in-n z.0 z.1)
      (λ f. living-quiet k0.k k0.in-n k0.dead (λ k h o. unhurt-is (g.alive k) (pen k) (f k h) o)))
      living-free
    where
      -- not both alive and fined
      unhurt : ℕ → Bool
      unhurt k = either (g.alive k) (not (pen k)) true

      hurt-is : (a p : Bool) → either a (not p) true ≡ false → (a ≡ true) × (p ≡ true)
      hurt-is true true o = (refl, refl)
      hurt-is true false o = not-both true refl o
      hurt-is false p o = not-both true refl o

      unhurt-is : (a p : Bool) → either a (not p) true ≡ true → a ≡ true → p ≡ false
      unhurt-is true p o l = not-true p o
      unhurt-is false p o l = not-both false l refl
