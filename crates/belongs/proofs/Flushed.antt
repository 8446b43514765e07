-- The living and the dead where no sample is coded: at the start all live; at a flush the cheapest path lives, and in the middle of a frame it is the only
-- one that does, since all others are fined. For any penalty F of at least `least_penalty`. Assumes nothing.
use Prim.Native.Nat.{ℕ, suc, ◌+◌, ◌*◌, ◌<◌, ◌≤◌}
use native.Mathlib.Omega.{arith}
use native.Mathlib.Nat.{suc-mul}
use mathlib.Core.Path.{◌≡◌, refl, sym, ap, ◌∙◌}
use mathlib.Core.Logic.{◌≢◌}
use mathlib.Core.Bool.{Bool, true, false}
use mathlib.Core.List.{[], ◌∷◌}
use lib.Dec.{eqb}
use borrow.Author.Tests.{eqb-true, eq-eqb}
use lib.IntN.{ℤ}
use Rattle.fixed.specs.Iter.{either}
use Rattle.fixed.proofs.Iters.{cases, not-both}
use Rattle.belongs.specs.Costs.{range, least_penalty, out_of}
use Rattle.belongs.proofs.Dead.{all-alive, some_left}
use Rattle.belongs.proofs.Pasts.{Heir, heir-one, all-pasts, all-long, all-heirs}
use Rattle.belongs.proofs.Living.{Living, run-9}

-- ---- the start: nothing is settled, and nothing costs anything
pub living-start : (F n : ℕ) → 0 < n → n ≤ 4 → (τ : ℕ → ℕ → ℤ) → Living F n 0 0 0 (λ k. 0) τ
living-start F n h n4 τ =
    let z : out_of (λ k. true) n ≡ 0 = all-alive (λ k. true) n (λ k q. refl) in
    let y = all-long τ n in
    record {
      ρ = 0;
      φ = 0;
      w = 0;
      x = 0;
      alive = λ k. true;
      pasts = all-pasts τ n;
      costing =
          record {
            in-n = h;
            lives = refl;
            least = λ k q. omega arith;
            three = λ i j k a1 a2 a3 p q r e1 e2 e3. omega arith;
            two = λ j k a1 a2 p e1 e2. omega arith;
            one = λ k q e. omega arith;
            dear = λ k q e. not-both true refl e;
            small = λ k q e. omega arith;
            large = λ k q. omega arith;
          };
      began = omega arith;
      short = omega arith;
      fines = omega arith;
      heirs = λ k q e. all-heirs 0 τ n k q;
      few = omega arith;
      settled = omega arith;
      agree = λ j k a1 a2 e1 e2 i q. absurd (omega arith);
    }

-- ---- the flushes: the cheapest lives, since the dead are dear
pub best-lives : {F n t e ψ : ℕ} {u : ℕ → ℕ} {τ : ℕ → ℕ → ℤ} → least_penalty ≤ F → (g : Living F n t e ψ u τ) (b : ℕ) → b < n
    → ((k : ℕ) → k < n → u b ≤ u k) → g.alive b ≡ true
best-lives enough g b h f =
    cases (g.alive b) (λ z. z) (λ z. absurd (omega (arith, g.costing.dear b h z, f g.w g.costing.in-n, run-9 g)))

-- the costs after the flush in the middle
unfoldable pub fined_but : ℕ → (ℕ → ℕ) → ℕ → ℕ → ℕ
fined_but F u b k = either (eqb k b) (u k) (u k + F)

module _ {F n t e : ℕ} {u : ℕ → ℕ} {τ : ℕ → ℕ → ℤ} (enough : least_penalty ≤ F) (g : Living F n t e 0 u τ) (n4 : n ≤ 4)
    (b : ℕ) (b-in : b < n) (best : (k : ℕ) → k < n → u b ≤ u k) where
  spared : (k : ℕ) → eqb k b ≡ true → fined_but F u b k ≡ u b
  unfolding fined_but
  spared k q = ap (λ (z : Bool). either z (u k) (u k + F)) q ∙ ap u (eqb-true k b q)

  fined : (k : ℕ) → eqb k b ≡ false → fined_but F u b k ≡ u k + F
  unfolding fined_but
  fined k q = ap (λ (z : Bool). either z (u k) (u k + F)) q

  itself : fined_but F u b b ≡ u b
  itself = spared b (eq-eqb b b refl)

  none-else : (j k : ℕ) → j ≢ k → eqb j b ≡ true → eqb k b ≡ true → ⊥
  none-else j k p q r = p (eqb-true j b q ∙ sym (eqb-true k b r))

  -- one fine more for each
  large-flushed : (k : ℕ) → k < n → fined_but F u b k ≤ t * range + (suc (g.φ + g.ρ) + 0) * F
  large-flushed k h =
      let z : suc (g.φ + g.ρ) + 0 ≡ suc (g.φ + g.ρ) = omega arith in
      rw (z, suc-mul (g.φ + g.ρ) F)
      (cases (eqb k b) (λ q. omega (arith, spared k q, g.costing.large b b-in)) (λ q. omega (arith, fined k q, g.costing.large k h)))

  -- all is settled, only the cheapest lives, and its past is the only one
  pub living-flushed : Living F n t t 10 (fined_but F u b) τ
  living-flushed =
      let z : fined_but F u b b ≡ u b = itself in
      let m = some_left (λ k. eqb k b) n b b-in (eq-eqb b b refl) in
      record {
        ρ = 0;
        φ = suc (g.φ + g.ρ);
        w = b;
        x = t;
        alive = λ k. eqb k b;
        pasts = τ b ∷ [];
        costing =
            record {
              in-n = b-in;
              lives = eq-eqb b b refl;
              least = λ k h. cases (eqb k b) (λ q. omega (arith, spared k q)) (λ q. omega (arith, fined k q, best k h));
              three = λ i j k a1 a2 a3 p q r e1 e2 e3. absurd (none-else i j p e1 e2);
              two = λ j k a1 a2 p e1 e2. absurd (none-else j k p e1 e2);
              one = λ k h q. omega (arith, spared k q);
              dear = λ k h q. omega (arith, fined k q, best k h);
              small = λ k h q. omega (arith, spared k q, g.costing.small b b-in (best-lives enough g b b-in best));
              large = large-flushed;
            };
        began = omega arith;
        short = omega arith;
        fines = omega (arith, g.few, run-9 g);
        heirs = λ k h q. one-heir k (eqb-true k b q);
        few = omega (arith, g.few, run-9 g);
        settled = omega arith;
        agree = λ j k a1 a2 e1 e2 h q. ap (λ (i : ℕ). τ i h) (eqb-true j b e1 ∙ sym (eqb-true k b e2));
      }
    where
      one-heir : (k : ℕ) → k ≡ b → Heir t (τ k) (τ b ∷ [])
      one-heir k q = heir-one t (τ k) (τ b) (λ i z. ap (λ (o : ℕ). τ o i) q)

  pub flushed-alive : (k : ℕ) → living-flushed.alive k ≡ eqb k b
  unfolding living-flushed
  flushed-alive k = refl
