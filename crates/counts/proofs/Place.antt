-- Where a subframe stands in its frame: after the flush in the middle, at the start, or later; and how far two frames agree there. Assumes nothing.
use Prim.Native.Nat.{ℕ, ◌+◌, ◌-◌, ◌*◌, ◌<◌, ◌≤◌}
use native.Mathlib.Omega.{arith}
use native.Mathlib.Nat.{mul-le-mul_right}
use mathlib.Core.Path.{◌≡◌, refl, ap}
use mathlib.Core.Bool.{Bool, true, false, ◌&&◌}
use mathlib.Core.List.{List}
use lib.IntN.{ℤ}
use lib.Dec.{eqb, leb}
use borrow.Author.Tests.{eqb-true, eqb-false, ne_eqb, leb-true}
use Rattle.fixed.specs.Iter.{either}
use Rattle.steps.specs.declared.structs.Given.{Given}
use Rattle.steps.specs.Call.{lag_by, twice_by, second_by, rewhites_by, since_by, fix_by, Sound}
use Rattle.counts.proofs.Subframe.{bound, Behind}
use Rattle.counts.proofs.Before.{Stands}

-- again: flushed before it; first: output held back; rew: rewhitened
pub data Place (again first rew : Bool) (k : ℕ) : Type 0 where
  mid : again ≡ true → first ≡ true → k ≡ 2 → Place again first rew k
  start : again ≡ false → first ≡ true → k ≡ 0 → Place again first rew k
  later : again ≡ false → first ≡ false → rew ≡ false → 0 < k → Place again first rew k

-- by whether the frame is voiced and interpolated
abbrev PlaceOf : Bool → Bool → ℕ → Type 0
PlaceOf v q k =
    Place ((v && q) && eqb k 2) (eqb (either ((v && q) && leb 2 k) (k - 2) k) 0) (either (eqb k 0) v ((v && q) && eqb k 2)) k

place-0 : (v q : Bool) → PlaceOf v q 0
place-0 true true = start refl refl refl
place-0 true false = start refl refl refl
place-0 false true = start refl refl refl
place-0 false false = start refl refl refl

place-2 : (v q : Bool) → PlaceOf v q 2
place-2 true true = mid refl refl refl
place-2 true false = later refl refl refl (omega arith)
place-2 false true = later refl refl refl (omega arith)
place-2 false false = later refl refl refl (omega arith)

place-more : (v q : Bool) (k : ℕ) → (k ≡ 0 → ⊥) → (k ≡ 2 → ⊥) → PlaceOf v q k
place-more true true k z t = rw (ne_eqb k 2 t, ne_eqb k 0 z) (later refl (go (leb 2 k) refl) refl (omega arith))
  where
    go : (b : Bool) → leb 2 k ≡ b → eqb (either b (k - 2) k) 0 ≡ false
    go true e = let w = leb-true 2 k e in ne_eqb (k - 2) 0 (λ x. omega arith)
    go false e = ne_eqb _ _ z
place-more true false k z t = rw (ne_eqb k 0 z) (later refl refl refl (omega arith))
place-more false true k z t = rw (ne_eqb k 0 z) (later refl refl refl (omega arith))
place-more false false k z t = rw (ne_eqb k 0 z) (later refl refl refl (omega arith))

place_of : (v q : Bool) (k : ℕ) → PlaceOf v q k
place_of v q k = go (eqb k 0) (eqb k 2) refl refl
  where
    go : (a b : Bool) → eqb k 0 ≡ a → eqb k 2 ≡ b → PlaceOf v q k
    go true b e f = rw (eqb-true k 0 e) (place-0 v q)
    go false true e f = rw (eqb-true k 2 f) (place-2 v q)
    go false false e f = place-more v q k (eqb-false k 0 e) (eqb-false k 2 f)

pub place : (g : Given) (k : ℕ) → Place (second_by g k) (eqb (since_by g k) 0) (rewhites_by g k) k
unfolding second_by twice_by since_by rewhites_by
place g k = place_of g.voiced g.interpolated k

-- ---- the bounds there, l the subframe length and d the delay
record At (again rew first : Bool) (k l d : ℕ) : Type 0 where
  flush0 : again ≡ true → k * l - d ≡ 2 * l - d
  flush1 : again ≡ true → bound first (k * l) d 0 ≡ 2 * l
  stays : again ≡ false → k * l - d ≡ bound first (k * l) d 0
  white : rew ≡ true → bound first (k * l) d 0 ≡ k * l
  late : first ≡ false → d ≤ k * l

at : (again first rew : Bool) (k l d : ℕ) → d ≤ l → Place again first rew k → At again rew first k l d
at again first rew k l d h (mid s f z) =
    let m : k * l ≡ 2 * l = ap (λ (i : ℕ). i * l) z in
    record {
      flush0 = λ e. omega arith;
      flush1 = λ e. rw f (omega arith);
      stays = λ e. absurd (let w : ◌≡◌ {A = ℕ} 0 1 = cc in omega arith);
      white = λ e. rw f (omega arith);
      late = λ e. absurd (let w : ◌≡◌ {A = ℕ} 0 1 = cc in omega arith);
    }
at again first rew k l d h (start s f z) =
    let m : k * l ≡ 0 * l = ap (λ (i : ℕ). i * l) z in
    record {
      flush0 = λ e. absurd (let w : ◌≡◌ {A = ℕ} 0 1 = cc in omega arith);
      flush1 = λ e. absurd (let w : ◌≡◌ {A = ℕ} 0 1 = cc in omega arith);
      stays = λ e. rw f (omega arith);
      white = λ e. rw f (omega arith);
      late = λ e. absurd (let w : ◌≡◌ {A = ℕ} 0 1 = cc in omega arith);
    }
at again first rew k l d h (later s f r z) =
    record {
      flush0 = λ e. absurd (let w : ◌≡◌ {A = ℕ} 0 1 = cc in omega arith);
      flush1 = λ e. absurd (let w : ◌≡◌ {A = ℕ} 0 1 = cc in omega arith);
      stays = λ e. rw f (omega arith);
      white = λ e. absurd (let w : ◌≡◌ {A = ℕ} 0 1 = cc in omega arith);
      late = λ e. omega (arith, mul-le-mul_right l z);
    }

-- before its samples
pub stands : (g : Given) (lags lf gains : List ℤ) (k : ℕ) → g.delay ≤ g.subfr_length
    → Stands (second_by g k) (rewhites_by g k) (fix_by g lags lf gains k) (k * g.subfr_length - g.delay) (bound (eqb (since_by g k) 0) (k * g.subfr_length) g.delay 0)
unfolding fix_by
stands g lags lf gains k h =
    let a = at (second_by g k) (eqb (since_by g k) 0) (rewhites_by g k) k g.subfr_length g.delay h (place g k) in
    record { short = omega arith; flush0 = a.flush0; flush1 = a.flush1; stays = a.stays; white = a.white }

-- the delay is behind each of its reads
pub behind : (g : Given) (lags lf gains : List ℤ) (k : ℕ) → Sound g lags → (0 < lag_by g lags k → g.delay + 3 ≤ lag_by g lags k) → Behind (fix_by g lags lf gains k)
unfolding fix_by
behind g lags lf gains k s e =
    let a = at (second_by g k) (eqb (since_by g k) 0) (rewhites_by g k) k g.subfr_length g.delay s.delay_short (place g k) in
    record { lag = e; late = a.late; some = omega (arith, s.long) }

-- after its samples
pub ends : (first : Bool) (base d l : ℕ) → d ≤ l → bound first base d l ≡ base + l - d
ends true base d l h = omega arith
ends false base d l h = refl
