-- The tests of `cleaned` say what the conditions of `Agree` say: a place counts exactly when that asks for it. Assumes nothing.
use Prim.Native.Nat.{ℕ, suc, ◌+◌, ◌-◌, ◌*◌, ◌/◌, ◌%◌, ◌<◌, ◌≤◌}
use native.Mathlib.Omega.{arith}
use native.Mathlib.Nat.{mod-le, div-add-mod', mul-add-mod_self_right}
use mathlib.Core.Path.{◌≡◌, refl}
use mathlib.Core.Bool.{Bool, true, false, not, ◌&&◌, or-true}
use mathlib.Core.Logic.{◌⊎◌, inl, inr}
use lib.IntN.{ℤ}
use lib.Dec.{leb, ltb}
use borrow.Author.Tests.{ltb-true, lt-ltb, leb-true, le-leb, eqb-true, eq-eqb, not-true}
use Rattle.silk.specs.declared.structs.Settings.{Settings}
use Rattle.limits.specs.Count.{nat_z}
use Rattle.limits.proofs.Laws.{or_elim}
use Rattle.counts.specs.Conditions.{voiced, one_row, row_zero_only, no_lag}
use Rattle.counts.proofs.Conditions.{not-both, and-elim}
use Rattle.cleaning.specs.Cleaned.{row0_counts, row1_counts, pred_counts, ar_counts, ltp_counts, lag_counts, harm_counts}

-- a test that doesn't hold fails
pub fails : (b : Bool) → (b ≡ true → ⊥) → b ≡ false
fails true n = absurd (n refl)
fails false n = refl

-- ---- PredCoef
pub pred0-counts : (s : Settings) (j : ℕ) → (one_row s ≡ true → ⊥) → j < nat_z s.predictLPCOrder → pred_counts s j ≡ true
unfolding pred_counts row0_counts row1_counts
pred0-counts s j v h = rw (fails (one_row s) v, lt-ltb j (nat_z s.predictLPCOrder) h) refl

pub pred1-counts : (s : Settings) (j : ℕ) → (row_zero_only s ≡ true → ⊥) → j < nat_z s.predictLPCOrder → pred_counts s (16 + j) ≡ true
unfolding pred_counts row0_counts row1_counts
pred1-counts s j v h =
    rw (
      fails (row_zero_only s) v,
      le-leb 16 (16 + j) (omega arith),
      (let e : 16 + j - 16 ≡ j = omega arith in e),
      lt-ltb j (nat_z s.predictLPCOrder) h,
    )
    (or-true (not (one_row s) && ltb (16 + j) (nat_z s.predictLPCOrder)))

-- a slot of row 0, or one of row 1
pub record InRow0 (s : Settings) (j : ℕ) : Type 0 where
  pub reached : one_row s ≡ true → ⊥
  pub below : j < nat_z s.predictLPCOrder

pub record InRow1 (s : Settings) (j : ℕ) : Type 0 where
  pub reached : row_zero_only s ≡ true → ⊥
  pub from : 16 + (j - 16) ≡ j
  pub below : j - 16 < nat_z s.predictLPCOrder

row0-why : (s : Settings) (j : ℕ) → row0_counts s j ≡ true → InRow0 s j
unfolding row0_counts
row0-why s j e =
    let h = and-elim (not (one_row s)) (ltb j (nat_z s.predictLPCOrder)) e in
    record { reached = not-both (not-true _ h.0); below = ltb-true j (nat_z s.predictLPCOrder) h.1 }

row1-why : (s : Settings) (j : ℕ) → row1_counts s j ≡ true → InRow1 s j
unfolding row1_counts
row1-why s j e =
    let h = and-elim (not (row_zero_only s)) (leb 16 j && ltb (j - 16) (nat_z s.predictLPCOrder)) e in
    let k = and-elim (leb 16 j) (ltb (j - 16) (nat_z s.predictLPCOrder)) h.1 in
    let l : 16 ≤ j = leb-true 16 j k.0 in
    record {
      reached = not-both (not-true _ h.0);
      from = omega arith;
      below = ltb-true (j - 16) (nat_z s.predictLPCOrder) k.1;
    }

pub pred-why : (s : Settings) (j : ℕ) → pred_counts s j ≡ true → InRow0 s j ⊎ InRow1 s j
unfolding pred_counts
pred-why s j e = or_elim (λ h. inl (row0-why s j h)) (λ h. inr (row1-why s j h)) e

-- ---- AR
pub ar-counts : (s : Settings) (k j : ℕ) → j < nat_z s.shapingLPCOrder → ar_counts s (k * 24 + j) ≡ true
unfolding ar_counts
ar-counts s k j h =
    rw (mul-add-mod_self_right k 24 j) (lt-ltb (j % 24) (nat_z s.shapingLPCOrder) (let m = mod-le j 24 in omega arith))

-- slot j of subframe k
pub record InSubframe (s : Settings) (n i : ℕ) : Type 0 where
  pub k : ℕ
  pub j : ℕ
  pub at : k * 24 + j ≡ i
  pub among : k < n
  pub below : j < nat_z s.shapingLPCOrder

pub ar-why : (s : Settings) (n i : ℕ) → i < 24 * n → ar_counts s i ≡ true → InSubframe s n i
unfolding ar_counts
ar-why s n i h e =
    record {
      k = i / 24;
      j = i % 24;
      at = div-add-mod' i 24;
      among = let d = div-add-mod' i 24 in omega arith;
      below = ltb-true (i % 24) (nat_z s.shapingLPCOrder) e;
    }

-- ---- LTPCoef, and lags
pub ltp-counts : (s : Settings) (j : ℕ) → voiced s ≡ true → ltp_counts s j ≡ true
unfolding ltp_counts
ltp-counts s j v = v

pub ltp-why : (s : Settings) (j : ℕ) → ltp_counts s j ≡ true → voiced s ≡ true
unfolding ltp_counts
ltp-why s j e = e

pub lag-counts : (s : Settings) (m j : ℕ) → voiced s ≡ true → lag_counts s m j ≡ true
unfolding lag_counts
lag-counts s m j v = rw v refl

pub last-counts : (s : Settings) (m j : ℕ) → suc j ≡ m → lag_counts s m j ≡ true
unfolding lag_counts
last-counts s m j e = rw (eq-eqb (suc j) m e) (or-true (voiced s))

pub lag-why : (s : Settings) (m j : ℕ) → lag_counts s m j ≡ true → (voiced s ≡ true) ⊎ (suc j ≡ m)
unfolding lag_counts
lag-why s m j e = or_elim (λ v. inl v) (λ l. inr (eqb-true (suc j) m l)) e

-- ---- harmonic gains
pub harm-counts : (s : Settings) (lagPrev : ℤ) (j : ℕ) → (no_lag s lagPrev ≡ true → ⊥) → harm_counts s lagPrev j ≡ true
unfolding harm_counts
harm-counts s lagPrev j v = rw (fails (no_lag s lagPrev) v) refl

pub harm-why : (s : Settings) (lagPrev : ℤ) (j : ℕ) → harm_counts s lagPrev j ≡ true → no_lag s lagPrev ≡ true → ⊥
unfolding harm_counts
harm-why s lagPrev j e = not-both (not-true _ e)
