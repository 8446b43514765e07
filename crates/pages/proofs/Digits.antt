-- The decimal digits of a number. Assumes nothing.
use mathlib.Core.Path.{◌≡◌, sym, ap, ◌∙◌}
use mathlib.Core.List.{List, [], ◌∷◌, ◌++◌, append_assoc, append-nil}
use Prim.Native.Nat.{ℕ, zero, suc, ◌+◌, ◌-◌, ◌/◌, ◌%◌, ◌^◌, ◌≤◌, ◌<◌}
use native.Mathlib.Omega.{arith}
use native.Mathlib.Decide.{dec_lt}
use native.Mathlib.Numerals.{add-one}
use native.Mathlib.Nat.{pow-suc, div-lt_iff_lt-mul}
use borrow.Author.Tests.{lt-ltb, le-ltb}
use lib.Dec.{lit<}
use lib.ListN.{length, drop, set, length-set, drop_of_length-le}
use lib.Seq.{drop-cons, drop-set-lt, get_or-set_same}
use Rattle.pages.specs.Decimal.{digits_up_to, digits}

pub up_one : (f n : ℕ) → n < 10 → digits_up_to (suc f) n ≡ (48 + n) ∷ []
unfolding digits_up_to
up_one f n h = rw (lt-ltb n 10 h)

pub up_more : (f n : ℕ) → 10 ≤ n → digits_up_to (suc f) n ≡ digits_up_to f (n / 10) ++ ((48 + n % 10) ∷ [])
unfolding digits_up_to
up_more f n h = rw (le-ltb n 10 h)

more_of : (f g n : ℕ) → Dec (n < 10) → (10 ≤ n → digits_up_to f (n / 10) ≡ digits_up_to g (n / 10)) → digits_up_to (suc f) n ≡ digits_up_to (suc g) n
more_of f g n (yes l) e = up_one f n l ∙ sym (up_one g n l)
more_of f g n (no l) e =
    let m : 10 ≤ n = omega arith in
    up_more f n m ∙ ap (λ (s : List ℕ). s ++ ((48 + n % 10) ∷ [])) (e m) ∙ sym (up_more g n m)

-- any number of places that is enough gives the same digits
enough : (f g n : ℕ) → n < f → n < g → digits_up_to f n ≡ digits_up_to g n
enough zero g n h k = absurd (omega arith)
enough (suc f) zero n h k = absurd (omega arith)
enough (suc f) (suc g) n h k = more_of f g n (dec_lt n 10) (λ m. enough f g (n / 10) (omega arith) (omega arith))

pub digits-one : (n : ℕ) → n < 10 → digits n ≡ (48 + n) ∷ []
unfolding digits
digits-one n h = up_one n n h

pub digits_more : (n : ℕ) → 10 ≤ n → digits n ≡ digits (n / 10) ++ ((48 + n % 10) ∷ [])
unfolding digits
digits_more n h = up_more n n h ∙ ap (λ (s : List ℕ). s ++ ((48 + n % 10) ∷ [])) (enough n (suc (n / 10)) (n / 10) (omega arith) (omega arith))

-- ---- the loop that makes them from the last to the first
drop-at-set : (ds : List ℕ) (at d : ℕ) → at < length ds → drop at (set ds at d) ≡ d ∷ drop (at + 1) ds
drop-at-set ds at d h =
    drop-cons (set ds at d) at 0 (rw (length-set ds at d) h)
    ∙ ap (λ (x : ℕ). x ∷ drop (suc at) (set ds at d)) (get_or-set_same ds at d 0 h)
    ∙ ap (λ (s : List ℕ). d ∷ s) (drop-set-lt (suc at) ds at d (omega arith) ∙ ap (λ (k : ℕ). drop k ds) (sym (add-one at)))

pub at_some : (at left : ℕ) → 10 ≤ left → left < 10 ^ (at + 1) → 1 ≤ at
at_some zero left h k = absurd (omega arith)
at_some (suc at) left h k = omega arith

-- a number of at + 1 digits has at of them before its last
pub tenth : (at left : ℕ) → left < 10 ^ (at + 1) → left / 10 < 10 ^ at
tenth at left k = (div-lt_iff_lt-mul (lit< tt)).1 (rw (add-one at, pow-suc 10 at) at k)

pub digits_step : (n left at : ℕ) (ds : List ℕ) → at < length ds → 10 ≤ left → left < 10 ^ (at + 1) → digits n ≡ digits left ++ drop (at + 1) ds
    → (left / 10 < 10 ^ (at - 1 + 1)) × (digits n ≡ digits (left / 10) ++ drop (at - 1 + 1) (set ds at (48 + left % 10)))
digits_step n left at ds l h k e =
    let s = at_some at left h k in
    let f : at - 1 + 1 ≡ at = omega arith in
    rw f (
      tenth at left k,
      e ∙ ap (λ (x : List ℕ). x ++ drop (at + 1) ds) (digits_more left h)
          ∙ append_assoc (digits (left / 10)) ((48 + left % 10) ∷ []) (drop (at + 1) ds)
          ∙ ap (λ (x : List ℕ). digits (left / 10) ++ x) (sym (drop-at-set ds at (48 + left % 10) l)),
    )

pub digits-end : (n left at : ℕ) (ds : List ℕ) → at < length ds → left < 10 → digits n ≡ digits left ++ drop (at + 1) ds → digits n ≡ drop at (set ds at (48 + left))
digits-end n left at ds l h e =
    e ∙ ap (λ (x : List ℕ). x ++ drop (at + 1) ds) (digits-one left h) ∙ sym (drop-at-set ds at (48 + left) l)

-- at first all places are free
pub digits-start : (n at : ℕ) (ds : List ℕ) → length ds ≡ at + 1 → digits n ≡ digits n ++ drop (at + 1) ds
digits-start n at ds e = rw (drop_of_length-le ds {i = at + 1} (omega arith)) (sym (append-nil (digits n)))
