-- A cleaned sheet has as many sections and numbers as before, and each number within its type. Assumes nothing.
use Prim.Native.Nat.{ℕ, zero, suc, ◌^◌, ◌<◌, ◌≤◌}
use native.Mathlib.Omega.{arith}
use mathlib.Core.Path.{◌≡◌, refl, sym, ap, subst}
use mathlib.Core.Bool.{Bool, true, false}
use mathlib.Core.List.{List, [], ◌∷◌}
use lib.ListN.{length, get_or}
use lib.IntN.{ℤ, pos, negsuc}
use borrow.Author.Tests.{le-ltb, ltb-false}
use mir.Syntax.{w16}
use mir.Val.{SFits}
use Rattle.fixed.specs.Wrap.{wrap16}
use Rattle.fixed.proofs.Wraps.{wrap16-fits}
use Rattle.silk.specs.State.{fresh_state}
use Rattle.settings_row.specs.Named.{settings_of}
use Rattle.sheet_words.specs.Number.{Range}
use Rattle.sheet_form.specs.Sections.{Kind, layout, settings, row, i16, i32}
use Rattle.sheet_print.specs.Rows.{settings_row}
use Rattle.sheet_print.proofs.RoundTrip.{Inside, AllInside, Allowed, Allowing}
use Rattle.sheet_print.proofs.RoundTrip as trip
use Rattle.counts.specs.Conditions.{voiced}
use Rattle.cleaning.specs.Cleaned.{placed, kept_if, kept_at, low_row, pred_counts, ar_counts, ltp_counts, lag_counts, harm_counts, cleaned_settings, cleaned}
use Rattle.cleaning.specs.Changes.{SameShape}
use Rattle.cleaning.proofs.Places.{kept-long, low-long}
use Rattle.sheet_page.specs.Calls.{sheet_call}
use Rattle.clean_page.specs.Sheets.{sections_of, cleaned_rows}

-- ---- one number
zero16 : Inside i16 (pos 0)
zero16 = record { not-below = refl; not-above = refl }

zero32 : Inside i32 (pos 0)
zero32 = record { not-below = refl; not-above = refl }

half-inside : (z : ℤ) → SFits w16 z → Inside i32 z
half-inside (pos n) f = record { not-below = refl; not-above = le-ltb 2147483647 n (let h : n < 2 ^ 15 = f.sfits in omega arith) }
half-inside (negsuc n) f = record { not-below = le-ltb 2147483647 n (let h : n < 2 ^ 15 = f.sfits in omega arith); not-above = refl }

low-inside : (z : ℤ) → Inside i32 (wrap16 z)
low-inside z = half-inside (wrap16 z) (wrap16-fits z)

kept-inside : (r : Range) (b : Bool) (z : ℤ) → Inside r (pos 0) → Inside r z → Inside r (kept_if b z)
unfolding kept_if
kept-inside r true z o i = i
kept-inside r false z o i = o

-- ---- a row
at-inside : (r : Range) (l : List ℤ) (i : ℕ) → Inside r (pos 0) → AllInside r l → Inside r (get_or l i (pos 0))
at-inside r [] i o trip.none = o
at-inside r (z ∷ l) zero o (trip.more i a) = i
at-inside r (z ∷ l) (suc k) o (trip.more i a) = at-inside r l k o a

placed-inside : (r : Range) (f : ℕ → ℤ → ℤ) (k : ℕ) (l : List ℤ) → ((i : ℕ) (z : ℤ) → Inside r z → Inside r (f i z)) → AllInside r l → AllInside r (placed f k l)
unfolding placed
placed-inside r f k [] h trip.none = trip.none
placed-inside r f k (z ∷ l) h (trip.more i a) = trip.more (h k z i) (placed-inside r f (suc k) l h a)

kept_row : (w : Range) (counts : ℕ → Bool) (l : List ℤ) → Inside w (pos 0) → Allowed (row w) l → Allowed (row w) (kept_at counts l)
unfolding kept_at
kept_row w counts l o a =
    record {
      count = subst (λ (n : ℕ). Inside (row w).counts (pos n)) (sym (kept-long counts l)) a.count;
      numbers = placed-inside w (λ i z. kept_if (counts i) z) 0 l (λ i z h. kept-inside w (counts i) z o h) a.numbers;
    }

low-row : (l : List ℤ) → Allowed (row i32) l → Allowed (row i32) (low_row l)
unfolding low_row
low-row l a =
    record {
      count = subst (λ (n : ℕ). Inside (row i32).counts (pos n)) (sym (low-long l)) a.count;
      numbers = placed-inside i32 (λ i z. wrap16 z) 0 l (λ i z h. low-inside z) a.numbers;
    }

-- ---- the settings
settings-row : (l : List ℤ) → Allowed settings l → Allowed settings (settings_row (cleaned_settings (settings_of l)))
unfolding cleaned_settings settings_of
settings-row l a =
    let h : (i : ℕ) → Inside i32 (get_or l i (pos 0)) = λ i. at-inside i32 l i zero32 a.numbers in
    record {
      count = record { not-below = refl; not-above = refl };
      numbers =
          trip.more (h 0) (trip.more (h 1) (trip.more (h 2) (trip.more (h 3) (trip.more (h 4)
          (trip.more (low-inside (get_or l 5 (pos 0)))
          (trip.more (h 6) (trip.more (h 7) (trip.more (h 8) (trip.more (h 9) (trip.more (h 10)
          (trip.more (kept-inside i32 (voiced (settings_of l)) (wrap16 (get_or l 11 (pos 0))) zero32 (low-inside (get_or l 11 (pos 0)))) trip.none)))))))))));
    }

-- ---- the sheet
-- as many sections, and as many numbers in each
no-shape : SameShape [] []
no-shape = record { sections = refl; numbers = λ k. refl }

more-shape : {a b : List ℤ} {old new : List (List ℤ)} → length a ≡ length b → SameShape old new → SameShape (a ∷ old) (b ∷ new)
more-shape {a} {b} {old} {new} e h = record { sections = ap suc h.sections; numbers = go }
  where
    go : (k : ℕ) → length (get_or (a ∷ old) k []) ≡ length (get_or (b ∷ new) k [])
    go zero = e
    go (suc k) = h.numbers k

pub twelve : (l : List ℤ) → Allowed settings l → length l ≡ 12
twelve l a =
    let h : 12 ≤ length l = ltb-false (length l) 12 a.count.not-below in
    let k : length l ≤ 12 = ltb-false 12 (length l) a.count.not-above in
    omega arith

-- a cleaned sheet within the layout, and of the same shape
pub record Kept (rows : List (List ℤ)) : Type 0 where
  pub allowing : Allowing layout (cleaned_rows rows)
  pub shape : SameShape rows (cleaned_rows rows)

clean-ten : (r1 r2 r3 r4 r5 r6 r7 r8 r9 r10 : List ℤ)
    → Allowed settings r1 → Allowed (row i16) r2 → Allowed (row i16) r3 → Allowed (row i16) r4 → Allowed (row i16) r5
    → Allowed (row i32) r6 → Allowed (row i32) r7 → Allowed (row i32) r8 → Allowed (row i32) r9 → Allowed (row i32) r10
    → Kept (r1 ∷ r2 ∷ r3 ∷ r4 ∷ r5 ∷ r6 ∷ r7 ∷ r8 ∷ r9 ∷ r10 ∷ [])
unfolding layout cleaned_rows sections_of sheet_call cleaned
clean-ten r1 r2 r3 r4 r5 r6 r7 r8 r9 r10 a1 a2 a3 a4 a5 a6 a7 a8 a9 a10 =
    let s = settings_of r1 in
    let harm = harm_counts s fresh_state.lagPrev in
    record {
      allowing =
          trip.more (settings-row r1 a1)
          (trip.more a2
          (trip.more (kept_row i16 (pred_counts s) r3 zero16 a3)
          (trip.more (kept_row i16 (ltp_counts s) r4 zero16 a4)
          (trip.more (kept_row i16 (ar_counts s) r5 zero16 a5)
          (trip.more (kept_row i32 harm r6 zero32 a6)
          (trip.more (low-row r7 a7)
          (trip.more a8
          (trip.more a9
          (trip.more (kept_row i32 (lag_counts s (length r10)) r10 zero32 a10) trip.none)))))))));
      shape =
          more-shape (twelve r1 a1)
          (more-shape refl
          (more-shape (sym (kept-long (pred_counts s) r3))
          (more-shape (sym (kept-long (ltp_counts s) r4))
          (more-shape (sym (kept-long (ar_counts s) r5))
          (more-shape (sym (kept-long harm r6))
          (more-shape (sym (low-long r7))
          (more-shape refl
          (more-shape refl
          (more-shape (sym (kept-long (lag_counts s (length r10)) r10)) no-shape)))))))));
    }

-- ---- what holds of any ten sections within the layout holds of a sheet within it
apart : (kind : Kind) (kinds : List Kind) (rows : List (List ℤ)) (C : List (List ℤ) → Type 0) → Allowing (kind ∷ kinds) rows
    → ((zs : List ℤ) (rest : List (List ℤ)) → Allowed kind zs → Allowing kinds rest → C (zs ∷ rest))
    → C rows
apart kind kinds [] C x'' f = elim x'' [ ]
apart kind kinds (zs ∷ rows) C (trip.more a all) f = f zs rows a all

apart-end : (rows : List (List ℤ)) (C : List (List ℤ) → Type 0) → Allowing [] rows → C [] → C rows
apart-end [] C trip.none c = c
apart-end (_ ∷ _) C x4 c = elim x4 [ ]

pub by-sections : (C : List (List ℤ) → Type 0)
    → ((r1 r2 r3 r4 r5 r6 r7 r8 r9 r10 : List ℤ)
    → Allowed settings r1 → Allowed (row i16) r2 → Allowed (row i16) r3 → Allowed (row i16) r4 → Allowed (row i16) r5
    → Allowed (row i32) r6 → Allowed (row i32) r7 → Allowed (row i32) r8 → Allowed (row i32) r9 → Allowed (row i32) r10
    → C (r1 ∷ r2 ∷ r3 ∷ r4 ∷ r5 ∷ r6 ∷ r7 ∷ r8 ∷ r9 ∷ r10 ∷ []))
    → (rows : List (List ℤ)) → Allowing layout rows → C rows
unfolding layout
by-sections C f rows h0 =
    apart _ _ rows C h0
    (λ r1 l1 a1 h1.
    apart _ _ l1 (λ (l : List (List ℤ)). C (r1 ∷ l)) h1
    (λ r2 l2 a2 h2.
    apart _ _ l2 (λ (l : List (List ℤ)). C (r1 ∷ r2 ∷ l)) h2
    (λ r3 l3 a3 h3.
    apart _ _ l3 (λ (l : List (List ℤ)). C (r1 ∷ r2 ∷ r3 ∷ l)) h3
    (λ r4 l4 a4 h4.
    apart _ _ l4 (λ (l : List (List ℤ)). C (r1 ∷ r2 ∷ r3 ∷ r4 ∷ l)) h4
    (λ r5 l5 a5 h5.
    apart _ _ l5 (λ (l : List (List ℤ)). C (r1 ∷ r2 ∷ r3 ∷ r4 ∷ r5 ∷ l)) h5
    (λ r6 l6 a6 h6.
    apart _ _ l6 (λ (l : List (List ℤ)). C (r1 ∷ r2 ∷ r3 ∷ r4 ∷ r5 ∷ r6 ∷ l)) h6
    (λ r7 l7 a7 h7.
    apart _ _ l7 (λ (l : List (List ℤ)). C (r1 ∷ r2 ∷ r3 ∷ r4 ∷ r5 ∷ r6 ∷ r7 ∷ l)) h7
    (λ r8 l8 a8 h8.
    apart _ _ l8 (λ (l : List (List ℤ)). C (r1 ∷ r2 ∷ r3 ∷ r4 ∷ r5 ∷ r6 ∷ r7 ∷ r8 ∷ l)) h8
    (λ r9 l9 a9 h9.
    apart _ _ l9 (λ (l : List (List ℤ)). C (r1 ∷ r2 ∷ r3 ∷ r4 ∷ r5 ∷ r6 ∷ r7 ∷ r8 ∷ r9 ∷ l)) h9
    (λ r10 l10 a10 h10.
    apart-end l10 (λ (l : List (List ℤ)). C (r1 ∷ r2 ∷ r3 ∷ r4 ∷ r5 ∷ r6 ∷ r7 ∷ r8 ∷ r9 ∷ r10 ∷ l)) h10
    (f r1 r2 r3 r4 r5 r6 r7 r8 r9 r10 a1 a2 a3 a4 a5 a6 a7 a8 a9 a10)))))))))))

-- ---- a sheet within the layout is so when cleaned, and its shape stays
pub clean-kept : (rows : List (List ℤ)) → Allowing layout rows → Kept rows
clean-kept = by-sections Kept clean-ten
