-- How long the text of `clean` can be: below 8192 bytes for an accepted sheet, and at most 65545 for any bytes, so that a page of 65545 holds the
-- whole of it. Assumes nothing.
use Prim.Native.Nat.{ℕ, suc, ◌+◌, ◌*◌, ◌≤◌, ◌<◌}
use native.Mathlib.Omega.{arith}
use native.Mathlib.Nat.{suc-mul, mul-le-mul_right}
use mathlib.Core.Path.{◌≡◌, refl, subst}
use mathlib.Core.Bool.{Bool, true, false}
use mathlib.Core.List.{List, [], ◌∷◌, ◌++◌}
use lib.ListN.{length, get_or, length-append}
use lib.IntN.{ℤ, pos, negsuc}
use lib.Dec.{eqb, ltb}
use borrow.Author.Tests.{eqb-true, eqb-false, ltb-false}
use Rattle.fixed.specs.Iter.{either}
use Rattle.fixed.proofs.Lin.{P, N, lt-false}
use Rattle.limits.specs.Count.{same_z}
use Rattle.pages.specs.Decimal.{decimal}
use Rattle.pages.specs.Page.{page, puts}
use Rattle.pages.proofs.Pages.{Whole, whole-page as on-page}
use Rattle.refusal_rules.specs.declared.answer.Refusal.TheVariants.{Lengths, Orders, Paths, Kinds, Rows, Gains, Lags}
use Rattle.refusal_rules.specs.Code.{Answer, code_of}
use Rattle.std.specs.Prelude.{Ok, Err}
use Rattle.refusal_rules.proofs.Room.{frame-within}
use Rattle.steps.specs.Sizes.{sizes_of}
use Rattle.steps.proofs.Outcomes.{accepted-good}
use Rattle.sheet_words.specs.Number.{Range}
use Rattle.sheet_form.specs.Sections.{Kind, Reading, fault, sheet, sections, reading, layout, settings, row, i16, i32}
use Rattle.sheet_form.specs.Sheets.{with_default}
use Rattle.sheet_form.proofs.Faults.{FaultMost, reading-most}
use Rattle.sheet_text.specs.Text.{answer_word, line_of, spaced, section_text, sheet_text}
use Rattle.sheet_text.proofs.Short.{line-short, line-one, fault-short}
use Rattle.sheet_print.proofs.Printed.{decimal-few}
use Rattle.sheet_print.proofs.RoundTrip.{Inside, AllInside, Allowed, Allowing}
use Rattle.sheet_print.proofs.RoundTrip as trip
use Rattle.cleaning.specs.Cleaned.{cleaned}
use Rattle.cleaning.specs.Changes.{Change, change_of, listed, changes_in, changes_from, changes}
use Rattle.cleaning.proofs.Listed.{same_in}
use Rattle.sheet_page.specs.Calls.{settings_in, samples_in, sheet_call, defaulted, pulses_for, sheet_answer}
use Rattle.clean_page.specs.Sheets.{sections_of, cleaned_rows}
use Rattle.clean_page.specs.Text.{change_text, changes_text, clean_text}
use Rattle.clean_page.proofs.Read.{read-allowing}
use Rattle.clean_page.proofs.Within.{Kept, clean-kept, by-sections}
use Rattle.clean_page.proofs.Theorems.{clean-faulty, clean-refused, clean-accepted}

-- ---- how many bytes a number takes
-- each number of the row takes at most w bytes
abbrev AllWithin : ℕ → List ℤ → Type 0
AllWithin w [] = Unit {0}
AllWithin w (z ∷ zs) = (length (decimal z) ≤ w) × AllWithin w zs

-- a number of a range takes at most w
abbrev Wide : Range → ℕ → Type 0
Wide r w = (z : ℤ) → Inside r z → length (decimal z) ≤ w

all-within : (r : Range) (w : ℕ) (zs : List ℤ) → Wide r w → AllInside r zs → AllWithin w zs
all-within r w [] h trip.none = tt
all-within r w (z ∷ zs) h (trip.more i a) = (h z i, all-within r w zs h a)

-- a number below 100000 in size: 6
small-wide : (z : ℤ) → P z + N z < 100000 → length (decimal z) ≤ 6
unfolding line_of
small-wide z h = omega (arith, line-short [] z h, length-append (decimal z) (10 ∷ []))

-- below 10: 1
digit-wide : (k : ℕ) → k < 10 → length (decimal (pos k)) ≤ 1
unfolding line_of
digit-wide k h = omega (arith, line-one [] k h, length-append (decimal (pos k)) (10 ∷ []))

-- of 16 bits, and of 32
wide16 : Wide i16 6
wide16 (pos n) i = let h = lt-false (pos 32767) (pos n) i.not-above in small-wide (pos n) (omega arith)
wide16 (negsuc n) i = let h = lt-false (negsuc n) (negsuc 32767) i.not-below in small-wide (negsuc n) (omega arith)

wide32 : Wide i32 11
wide32 (pos n) i = let h = lt-false (pos 2147483647) (pos n) i.not-above in decimal-few (pos n) (omega arith)
wide32 (negsuc n) i = let h = lt-false (negsuc n) (negsuc 2147483647) i.not-below in decimal-few (negsuc n) (omega arith)

-- ---- a row as it is printed, and the lines of its changes
-- n times c bytes and one time more
step : (n c x y : ℕ) → x ≤ c → y ≤ n * c → x + y ≤ suc n * c
step n c x y h k = omega (arith, suc-mul n c)

spaced-most : (w : ℕ) (zs : List ℤ) → AllWithin w zs → length (spaced zs) ≤ length zs * suc w
unfolding spaced
spaced-most w [] h = omega arith
spaced-most w (z ∷ zs) h =
    let k = step (length zs) (suc w) (suc (length (decimal z))) (length (spaced zs)) (let b = h.0 in omega arith) (spaced-most w zs h.1) in
    omega (arith, length-append (decimal z) (spaced zs))

-- its line in the sheet
section-most : (w : ℕ) (zs : List ℤ) → length zs < 100000 → AllWithin w zs → length (section_text zs) ≤ 7 + length zs * suc w
unfolding section_text
section-most w zs l h =
    rw (length-append (decimal (pos (length zs)) ++ spaced zs) (10 ∷ []), length-append (decimal (pos (length zs))) (spaced zs))
    (omega (arith, small-wide (pos (length zs)) (omega arith), spaced-most w zs h))

-- the line of a change: d bytes for the section's number, 6 for the place, w for each of the two numbers, 4 between and after them
change-most : (d w : ℕ) (c : Change) → length (decimal (pos c.section)) ≤ d → c.place < 100000 → length (decimal c.old) ≤ w → length (decimal c.new) ≤ w
    → length (change_text c) ≤ d + (10 + (w + w))
unfolding change_text
change-most d w c s p a b = let k = small-wide (pos c.place) (omega arith) in simp length-append (omega arith)

-- the lines of a section's changes
module _ (d w : ℕ) where
  listed-most : (s p : ℕ) (a b : ℤ) (n : ℕ) (cs : List Change) → length (decimal (pos s)) ≤ d → p < 100000 → length (decimal a) ≤ w → length (decimal b) ≤ w
      → length (changes_text cs) ≤ n * (d + (10 + (w + w))) → length (changes_text (listed s p a b cs)) ≤ suc n * (d + (10 + (w + w)))
  unfolding listed changes_text
  listed-most s p a b n cs h l ha hb k = go (same_z a b)
    where
      go : (t : Bool) → length (changes_text (either t cs (change_of s p a b ∷ cs))) ≤ suc n * (d + (10 + (w + w)))
      go true = omega (arith, step n (d + (10 + (w + w))) 0 (length (changes_text cs)) (omega arith) k)
      go false =
          let c = change_text (change_of s p a b) in
          let m = step n (d + (10 + (w + w))) (length c) (length (changes_text cs)) (change-most d w (change_of s p a b) h l ha hb) k in
          omega (arith, length-append c (changes_text cs))

  in-most : (s p : ℕ) (old new : List ℤ) → length (decimal (pos s)) ≤ d → p + length old ≤ 100000 → AllWithin w old → AllWithin w new
      → length (changes_text (changes_in s p old new)) ≤ length old * (d + (10 + (w + w)))
  unfolding changes_in changes_text
  in-most s p [] [] h l a b = omega arith
  in-most s p [] (y ∷ new) h l a b = omega arith
  in-most s p (x ∷ old) [] h l a b = omega arith
  in-most s p (x ∷ old) (y ∷ new) h l a b =
      listed-most s p x y (length old) (changes_in s (suc p) old new) h (omega arith) a.0 b.0 (in-most s (suc p) old new h (omega arith) a.1 b.1)

-- ---- both together, of section s
record SectionMost (s : ℕ) (old new : List ℤ) (m : ℕ) : Type 0 where
  most : length (changes_text (changes_in s 1 old new)) + length (section_text new) ≤ m

-- at most n numbers, of w bytes each, every one of which may change; d bytes for the section's number
changed : (r : Range) (w d n s : ℕ) (old new : List ℤ) → Wide r w → length (decimal (pos s)) ≤ d → n ≤ 320 → length old ≤ n → length old ≡ length new
    → AllInside r old → AllInside r new → SectionMost s old new (7 + (n * (d + (10 + (w + w))) + n * suc w))
changed r w d n s old new wide h m l e a b =
    let x = in-most d w s 1 old new h (omega arith) (all-within r w old wide a) (all-within r w new wide b) in
    let y = section-most w new (omega arith) (all-within r w new wide b) in
    let u = mul-le-mul_right (d + (10 + (w + w))) l in
    let v = mul-le-mul_right (suc w) (let k : length new ≤ n = omega arith in k) in
    record { most = omega arith }

-- none of which may change
stays : (r : Range) (w n s : ℕ) (zs : List ℤ) → Wide r w → n ≤ 320 → length zs ≤ n → AllInside r zs → SectionMost s zs zs (7 + n * suc w)
unfolding changes_text
stays r w n s zs wide m l a =
    let y = section-most w zs (omega arith) (all-within r w zs wide a) in
    let v = mul-le-mul_right (suc w) l in
    record { most = rw (same_in s 1 zs) (omega arith) }

-- ---- .. and of the sections from section s on
record SheetMost (s : ℕ) (old new : List (List ℤ)) (m : ℕ) : Type 0 where
  most : length (changes_text (changes_from s old new)) + length (sheet_text new) ≤ m

lines-append : (cs ds : List Change) → length (changes_text (cs ++ ds)) ≡ length (changes_text cs) + length (changes_text ds)
unfolding changes_text
lines-append [] ds = omega arith
lines-append (c ∷ cs) ds =
    omega (arith, length-append (change_text c) (changes_text (cs ++ ds)), length-append (change_text c) (changes_text cs), lines-append cs ds)

no-sections : (s : ℕ) → SheetMost s [] [] 0
unfolding changes_from changes_text sheet_text
no-sections s = record { most = omega arith }

then : {s m n : ℕ} {a b : List ℤ} {old new : List (List ℤ)} → SectionMost s a b m → SheetMost (suc s) old new n → SheetMost s (a ∷ old) (b ∷ new) (m + n)
unfolding changes_from sheet_text
then {s} {m} {n} {a} {b} {old} {new} h k =
    record {
      most = omega (arith, h.most, k.most, lines-append (changes_in s 1 a b) (changes_from (suc s) old new), length-append (section_text b) (sheet_text new));
    }

-- ---- the sections of an accepted sheet
record Short (rows : List (List ℤ)) : Type 0 where
  samples : length (get_or rows 1 []) ≤ 320
  pred : length (get_or rows 2 []) ≤ 32
  ltp : length (get_or rows 3 []) ≤ 20
  ar : length (get_or rows 4 []) ≤ 96
  harm : length (get_or rows 5 []) ≤ 4
  tilt : length (get_or rows 6 []) ≤ 4
  lf : length (get_or rows 7 []) ≤ 4
  gains : length (get_or rows 8 []) ≤ 4
  lags : length (get_or rows 9 []) ≤ 4

accepted-short : (rows : List (List ℤ)) → code_of (sheet_answer rows) ≡ 0 → Short rows
unfolding sheet_answer defaulted with_default sheet_call sizes_of
accepted-short rows e =
    let g = accepted-good (defaulted (sheet_call rows)) (samples_in rows) (pulses_for (settings_in rows)) e in
    let n = g.settings.n.among.most in
    let f = frame-within g.settings.l g.settings.n in
    record {
      samples = let h = g.rows.samples in omega (arith, f.0, f.1);
      pred = let h = g.rows.pred-coef in omega arith;
      ltp = let h = g.rows.ltp-coef in omega arith;
      ar = let h = g.rows.ar in omega arith;
      harm = let h = g.rows.harm-gain in omega arith;
      tilt = let h = g.rows.tilt in omega arith;
      lf = let h = g.rows.lf in omega arith;
      gains = let h = g.rows.gains in omega arith;
      lags = let h = g.rows.lags in omega arith;
    }

-- the first of sections within their kinds, and those after it
here : {kind : Kind} {kinds : List Kind} {zs : List ℤ} {rows : List (List ℤ)} → Allowing (kind ∷ kinds) (zs ∷ rows) → AllInside kind.words zs
here (trip.more a all) = a.numbers

next : {kind : Kind} {kinds : List Kind} {zs : List ℤ} {rows : List (List ℤ)} → Allowing (kind ∷ kinds) (zs ∷ rows) → Allowing kinds rows
next (trip.more a all) = all

-- section by section: settings; samples, PredCoef, LTPCoef, AR; harmonic gains, tilts, LFs, gains, lags
ten-most : (r1 r2 r3 r4 r5 r6 r7 r8 r9 r10 : List ℤ)
    → Allowed settings r1 → Allowed (row i16) r2 → Allowed (row i16) r3 → Allowed (row i16) r4 → Allowed (row i16) r5
    → Allowed (row i32) r6 → Allowed (row i32) r7 → Allowed (row i32) r8 → Allowed (row i32) r9 → Allowed (row i32) r10
    → Kept (r1 ∷ r2 ∷ r3 ∷ r4 ∷ r5 ∷ r6 ∷ r7 ∷ r8 ∷ r9 ∷ r10 ∷ []) → Short (r1 ∷ r2 ∷ r3 ∷ r4 ∷ r5 ∷ r6 ∷ r7 ∷ r8 ∷ r9 ∷ r10 ∷ [])
    → SheetMost 1 (r1 ∷ r2 ∷ r3 ∷ r4 ∷ r5 ∷ r6 ∷ r7 ∷ r8 ∷ r9 ∷ r10 ∷ []) (cleaned_rows (r1 ∷ r2 ∷ r3 ∷ r4 ∷ r5 ∷ r6 ∷ r7 ∷ r8 ∷ r9 ∷ r10 ∷ [])) 7946
unfolding layout cleaned_rows sections_of sheet_call cleaned
ten-most r1 r2 r3 r4 r5 r6 r7 r8 r9 r10 a1 a2 a3 a4 a5 a6 a7 a8 a9 a10 k h =
    let l = k.shape.numbers in
    let k1 = k.allowing in
    let k3 = next (next k1) in
    let k4 = next k3 in
    let k5 = next k4 in
    let k6 = next k5 in
    let k7 = next k6 in
    let k10 = next (next (next k7)) in
    then (changed i32 11 1 12 1 r1 _ wide32 (digit-wide 1 (omega arith)) (omega arith) (omega (arith, l 0)) (l 0) a1.numbers (here k1))
    (then (stays i16 6 320 2 r2 wide16 (omega arith) h.samples a2.numbers)
    (then (changed i16 6 1 32 3 r3 _ wide16 (digit-wide 3 (omega arith)) (omega arith) h.pred (l 2) a3.numbers (here k3))
    (then (changed i16 6 1 20 4 r4 _ wide16 (digit-wide 4 (omega arith)) (omega arith) h.ltp (l 3) a4.numbers (here k4))
    (then (changed i16 6 1 96 5 r5 _ wide16 (digit-wide 5 (omega arith)) (omega arith) h.ar (l 4) a5.numbers (here k5))
    (then (changed i32 11 1 4 6 r6 _ wide32 (digit-wide 6 (omega arith)) (omega arith) h.harm (l 5) a6.numbers (here k6))
    (then (changed i32 11 1 4 7 r7 _ wide32 (digit-wide 7 (omega arith)) (omega arith) h.tilt (l 6) a7.numbers (here k7))
    (then (stays i32 11 4 8 r8 wide32 (omega arith) h.lf a8.numbers)
    (then (stays i32 11 4 9 r9 wide32 (omega arith) h.gains a9.numbers)
    (then (changed i32 11 6 4 10 r10 _ wide32 (small-wide (pos 10) (omega arith)) (omega arith) h.lags (l 9) a10.numbers (here k10))
    (no-sections 11))))))))))

sheet-most : (rows : List (List ℤ)) → Allowing layout rows → code_of (sheet_answer rows) ≡ 0 → SheetMost 1 rows (cleaned_rows rows) 7946
sheet-most rows a e =
    by-sections (λ (l : List (List ℤ)). Kept l → Short l → SheetMost 1 l (cleaned_rows l) 7946) ten-most rows a (clean-kept rows a) (accepted-short rows e)

-- an accepted sheet: the lines of its changes and the cleaned sheet
pub accepted-most : (s : List ℕ) (rows : List (List ℤ)) → reading s ≡ sheet rows → code_of (sheet_answer rows) ≡ 0 → length (clean_text s) < 8192
unfolding changes
accepted-most s rows e z =
    rw (clean-accepted s rows e z)
    (omega (arith, length-append (changes_text (changes rows (cleaned_rows rows))) (sheet_text (cleaned_rows rows)), (sheet-most rows (read-allowing s rows e) z).most))

-- ---- any bytes
-- what is read as a sheet has at most 65536 bytes
abbrev FewRead : List ℕ → Reading → Type 0
FewRead s (fault k) = Unit {0}
FewRead s (sheet rows) = length s ≤ 65536

few-found : (s : List ℕ) (m : Reading) → length s ≤ 65536 → FewRead s m
few-found s (fault k) h = tt
few-found s (sheet rows) h = h

few-read : (s : List ℕ) → FewRead s (reading s)
unfolding reading
few-read s = go (ltb 65536 (length s)) refl
  where
    go : (b : Bool) → ltb 65536 (length s) ≡ b → FewRead s (either b (fault 0) (sections layout 1 s))
    go true e = tt
    go false e = few-found s (sections layout 1 s) (ltb-false 65536 (length s) e)

pub sheet-bytes : (s : List ℕ) (rows : List (List ℤ)) → reading s ≡ sheet rows → length s ≤ 65536
sheet-bytes s rows e = subst (FewRead s) e (few-read s)

-- the number of an answer is one digit
code-digit : (a : Answer) → code_of a < 10
code-digit (Ok u) = omega arith
code-digit (Err Lengths) = omega arith
code-digit (Err Orders) = omega arith
code-digit (Err Paths) = omega arith
code-digit (Err Kinds) = omega arith
code-digit (Err Rows) = omega arith
code-digit (Err Gains) = omega arith
code-digit (Err Lags) = omega arith

-- a refused sheet: `answer`, a space, the digit and a line feed, and the bytes
pub refused-long : (s : List ℕ) (rows : List (List ℤ)) → reading s ≡ sheet rows → 0 < code_of (sheet_answer rows) → length (clean_text s) ≡ 9 + length s
refused-long s rows e h =
    rw (clean-refused s rows e h)
    (omega (arith, length-append (line_of answer_word (pos (code_of (sheet_answer rows)))) s, line-one answer_word (code_of (sheet_answer rows)) (code-digit (sheet_answer rows))))

-- a faulty one: the fault's line
faulty-most : (s : List ℕ) (k : ℕ) → reading s ≡ fault k → length (clean_text s) ≤ 19
faulty-most s k e = rw (clean-faulty s k e) (fault-short k (let h : k ≤ 11 = subst (FaultMost 11) e (reading-most s) in omega arith))

pub text-most : (s : List ℕ) → length (clean_text s) ≤ 65545
text-most s = found (reading s) refl
  where
    answer : (rows : List (List ℤ)) → reading s ≡ sheet rows → (b : Bool) → eqb (code_of (sheet_answer rows)) 0 ≡ b → length (clean_text s) ≤ 65545
    answer rows e true q = omega (arith, accepted-most s rows e (eqb-true _ _ q))
    answer rows e false q = let n = eqb-false (code_of (sheet_answer rows)) 0 q in omega (arith, refused-long s rows e (omega arith), sheet-bytes s rows e)

    found : (m : Reading) → reading s ≡ m → length (clean_text s) ≤ 65545
    found (fault k) e = omega (arith, faulty-most s k e)
    found (sheet rows) e = answer rows e _ refl

-- ---- so a page of 65545 bytes holds it: of a count and a page of which the contract's equation is known, the first bytes, as many as the count
-- says, are the text, and the count is within the page
pub whole-page : (s t out bytes : List ℕ) (used : ℕ) → s ≡ t → length out ≡ 65545 → page used bytes ≡ puts (clean_text s) (page 0 out) → Whole (clean_text t) out bytes used
whole-page s t out bytes used e l p = on-page clean_text s t out bytes used e (omega (arith, text-most t)) p
