-- A printed sheet, read, is the sheet that was printed. Assumes nothing.
use mathlib.Core.Path.{◌≡◌, refl, sym, ap, ◌∙◌}
use mathlib.Core.Bool.{true, false}
use mathlib.Core.List.{List, [], ◌∷◌, ◌++◌, append_assoc}
use Prim.Native.Nat.{ℕ, suc, ◌+◌, ◌*◌, ◌^◌, ◌≤◌, ◌<◌}
use native.Mathlib.Omega.{arith}
use borrow.Author.Tests.{le-ltb}
use lib.ListN.{length, length-append}
use lib.Dec.{T, ltb, ltb→lt}
use lib.IntN.{ℤ, pos, negsuc, nat_abs}
use lib.Signed.{lt_z}
use Rattle.std.specs.Prelude.{Some}
use Rattle.fixed.proofs.Lin.{P, N, lt-false}
use Rattle.sheet_words.specs.Number.{Range, got, separator, run, within, number}
use Rattle.sheet_form.specs.Sections.{Kind, sheet, and_then, before, numbers, section, or_fault, after, ended, sections, reading, layout, settings, row, i16, i32}
use Rattle.sheet_text.specs.Text.{spaced, section_text, sheet_text}
use Rattle.pages.specs.Decimal.{decimal}
use Rattle.sheet_print.proofs.Printed.{Ends, decimal-few, number-printed, number-skip}

-- ---- sheets within the counts and the types
-- z is not below the range and not above it
pub record Inside (r : Range) (z : ℤ) : Type 0 where
  pub not-below : lt_z z r.low ≡ false
  pub not-above : lt_z r.high z ≡ false

-- each number is in the range
pub data AllInside (r : Range) : List ℤ → Type 0 where
  none : AllInside r []
  more : {z : ℤ} {zs : List ℤ} → Inside r z → AllInside r zs → AllInside r (z ∷ zs)

-- a section's count and its numbers are what its kind allows
pub record Allowed (kind : Kind) (zs : List ℤ) : Type 0 where
  pub count : Inside kind.counts (pos (length zs))
  pub numbers : AllInside kind.words zs

-- each section is what its kind allows
pub data Allowing : List Kind → List (List ℤ) → Type 0 where
  none : Allowing [] []
  more : {kind : Kind} {kinds : List Kind} {zs : List ℤ} {rows : List (List ℤ)} → Allowed kind zs → Allowing kinds rows → Allowing (kind ∷ kinds) (zs ∷ rows)

-- a range of numbers of at most ten digits
record Narrow (r : Range) : Type 0 where
  low : P r.low + N r.low < 10 ^ 10
  high : P r.high + N r.high < 10 ^ 10

inside-small : (r : Range) (z : ℤ) → Narrow r → Inside r z → nat_abs z < 10 ^ 10
inside-small r (pos n) w i = let h = lt-false r.high (pos n) i.not-above in let b = w.high in omega arith
inside-small r (negsuc n) w i = let l = lt-false (negsuc n) r.low i.not-below in let a = w.low in omega arith

inside-within : (r : Range) (z : ℤ) → Inside r z → within r z ≡ Some z
unfolding within
inside-within r z i = rw (i.not-below, i.not-above)

number-back : (r : Range) (z : ℤ) (u : List ℕ) → Narrow r → Inside r z → Ends u → number r (decimal z ++ u) ≡ got z u
number-back r z u n i e = number-printed r z u (inside-small r z n i) (inside-within r z i) e

-- ---- a section
space : separator 32 ≡ true
unfolding separator
space = refl

feed : separator 10 ≡ true
unfolding separator
feed = refl

spaced-ends : (zs : List ℤ) (t : List ℕ) → Ends (spaced zs ++ (10 ∷ t))
unfolding spaced
spaced-ends [] t = feed
spaced-ends (z ∷ zs) t = space

numbers-back : (r : Range) (zs : List ℤ) (t : List ℕ) → Narrow r → AllInside r zs → numbers r (length zs) (spaced zs ++ (10 ∷ t)) ≡ got zs (10 ∷ t)
unfolding numbers spaced and_then before
numbers-back r [] t n none = refl
numbers-back r (z ∷ zs) t n (more i a) =
    let e : number r (32 ∷ ((decimal z ++ spaced zs) ++ (10 ∷ t))) ≡ got z (spaced zs ++ (10 ∷ t)) =
    number-skip r 32 _ space ∙ ap (number r) (append_assoc (decimal z) (spaced zs) (10 ∷ t)) ∙ number-back r z (spaced zs ++ (10 ∷ t)) n i (spaced-ends zs t) in
    rw (e, numbers-back r zs t n a)

section-back : (kind : Kind) (zs : List ℤ) (t : List ℕ) → Narrow kind.counts → Narrow kind.words → Allowed kind zs → section kind (section_text zs ++ t) ≡ got zs (10 ∷ t)
unfolding section section_text and_then
section-back kind zs t c n a =
    let f : section_text zs ++ t ≡ decimal (pos (length zs)) ++ (spaced zs ++ (10 ∷ t)) = simp append_assoc in
    rw (f, number-back kind.counts (pos (length zs)) (spaced zs ++ (10 ∷ t)) c a.count (spaced-ends zs t)) (numbers-back kind.words zs t n a.numbers)

section-skip : (kind : Kind) (s : List ℕ) → section kind (10 ∷ s) ≡ section kind s
unfolding section
section-skip kind s = rw (number-skip kind.counts 10 s feed)

-- ---- the sheet
-- kinds whose counts and numbers have at most ten digits, and whose counts are at most 320
data Narrows : List Kind → Type 0 where
  none : Narrows []
  more : {kind : Kind} {kinds : List Kind} → Narrow kind.counts → Narrow kind.words → P kind.counts.high ≤ 320 → Narrows kinds → Narrows (kind ∷ kinds)

end_back : (k : ℕ) → ended k (10 ∷ []) ≡ sheet []
unfolding ended run separator
end_back k = refl

sections-back : (kinds : List Kind) (rows : List (List ℤ)) (k : ℕ) → Narrows kinds → Allowing kinds rows → sections kinds k (10 ∷ sheet_text rows) ≡ sheet rows
unfolding sections sheet_text or_fault after
sections-back [] [] k none none = end_back k
sections-back [] (zs ∷ rows) k _ x5 = elim x5 [ ]
sections-back (kind ∷ kinds) [] k _ x6 = elim x6 [ ]
sections-back (kind ∷ kinds) (zs ∷ rows) k (more c n f ns) (more a all) =
    rw (section-skip kind (section_text zs ++ sheet_text rows), section-back kind zs (sheet_text rows) c n a, sections-back kinds rows (suc k) ns all)

first-skip : (kind : Kind) (kinds : List Kind) (k : ℕ) (s : List ℕ) → sections (kind ∷ kinds) k (10 ∷ s) ≡ sections (kind ∷ kinds) k s
unfolding sections
first-skip kind kinds k s = rw (section-skip kind s)

narrow : (r : Range) → T (ltb (P r.low + N r.low) (10 ^ 10)) → T (ltb (P r.high + N r.high) (10 ^ 10)) → Narrow r
narrow r a b = record { low = ltb→lt _ _ a; high = ltb→lt _ _ b }

layout-narrow : Narrows layout
unfolding layout
layout-narrow =
    let c = narrow (row i16).counts tt tt in
    let s = narrow i16 tt tt in
    let l = narrow i32 tt tt in
    let m : 320 ≤ 320 = omega arith in
    more (narrow settings.counts tt tt) l (omega arith) (more c s m (more c s m (more c s m (more c s m (more c l m (more c l m (more c l m (more c l m (more c l m none)))))))))

-- ---- how long a printed sheet is
spaced-few : (r : Range) (zs : List ℤ) → Narrow r → AllInside r zs → length (spaced zs) ≤ 12 * length zs
unfolding spaced
spaced-few r [] n none = omega arith
spaced-few r (z ∷ zs) n (more i a) = omega (arith, length-append (decimal z) (spaced zs), decimal-few z (inside-small r z n i), spaced-few r zs n a)

count-few : (r : Range) (n : ℕ) → P r.high ≤ 320 → Inside r (pos n) → n ≤ 320
count-few r n h i = omega (arith, lt-false r.high (pos n) i.not-above)

section-few : (kind : Kind) (zs : List ℤ) → Narrow kind.counts → Narrow kind.words → P kind.counts.high ≤ 320 → Allowed kind zs → length (section_text zs) ≤ 3852
unfolding section_text
section-few kind zs c n f a =
    let k = count-few kind.counts (length zs) f a.count in
    let d = decimal-few (pos (length zs)) (inside-small kind.counts (pos (length zs)) c a.count) in
    let s = spaced-few kind.words zs n a.numbers in
    simp length-append (omega arith)

sheet-few : (kinds : List Kind) (rows : List (List ℤ)) → Narrows kinds → Allowing kinds rows → length (sheet_text rows) ≤ 3852 * length kinds
unfolding sheet_text
sheet-few [] [] none none = omega arith
sheet-few [] (zs ∷ rows) _ x5 = elim x5 [ ]
sheet-few (kind ∷ kinds) [] _ x6 = elim x6 [ ]
sheet-few (kind ∷ kinds) (zs ∷ rows) (more c n f ns) (more a all) =
    omega (arith, length-append (section_text zs) (sheet_text rows), section-few kind zs c n f a, sheet-few kinds rows ns all)

print-few : (rows : List (List ℤ)) → Allowing layout rows → length (sheet_text rows) ≤ 65536
unfolding layout
print-few rows a = omega (arith, sheet-few layout rows layout-narrow a)

sections-of-print : (rows : List (List ℤ)) → Allowing layout rows → sections layout 1 (sheet_text rows) ≡ sheet rows
unfolding layout
sections-of-print rows a = sym (first-skip settings _ 1 (sheet_text rows)) ∙ sections-back layout rows 1 layout-narrow a

-- printing and then reading gives the sheet back
pub reading-of-print : (rows : List (List ℤ)) → Allowing layout rows → reading (sheet_text rows) ≡ sheet rows
unfolding reading
reading-of-print rows a = rw (le-ltb 65536 (length (sheet_text rows)) (print-few rows a)) (sections-of-print rows a)
