-- What is read as a sheet has ten sections, each with a count and numbers that its kind allows. Assumes nothing.
use Prim.Native.Nat.{ℕ, zero, suc}
use mathlib.Core.Path.{◌≡◌, refl, sym, ap, ◌∙◌, subst}
use mathlib.Core.Bool.{Bool, true, false}
use mathlib.Core.List.{List, [], ◌∷◌}
use lib.ListN.{length}
use lib.IntN.{ℤ, pos, negsuc, nat_abs}
use lib.Signed.{lt_z}
use lib.Dec.{eqb, ltb}
use Rattle.fixed.specs.Iter.{either}
use Rattle.sheet_words.specs.Number.{Range, Read, got, bad, run, separator, number}
use Rattle.sheet_form.specs.Sections.{Kind, Reading, fault, sheet, and_then, before, numbers, section, or_fault, after, ended, sections, reading, layout, i16, i32}
use Rattle.sheet_form.proofs.Numbers.{number-range}
use Rattle.sheet_print.proofs.RoundTrip.{Inside, AllInside, Allowed, Allowing}
use Rattle.sheet_print.proofs.RoundTrip as trip
use Rattle.counts.proofs.Conditions.{not-both}

-- ---- one number
inside-read : (r : Range) (s t : List ℕ) (z : ℤ) → number r s ≡ got z t → Inside r z
inside-read r s t z e = let h = number-range r s t z e in record { not-below = h.0; not-above = h.1 }

-- ---- n numbers
record Fine (r : Range) (n : ℕ) (zs : List ℤ) : Type 0 where
  long : length zs ≡ n
  all : AllInside r zs

abbrev FineRead : Range → ℕ → Read (List ℤ) → Type 0
FineRead r n (got zs t) = Fine r n zs
FineRead r n bad = Unit {0}

before-fine : (r : Range) (n : ℕ) (z : ℤ) (m : Read (List ℤ)) → Inside r z → FineRead r n m → FineRead r (suc n) (before z m)
unfolding before
before-fine r n z (got zs t) i f = record { long = ap suc f.long; all = trip.more i f.all }
before-fine r n z bad i f = tt

then-fine : (r : Range) (n : ℕ) (s : List ℕ) (m : Read ℤ) → number r s ≡ m → ((t : List ℕ) → FineRead r n (numbers r n t))
    → FineRead r (suc n) (and_then m (λ z t. before z (numbers r n t)))
unfolding and_then
then-fine r n s (got z t) e h = before-fine r n z (numbers r n t) (inside-read r s t z e) (h t)
then-fine r n s bad e h = tt

numbers-fine : (r : Range) (n : ℕ) (s : List ℕ) → FineRead r n (numbers r n s)
unfolding numbers
numbers-fine r zero s = record { long = refl; all = trip.none }
numbers-fine r (suc n) s = then-fine r n s (number r s) refl (numbers-fine r n)

-- ---- a section
-- a kind whose counts are not negative
record Counted (kind : Kind) : Type 0 where
  counts : (n : ℤ) → lt_z n kind.counts.low ≡ false → pos (nat_abs n) ≡ n

abbrev AllowedRead : Kind → Read (List ℤ) → Type 0
AllowedRead kind (got zs t) = Allowed kind zs
AllowedRead kind bad = Unit {0}

allowed_of : (kind : Kind) (n : ℤ) (m : Read (List ℤ)) → Counted kind → Inside kind.counts n → FineRead kind.words (nat_abs n) m → AllowedRead kind m
allowed_of kind n (got zs t) c i f =
    record {
      count = subst (Inside kind.counts) (sym (ap pos f.long ∙ c.counts n i.not-below)) i;
      numbers = f.all;
    }
allowed_of kind n bad c i f = tt

section-then : (kind : Kind) (s : List ℕ) (m : Read ℤ) → Counted kind → number kind.counts s ≡ m
    → AllowedRead kind (and_then m (λ n t. numbers kind.words (nat_abs n) t))
unfolding and_then
section-then kind s (got n t) c e =
    allowed_of kind n (numbers kind.words (nat_abs n) t) c (inside-read kind.counts s t n e) (numbers-fine kind.words (nat_abs n) t)
section-then kind s bad c e = tt

section-allowed : (kind : Kind) (s : List ℕ) → Counted kind → AllowedRead kind (section kind s)
unfolding section
section-allowed kind s c = section-then kind s (number kind.counts s) c refl

-- ---- the sheet
data AllCounted : List Kind → Type 0 where
  none : AllCounted []
  more : {kind : Kind} {kinds : List Kind} → Counted kind → AllCounted kinds → AllCounted (kind ∷ kinds)

abbrev AllowingRead : List Kind → Reading → Type 0
AllowingRead kinds (fault k) = Unit {0}
AllowingRead kinds (sheet rows) = Allowing kinds rows

after-allowing : (kind : Kind) (kinds : List Kind) (zs : List ℤ) (m : Reading) → Allowed kind zs → AllowingRead kinds m → AllowingRead (kind ∷ kinds) (after zs m)
unfolding after
after-allowing kind kinds zs (fault k) a f = tt
after-allowing kind kinds zs (sheet rows) a f = trip.more a f

or-allowing : (kind : Kind) (kinds : List Kind) (k : ℕ) (m : Read (List ℤ)) (next : List ℕ → Reading) → AllowedRead kind m → ((s : List ℕ) → AllowingRead kinds (next s))
    → AllowingRead (kind ∷ kinds) (or_fault k m next)
unfolding or_fault
or-allowing kind kinds k (got zs s) next a f = after-allowing kind kinds zs (next s) a (f s)
or-allowing kind kinds k bad next a f = tt

ended-allowing : (k : ℕ) (s : List ℕ) → AllowingRead [] (ended k s)
unfolding ended
ended-allowing k s = go (eqb (run separator s) (length s))
  where
    go : (b : Bool) → AllowingRead [] (either b (sheet []) (fault k))
    go true = trip.none
    go false = tt

sections-allowing : (kinds : List Kind) (k : ℕ) (s : List ℕ) → AllCounted kinds → AllowingRead kinds (sections kinds k s)
unfolding sections
sections-allowing [] k s none = ended-allowing k s
sections-allowing (kind ∷ kinds) k s (more c cs) =
    or-allowing kind kinds k (section kind s) (sections kinds (suc k)) (section-allowed kind s c) (λ t. sections-allowing kinds (suc k) t cs)

counted : (least most : ℕ) (w : Range) → Counted (record { counts = record { low = pos least; high = pos most }; words = w })
counted least most w = record { counts = go }
  where
    go : (n : ℤ) → lt_z n (pos least) ≡ false → pos (nat_abs n) ≡ n
    go (pos n) e = refl
    go (negsuc n) e = absurd (not-both e refl)

layout-counted : AllCounted layout
unfolding layout
layout-counted =
    let h = counted 0 320 i16 in
    let l = counted 0 320 i32 in
    more (counted 12 12 i32) (more h (more h (more h (more h (more l (more l (more l (more l (more l none)))))))))

reading-allowing : (s : List ℕ) → AllowingRead layout (reading s)
unfolding reading
reading-allowing s = go (ltb 65536 (length s))
  where
    go : (b : Bool) → AllowingRead layout (either b (fault 0) (sections layout 1 s))
    go true = tt
    go false = sections-allowing layout 1 s layout-counted

pub read-allowing : (s : List ℕ) (rows : List (List ℤ)) → reading s ≡ sheet rows → Allowing layout rows
read-allowing s rows e = subst (AllowingRead layout) e (reading-allowing s)
