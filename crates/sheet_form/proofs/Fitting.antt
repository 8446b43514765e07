-- Every number of a section fits where the section's range does. Assumes nothing.
use mathlib.Core.Path.{◌≡◌, refl, ap, ◌∙◌}
use mathlib.Core.List.{List, [], ◌∷◌, ◌++◌}
use Prim.Native.Nat.{ℕ, zero, suc, ◌-◌, ◌+◌, ◌≤◌, ◌<◌}
use native.Mathlib.Numerals.{add-one}
use native.Mathlib.Omega.{arith}
use lib.ListN.{length, get_or, replicate, take, set}
use lib.Seq.{take-suc, take-suc-set, take-append_seam}
use lib.IntN.{ℤ, pos, negsuc, nat_abs}
use lib.Dec.{T}
use lib.Signed.{lt_z, non_neg}
use mathlib.Core.Bool.{false}
use mir.Syntax.{Width, w8, w16}
use mir.Val.{SFits}
use mir.Facts.{sfits_lit}
use Rattle.silk.specs.State.{zeros}
use Rattle.sheet_words.specs.Number.{Range, Read, got, bad, number}
use Rattle.sheet_form.specs.Found.{padded}
use Rattle.sheet_form.specs.Sections.{Kind, and_then, before, numbers, section, row, settings, triple, i8, i16, i32}
use Rattle.sheet_form.proofs.Numbers.{number_fits, number-range}
use Rattle.fixed.proofs.Lin.{lt-false}

-- ---- past its end a row has zeros
replicate-at : (n i : ℕ) → get_or (replicate n (pos 0)) i (pos 0) ≡ pos 0
replicate-at zero i = refl
replicate-at (suc n) zero = refl
replicate-at (suc n) (suc i) = replicate-at n i

zeros-at : (zs : List ℤ) (n i : ℕ) → get_or (zs ++ zeros n) i (pos 0) ≡ get_or zs i (pos 0)
unfolding zeros
zeros-at [] n i = replicate-at n i
zeros-at (z ∷ zs) n zero = refl
zeros-at (z ∷ zs) n (suc i) = zeros-at zs n i

pub padded-at : (zs : List ℤ) (i : ℕ) → get_or (padded zs) i (pos 0) ≡ get_or zs i (pos 0)
unfolding padded
padded-at zs i = zeros-at zs (320 - length zs) i

-- ---- the first words of a row
take-zeros : (n m : ℕ) → n ≤ m → take n (replicate m (pos 0)) ≡ replicate n (pos 0)
take-zeros zero m h = refl
take-zeros (suc n) zero h = absurd (omega arith)
take-zeros (suc n) (suc m) h = ap (λ (zs : List ℤ). pos 0 ∷ zs) (take-zeros n m (omega arith))

-- of 320 zeros
pub zeros-first : (n : ℕ) → n ≤ 320 → take n (zeros 320) ≡ zeros n
unfolding zeros
zeros-first n h = take-zeros n 320 h

-- of a row with its zeros, as many as were read
pub padded-first : (zs : List ℤ) → take (length zs) (padded zs) ≡ zs
unfolding padded
padded-first zs = take-append_seam zs (zeros (320 - length zs))

-- ---- the numbers that were read
-- every number fits the width; 0 stands past the last
abbrev pub All : Width → List ℤ → Type 0
All w zs = (i : ℕ) → SFits w (get_or zs i (pos 0))

-- .. of those that were read
abbrev pub AllRead : Width → Read (List ℤ) → Type 0
AllRead w (got zs s) = All w zs
AllRead w bad = Unit {0}

cons-fits : (w : Width) (z : ℤ) (zs : List ℤ) → SFits w z → All w zs → All w (z ∷ zs)
cons-fits w z zs f h zero = f
cons-fits w z zs f h (suc i) = h i

before-fits : (w : Width) (z : ℤ) (m : Read (List ℤ)) → SFits w z → AllRead w m → AllRead w (before z m)
unfolding before
before-fits w z (got zs s) f h = cons-fits w z zs f h
before-fits w z bad f h = tt

module _ (w : Width) (r : Range) (low_fits : SFits w r.low) (high_fits : SFits w r.high) (zero-fits : SFits w (pos 0)) where
  none-fits : All w []
  none-fits i = zero-fits

  then-fits : (n : ℕ) (s : List ℕ) (m : Read ℤ) → number r s ≡ m → ((t : List ℕ) → AllRead w (numbers r n t)) → AllRead w (and_then m (λ z t. before z (numbers r n t)))
  unfolding and_then
  then-fits n s (got z t) e h = before-fits w z (numbers r n t) (number_fits w r s t z low_fits high_fits e) (h t)
  then-fits n s bad e h = tt

  pub numbers_fit : (n : ℕ) (s : List ℕ) → AllRead w (numbers r n s)
  unfolding numbers
  numbers_fit zero s = none-fits
  numbers_fit (suc n) s = then-fits n s (number r s) refl (numbers_fit n)

  count_fits : (m : Read ℤ) → AllRead w (and_then m (λ n t. numbers r (nat_abs n) t))
  unfolding and_then
  count_fits (got n t) = numbers_fit (nat_abs n) t
  count_fits bad = tt

  -- the numbers of a section
  row_fits : (s : List ℕ) → AllRead w (section (row r) s)
  unfolding section
  row_fits s = count_fits (number (row r).counts s)

-- the numbers of a section of 16-bit numbers
pub section-fits : (s : List ℕ) → AllRead w16 (section (row i16) s)
section-fits s = row_fits w16 i16 (sfits_lit tt) (sfits_lit tt) (sfits_lit tt) s

-- .. and of 8-bit numbers
pub bytes-section-fits : (s : List ℕ) → AllRead w8 (section (row i8) s)
bytes-section-fits s = row_fits w8 i8 (sfits_lit tt) (sfits_lit tt) (sfits_lit tt) s

-- and the row with its zeros
pub padded-fit : (w : Width) (zs : List ℤ) → All w zs → All w (padded zs)
padded-fit w zs h i = rw (padded-at zs i) (h i)

-- and its first words
pub take-fit : (w : Width) (n : ℕ) (zs : List ℤ) → SFits w (pos 0) → All w zs → All w (take n zs)
take-fit w zero zs z h i = z
take-fit w (suc n) [] z h i = z
take-fit w (suc n) (x ∷ zs) z h zero = h zero
take-fit w (suc n) (x ∷ zs) z h (suc i) = take-fit w n zs z (λ j. h (suc j)) i

-- ---- a section by its count
pub section-got : (kind : Kind) (s t : List ℕ) (n : ℤ) → number kind.counts s ≡ got n t → section kind s ≡ numbers kind.words (nat_abs n) t
unfolding section and_then
section-got kind s t n e = rw e

pub section-bad : (kind : Kind) (s : List ℕ) → number kind.counts s ≡ bad → section kind s ≡ bad
unfolding section and_then
section-bad kind s e = rw e

count-is : (least most : ℕ) (n : ℤ) → lt_z n (pos least) ≡ false → lt_z (pos most) n ≡ false → T (non_neg n) × (nat_abs n ≤ most)
count-is least most (pos n) p q = (tt, omega (arith, lt-false (pos most) (pos n) q))
count-is least most (negsuc n) p q = absurd (omega (arith, lt-false (negsuc n) (pos least) p))

-- a count that was read is no negative number, and no more than allowed
pub count_small : (least most : ℕ) (s t : List ℕ) (n : ℤ) → number (record { low = pos least; high = pos most }) s ≡ got n t → T (non_neg n) × (nat_abs n ≤ most)
count_small least most s t n e = let p = number-range (record { low = pos least; high = pos most }) s t n e in count-is least most n p.0 p.1

-- ---- a row copied word by word
pub copied : (out words : List ℤ) (i : ℕ) → i < length out → i < length words → take i out ≡ take i words → take (i + 1) (set out i (get_or words i (pos 0))) ≡ take (i + 1) words
copied out words i h k e = rw (add-one i, take-suc-set out i (get_or words i (pos 0)) h, take-suc words i (pos 0) k, e)

-- ---- how many numbers a section has
before-length : (n : ℕ) (z : ℤ) (m : Read (List ℤ)) (zs : List ℤ) (t : List ℕ) → before z m ≡ got zs t
    → ((ys : List ℤ) (u : List ℕ) → m ≡ got ys u → length ys ≡ n) → length zs ≡ suc n
unfolding before
before-length n z (got ys u) zs t e h = let f : z ∷ ys ≡ zs = cc in rw (← f) (ap suc (h ys u refl))
before-length n z bad zs t e h = absurd (let x : ◌≡◌ {A = ℕ} 0 1 = cc in omega arith)

then-length : (n : ℕ) (r : Range) (m : Read ℤ) (zs : List ℤ) (t : List ℕ) → and_then m (λ z u. before z (numbers r n u)) ≡ got zs t
    → ((s u : List ℕ) (ys : List ℤ) → numbers r n s ≡ got ys u → length ys ≡ n) → length zs ≡ suc n
unfolding and_then
then-length n r (got z s) zs t e h = before-length n z (numbers r n s) zs t e (λ ys u. h s u ys)
then-length n r bad zs t e h = absurd (let x : ◌≡◌ {A = ℕ} 0 1 = cc in omega arith)

-- as many as were asked for
pub numbers-length : (r : Range) (n : ℕ) (s t : List ℕ) (zs : List ℤ) → numbers r n s ≡ got zs t → length zs ≡ n
unfolding numbers
numbers-length r zero s t zs e = let f : ◌≡◌ {A = List ℤ} [] zs = cc in rw (← f)
numbers-length r (suc n) s t zs e = then-length n r (number r s) zs t e (λ u v ys. numbers-length r n u v ys)

exact-by : (k : ℕ) (r : Range) (m : Read ℤ) (t : List ℕ) (zs : List ℤ) → and_then m (λ n u. numbers r (nat_abs n) u) ≡ got zs t
    → ((n : ℤ) (u : List ℕ) → m ≡ got n u → nat_abs n ≡ k) → length zs ≡ k
unfolding and_then
exact-by k r (got n u) t zs e h = numbers-length r (nat_abs n) u t zs e ∙ h n u refl
exact-by k r bad t zs e h = absurd (let x : ◌≡◌ {A = ℕ} 0 1 = cc in omega arith)

exact-abs : (k : ℕ) (n : ℤ) → lt_z n (pos k) ≡ false → lt_z (pos k) n ≡ false → nat_abs n ≡ k
exact-abs k (pos n) p q = omega (arith, lt-false (pos n) (pos k) p, lt-false (pos k) (pos n) q)
exact-abs k (negsuc n) p q = absurd (omega (arith, lt-false (negsuc n) (pos k) p))

-- a section of exactly k numbers has them
exact : (k : ℕ) (r : Range) (s t : List ℕ) (zs : List ℤ) → section (record { counts = record { low = pos k; high = pos k }; words = r }) s ≡ got zs t → length zs ≡ k
unfolding section
exact k r s t zs e =
    let c : Range = record { low = pos k; high = pos k } in
    exact-by k r (number c s) t zs e (λ n u f. let p = number-range c s u n f in exact-abs k n p.0 p.1)

-- the twelve settings
pub twelve : (s t : List ℕ) (zs : List ℤ) → section settings s ≡ got zs t → length zs ≡ 12
twelve s t zs e = exact 12 i32 s t zs e

-- .. and the three of a triple
pub three : (s t : List ℕ) (zs : List ℤ) → section triple s ≡ got zs t → length zs ≡ 3
three s t zs e = exact 3 i32 s t zs e
