-- The ten sections one after the other, as the code takes them, are the sheet of the definition. Assumes nothing.
use mathlib.Core.Path.{◌≡◌, refl, sym, ap, ◌∙◌}
use mathlib.Core.Bool.{Bool, true, false}
use mathlib.Core.List.{List, [], ◌∷◌, ◌++◌}
use Prim.Native.Nat.{ℕ, suc, ◌+◌, ◌≤◌, ◌<◌}
use native.Mathlib.Omega.{arith}
use lib.ListN.{length, drop, length-drop}
use lib.IntN.{ℤ}
use lib.Dec.{ltb}
use borrow.Author.Tests.{eq-eqb, ne_eqb}
use Rattle.fixed.specs.Iter.{either}
use Rattle.sheet_words.specs.Number.{Read, got, bad, run, separator}
use Rattle.sheet_form.specs.Sections.{Kind, Reading, fault, sheet, settings, row, i16, i32, layout, section, after, or_fault, ended, sections, reading}
use Rattle.std.specs.Prelude.{Result, Ok, Err}
use Rattle.sheet_form.specs.Found.{taken, take_section}
use Rattle.sheet_form.specs.declared.fault.Fault.{Fault}
use Rattle.sheet_form.specs.Sheets.{sheet_of, start_rest}
use Rattle.sheet_words.proofs.Runs.{run-le}

-- ---- the end of the text
pub end-good : (text : List ℕ) (k at : ℕ) → length text ≤ at + run separator (drop at text) → sheet [] ≡ ended k (drop at text)
unfolding ended
end-good text k at h =
    let e : run separator (drop at text) ≡ length (drop at text) = omega (arith, run-le separator (drop at text), length-drop at text) in
    rw (eq-eqb _ _ e)

pub end-bad : (text : List ℕ) (k at : ℕ) → at + run separator (drop at text) < length text → fault k ≡ ended k (drop at text)
unfolding ended
end-bad text k at h = rw (ne_eqb (run separator (drop at text)) (length (drop at text)) (λ e. omega (arith, length-drop at text)))

-- ---- the sections that were read
-- the numbers of these sections before what is found after them
abbrev pub afters : List (List ℤ) → Reading → Reading
afters [] m = m
afters (zs ∷ done) m = after zs (afters done m)

pub afters-fault : (done : List (List ℤ)) (k : ℕ) → afters done (fault k) ≡ fault k
unfolding after
afters-fault [] k = refl
afters-fault (zs ∷ done) k = ap (after zs) (afters-fault done k)

pub afters-more : (done : List (List ℤ)) (zs : List ℤ) (m : Reading) → afters done (after zs m) ≡ afters (done ++ (zs ∷ [])) m
afters-more [] zs m = refl
afters-more (ys ∷ done) zs m = ap (after ys) (afters-more done zs m)

-- what the whole is found to be after the sections `done`: what these kinds find in s, of which the first is section k
pub record Led (whole : Reading) (done : List (List ℤ)) (kinds : List Kind) (k : ℕ) (s : List ℕ) : Type 0 where
  pub led : whole ≡ afters done (sections kinds k s)

module _ {whole : Reading} {done : List (List ℤ)} {kind : Kind} {kinds : List Kind} {k : ℕ} {s : List ℕ} (e : Led whole done (kind ∷ kinds) k s) where
  -- one section more
  pub on : {zs : List ℤ} {t : List ℕ} → section kind s ≡ got zs t → Led whole (done ++ (zs ∷ [])) kinds (suc k) t
  unfolding sections or_fault
  on {zs} {t} f = record { led = e.led ∙ ap (afters done) (rw f) ∙ afters-more done zs (sections kinds (suc k) t) }

  -- a section that can't be read
  pub stop : section kind s ≡ bad → whole ≡ fault k
  unfolding sections or_fault
  stop f = e.led ∙ ap (afters done) (rw f) ∙ afters-fault done k

-- all are read, and then
afters-sheet : (done rows : List (List ℤ)) → afters done (sheet rows) ≡ sheet (done ++ rows)
unfolding after
afters-sheet [] rows = refl
afters-sheet (zs ∷ done) rows = ap (after zs) (afters-sheet done rows)

module _ {whole : Reading} {done : List (List ℤ)} {k : ℕ} {s : List ℕ} (e : Led whole done [] k s) where
  -- nothing more
  pub whole-good : sheet [] ≡ ended k s → whole ≡ sheet (done ++ [])
  unfolding sections
  whole-good f = e.led ∙ ap (afters done) (sym f) ∙ afters-sheet done []

  -- or words
  pub whole-bad : {j : ℕ} → fault j ≡ ended k s → whole ≡ fault j
  unfolding sections
  whole-bad {j} f = e.led ∙ ap (afters done) (sym f) ∙ afters-fault done j

-- ---- what the code's answers say of the definition's
-- a section that was read
pub taken-ok : (k : ℕ) (m : Read (List ℤ)) (zs : List ℤ) (t : List ℕ) → Ok (zs, t) ≡ taken k m → m ≡ got zs t
unfolding taken
taken-ok k (got ys s) zs t e = let f : (zs, t) ≡ (ys, s) = cc in ap (λ (p : List ℤ × List ℕ). got p.0 p.1) (sym f)
taken-ok k bad zs t e = absurd (grind arith)

-- .. or not
pub taken-err : (k j : ℕ) (m : Read (List ℤ)) → Err j ≡ taken k m → (m ≡ bad) × (j ≡ k)
unfolding taken
taken-err k j (got ys s) e = absurd (grind arith)
taken-err k j bad e = (refl, cc)

-- the length, looked at first
abbrev by_length : Bool → List ℕ → Result (List ℕ) ℕ
by_length b s = either b (Err 0) (Ok s)

short : (b : Bool) (s t : List ℕ) → Ok t ≡ by_length b s → (b ≡ false) × (t ≡ s)
short true s t f = absurd (grind arith)
short false s t f = (refl, cc)

long : (b : Bool) (s : List ℕ) (k : ℕ) → Err k ≡ by_length b s → (b ≡ true) × (k ≡ 0)
long true s k f = (refl, cc)
long false s k f = absurd (grind arith)

-- .. of any sections
pub first-on : (kinds : List Kind) (s t : List ℕ) → Ok t ≡ start_rest s → Led (either (ltb 65536 (length s)) (fault 0) (sections kinds 1 s)) [] kinds 1 t
unfolding start_rest
first-on kinds s t e = let p = short (ltb 65536 (length s)) s t e in record { led = rw (p.0, p.1) }

pub first-stop : (kinds : List Kind) (s : List ℕ) (k : ℕ) → Err k ≡ start_rest s → either (ltb 65536 (length s)) (fault 0) (sections kinds 1 s) ≡ fault k
unfolding start_rest
first-stop kinds s k e = let p = long (ltb 65536 (length s)) s k e in rw (p.0, p.1)

-- .. of a call sheet's
pub start-on : (s t : List ℕ) → Ok t ≡ start_rest s
    → Led (reading s) [] (settings ∷ row i16 ∷ row i16 ∷ row i16 ∷ row i16 ∷ row i32 ∷ row i32 ∷ row i32 ∷ row i32 ∷ row i32 ∷ []) 1 t
unfolding reading layout
start-on s t e = first-on layout s t e

pub start-stop : (s : List ℕ) (k : ℕ) → Err k ≡ start_rest s → reading s ≡ fault k
unfolding reading
start-stop s k e = first-stop layout s k e

-- the first section, taken from the start on
module _ (kind : Kind) (kinds : List Kind) (s : List ℕ) where
  pub first-took : {t : List ℕ} {zs : List ℤ} (r : Result (List ℕ) ℕ) → r ≡ start_rest s → Ok (zs, t) ≡ take_section kind 1 r
      → Led (either (ltb 65536 (length s)) (fault 0) (sections (kind ∷ kinds) 1 s)) (zs ∷ []) kinds 2 t
  first-took {t} {zs} (Ok u) e f = on (first-on (kind ∷ kinds) s u e) (taken-ok 1 (section kind u) zs t f)
  first-took (Err j) e f = absurd (grind arith)

  -- .. or not
  pub first-missed : {j : ℕ} (r : Result (List ℕ) ℕ) → r ≡ start_rest s → Err j ≡ take_section kind 1 r
      → either (ltb 65536 (length s)) (fault 0) (sections (kind ∷ kinds) 1 s) ≡ fault j
  first-missed {j} (Ok u) e f = let p = taken-err 1 j (section kind u) f in rw p.1 (stop (first-on (kind ∷ kinds) s u e) p.0)
  first-missed {j} (Err i) e f = let p : j ≡ i = cc in rw p (first-stop (kind ∷ kinds) s i e)

-- .. of a call sheet
pub start-took : (s : List ℕ) {t : List ℕ} {zs : List ℤ} (r : Result (List ℕ) ℕ) → r ≡ start_rest s → Ok (zs, t) ≡ take_section settings 1 r
    → Led (reading s) (zs ∷ []) (row i16 ∷ row i16 ∷ row i16 ∷ row i16 ∷ row i32 ∷ row i32 ∷ row i32 ∷ row i32 ∷ row i32 ∷ []) 2 t
unfolding reading layout
start-took s r e f = first-took settings _ s r e f

pub start-missed : (s : List ℕ) {j : ℕ} (r : Result (List ℕ) ℕ) → r ≡ start_rest s → Err j ≡ take_section settings 1 r → reading s ≡ fault j
unfolding reading layout
start-missed s r e f = first-missed settings _ s r e f

-- what holds of the numbers of any section holds of those that were taken
pub of-taken : (kind : Kind) (k : ℕ) (P : List ℤ → Type 0) → ((s t : List ℕ) (zs : List ℤ) → section kind s ≡ got zs t → P zs)
    → (r : Result (List ℕ) ℕ) (zs : List ℤ) (t : List ℕ) → Ok (zs, t) ≡ take_section kind k r → P zs
of-taken kind k P h (Ok s) zs t e = h s t zs (taken-ok k (section kind s) zs t e)
of-taken kind k P h (Err j) zs t e = absurd (grind arith)

-- the fault as the code hands it back
pub as-fault : (m : Reading) (f : Fault) (k : ℕ) → f.number ≡ k → m ≡ fault k → Err f ≡ sheet_of m
unfolding sheet_of
as-fault m f k e h = rw (h, ← e)
