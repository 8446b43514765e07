-- Any two outcomes that a public function's contract allows are equal: each contract leaves one. Of a place in the text that is the bytes from
-- it on: past the text's end, places differ that stand for the same. Assumes nothing.
use mathlib.Core.Path.{◌≡◌, refl, sym, ap, ◌∙◌}
use Rattle.std.specs.Prelude.{ℕ, List, Result, Ok, Err}
use native.Mathlib.Omega.{arith}
use Rattle.sheet_form.specs.Found.{items, section_found, rest_at}
use Rattle.sheet_form.specs.Rows.{Words}
use Rattle.sheet_form.specs.Sheets.{verdict_of}
use Rattle.sheet_form.specs.declared.fault.Fault.{Fault}
use Rattle.sheet_form.proofs.blank.zeros32.Reads as zeros32
use Rattle.sheet_form.proofs.blank.zeros16.Reads as zeros16
use Rattle.sheet_form.proofs.blank.zeros8.Reads as zeros8
use Rattle.sheet_form.proofs.sheet.start.Reads as start
use Rattle.sheet_form.proofs.sheet.end.Reads as end
use Rattle.sheet_form.proofs.sheet.read.Reads as read
use Rattle.sheet_form.proofs.sheet.with_default.Reads as with-default
use Rattle.sheet_form.proofs.section.settings_section.Reads as settings-section
use Rattle.sheet_form.proofs.section.triple_section.Reads as triple-section
use Rattle.sheet_form.proofs.section.section32.Reads as section32
use Rattle.sheet_form.proofs.section.section16.Reads as section16
use Rattle.sheet_form.proofs.section.section8.Reads as section8
use Rattle.sheet_form.proofs.rows.WordsClone.clone.Reads as clone
use Rattle.sheet_form.proofs.rows.Words.new.Reads as new
use Rattle.sheet_form.proofs.rows.Words.of.Reads as of
use Rattle.sheet_form.proofs.rows.Words.len.Reads as len
use Rattle.sheet_form.proofs.rows.Words.as_slice.Reads as as-slice
use Rattle.sheet_form.proofs.rows.Words.words.Reads as words
use Rattle.sheet_form.proofs.rows.Words.push.Reads as push
use Rattle.sheet_form.proofs.rows.Words.truncate.Reads as truncate

pub read-unique : (κs a r s e f : _) → read.Post κs a r e → read.Post κs a s f → r ≡ s
read-unique κs a r s e f p q = p ∙ sym q

pub with-default-unique : (κs a r s e f : _) → with-default.Post κs a r e → with-default.Post κs a s f → r ≡ s
with-default-unique κs a r s e f p q = p ∙ sym q

pub start-unique : (κs a r s e f : _) → start.Post κs a r e → start.Post κs a s f → rest_at a.0.now r ≡ rest_at a.0.now s
start-unique κs a r s e f p q = p ∙ sym q

-- an end is known by the reading that it stands for
same-end : (v w : Result (Unit {0}) Fault) → verdict_of v ≡ verdict_of w → v ≡ w
same-end (Ok x) (Ok y) e = refl
same-end (Ok x) (Err g) e = absurd (grind arith)
same-end (Err f) (Ok y) e = absurd (grind arith)
same-end (Err f) (Err g) e = let x : f.number ≡ g.number = cc in ap (λ (n : ℕ). Err (record { number = n })) x

pub end-unique : (κs a r s e f : _) → end.Post κs a r e → end.Post κs a s f → r ≡ s
end-unique κs a r s e f p q = same-end r s (p ∙ sym q)

pub settings-section-unique : (κs a r s e f : _) → settings-section.Post κs a r e → settings-section.Post κs a s f → section_found items a.0.now r ≡ section_found items a.0.now s
settings-section-unique κs a r s e f p q = p ∙ sym q

pub triple-section-unique : (κs a r s e f : _) → triple-section.Post κs a r e → triple-section.Post κs a s f → section_found items a.0.now r ≡ section_found items a.0.now s
triple-section-unique κs a r s e f p q = p ∙ sym q

pub section32-unique : (κs a r s e f : _) → section32.Post κs a r e → section32.Post κs a s f → section_found items a.0.now r ≡ section_found items a.0.now s
section32-unique κs a r s e f p q = p ∙ sym q

pub section16-unique : (κs a r s e f : _) → section16.Post κs a r e → section16.Post κs a s f → section_found items a.0.now r ≡ section_found items a.0.now s
section16-unique κs a r s e f p q = p ∙ sym q

pub section8-unique : (κs a r s e f : _) → section8.Post κs a r e → section8.Post κs a s f → section_found items a.0.now r ≡ section_found items a.0.now s
section8-unique κs a r s e f p q = p ∙ sym q

-- ---- rows with nothing in them
pub zeros32-unique : (κs a r s e : _) → zeros32.Post κs a r e → zeros32.Post κs a s e → r ≡ s
zeros32-unique κs a r s e p q = p ∙ sym q

pub zeros16-unique : (κs a r s e : _) → zeros16.Post κs a r e → zeros16.Post κs a s e → r ≡ s
zeros16-unique κs a r s e p q = p ∙ sym q

pub zeros8-unique : (κs a r s e : _) → zeros8.Post κs a r e → zeros8.Post κs a s e → r ≡ s
zeros8-unique κs a r s e p q = p ∙ sym q

-- a row is known by its numbers
same-row : {T : Type 0} (v w : Words T) → v.items ≡ w.items → v ≡ w
same-row {T} v w e = ap (λ (zs : List T). record { items = zs }) e

-- ---- rows, of numbers of any width: each leaves one list of numbers
pub new-unique : (T l c W w C m κs a r s e f : _) → new.Post T l c W w C m κs a r e → new.Post T l c W w C m κs a s f → r ≡ s
new-unique T l c W w C m κs a r s e f p q = same-row r s (p ∙ sym q)

pub of-unique : (T l c W w C m κs a r s e f : _) → of.Post T l c W w C m κs a r e → of.Post T l c W w C m κs a s f → r ≡ s
of-unique T l c W w C m κs a r s e f p q = same-row r s (p ∙ sym q)

pub len-unique : (T l c W w C m κs a r s e f : _) → len.Post T l c W w C m κs a r e → len.Post T l c W w C m κs a s f → r ≡ s
len-unique T l c W w C m κs a r s e f p q = p.0 ∙ sym q.0

pub as-slice-unique : (T l c W w C m κs a r s e f : _) → as-slice.Post T l c W w C m κs a r e → as-slice.Post T l c W w C m κs a s f → r.now ≡ s.now
as-slice-unique T l c W w C m κs a r s e f p q = p.0 ∙ sym q.0

pub words-unique : (T l c W w C m κs a r s e f : _) → words.Post T l c W w C m κs a r e → words.Post T l c W w C m κs a s f → r ≡ s
words-unique T l c W w C m κs a r s e f p q = p ∙ sym q

pub push-unique : (T l c W w C m κs a r s e f : _) → push.Post T l c W w C m κs a r e → push.Post T l c W w C m κs a s f → e.0.now ≡ f.0.now
push-unique T l c W w C m κs a r s e f p q = same-row e.0.now f.0.now (p ∙ sym q)

pub truncate-unique : (T l c W w C m κs a r s e f : _) → truncate.Post T l c W w C m κs a r e → truncate.Post T l c W w C m κs a s f → e.0.now ≡ f.0.now
truncate-unique T l c W w C m κs a r s e f p q = same-row e.0.now f.0.now (p ∙ sym q)

-- a clone is the row, and there always is one
pub clone-unique : (T l c W w C m κs a r s e f : _) → clone.Post T l c W w C m κs a r e → clone.Post T l c W w C m κs a s f → r ≡ s
clone-unique T l c W w C m κs a (Ok v) (Ok u) e f p q = ap Ok (p ∙ sym q)
clone-unique T l c W w C m κs a (Ok v) (Err y) e f p q = absurd (q tt)
clone-unique T l c W w C m κs a (Err x) s e f p q = absurd (p tt)
