-- Any two outcomes that a public function's contract allows are equal: each contract leaves one, count and bytes, in the same lent buffer. Assumes nothing.
use mathlib.Core.Path.{◌≡◌, sym, ap, ◌∙◌}
use Prim.Native.Nat.{ℕ}
use mathlib.Core.List.{List}
use Rattle.pages.specs.declared.page.Page.{Page as Lent}
use Rattle.pages.specs.Page.{Page, page}
use Rattle.pages.specs.Added.{Added}
use Rattle.pages.proofs.page.Page.on.Reads as on
use Rattle.pages.proofs.page.Page.used.Reads as used
use Rattle.pages.proofs.page.Page.text.Reads as text
use Rattle.pages.proofs.page.Page.put.Reads as put
use Rattle.pages.proofs.page.Page.put_all.Reads as put_all_lem
use Rattle.pages.proofs.page.Page.digits.Reads as digits
use Rattle.pages.proofs.page.Page.decimal.Reads as decimal
use Rattle.pages.proofs.number.I8Number.value.Reads as value8
use Rattle.pages.proofs.number.I16Number.value.Reads as value16
use Rattle.pages.proofs.number.I32Number.value.Reads as value32
use Rattle.pages.proofs.number.U32Number.value.Reads as value-plain

-- a page's parts
pub parts : (m n : ℕ) (s t : List ℕ) → page m s ≡ page n t → (m ≡ n) × (s ≡ t)
parts m n s t e = (ap (λ (p : Page). p.used) e, ap (λ (p : Page). p.bytes) e)

-- two pages have as many bytes in use, the same bytes, and stand in the same buffer
pub record Alike (p q : Lent) : Type 0 where
  pub used : p.used ≡ q.used
  pub bytes : p.bytes.now ≡ q.bytes.now
  pub lent : p.bytes.ghost_name ≡ q.bytes.ghost_name

-- a page with a text put on it is one page
pub added-once : (p q r : Lent) (text : List ℕ) → Added p text q → Added p text r → Alike q r
added-once p q r text a b =
    let e = parts q.used r.used q.bytes.now r.bytes.now (a.puts ∙ sym b.puts) in
    record { used = e.0; bytes = e.1; lent = a.lent ∙ sym b.lent }

pub on-unique : (κs a r s e f : _) → on.Post κs a r e → on.Post κs a s f → Alike r s
on-unique κs a r s e f p q =
    let w = parts r.used s.used r.bytes.now s.bytes.now (p.1 ∙ sym q.1) in
    record { used = w.0; bytes = w.1; lent = p.0 ∙ sym q.0 }

pub used-unique : (κs a r s e f : _) → used.Post κs a r e → used.Post κs a s f → r ≡ s
used-unique κs a r s e f p q = p ∙ sym q

pub text-unique : (κs a r s e f : _) → text.Post κs a r e → text.Post κs a s f → r.now ≡ s.now
text-unique κs a r s e f p q = p ∙ sym q

pub put-unique : (κs a r s e f : _) → put.Post κs a r e → put.Post κs a s f → Alike e.0.now f.0.now
put-unique κs a r s e f p q = added-once _ _ _ _ p q

pub put-all-unique : (κs a r s e f : _) → put_all_lem.Post κs a r e → put_all_lem.Post κs a s f → Alike e.0.now f.0.now
put-all-unique κs a r s e f p q = added-once _ _ _ _ p q

pub digits-unique : (κs a r s e f : _) → digits.Post κs a r e → digits.Post κs a s f → Alike e.0.now f.0.now
digits-unique κs a r s e f p q = added-once _ _ _ _ p q

-- .. of a number of any type that can be printed
pub decimal-unique : (T l c N n C m κs a r s e f : _) → decimal.Post T l c N n C m κs a r e → decimal.Post T l c N n C m κs a s f → Alike e.0.now f.0.now
decimal-unique T l c N n C m κs a r s e f p q = added-once _ _ _ _ p q

-- ---- the value that is printed of a number
pub value8-unique : (κs a r s e f : _) → value8.Post κs a r e → value8.Post κs a s f → r ≡ s
value8-unique κs a r s e f p q = p ∙ sym q

pub value16-unique : (κs a r s e f : _) → value16.Post κs a r e → value16.Post κs a s f → r ≡ s
value16-unique κs a r s e f p q = p ∙ sym q

pub value32-unique : (κs a r s e f : _) → value32.Post κs a r e → value32.Post κs a s f → r ≡ s
value32-unique κs a r s e f p q = p ∙ sym q

pub value-plain-unique : (κs a r s e f : _) → value-plain.Post κs a r e → value-plain.Post κs a s f → r ≡ s
value-plain-unique κs a r s e f p q = p ∙ sym q
