-- Bytes appended to a page. Assumes nothing.
use mathlib.Core.Path.{◌≡◌, refl, sym, ap, ◌∙◌, subst}
use mathlib.Core.List.{List, [], ◌∷◌, ◌++◌, append_assoc, append-nil}
use Prim.Native.Nat.{ℕ, suc, ◌+◌, ◌≤◌, ◌<◌}
use native.Mathlib.Omega.{arith}
use native.Mathlib.Numerals.{add-one}
use borrow.Author.Tests.{lt-ltb, le-ltb, ltb-true}
use lib.ListN.{length, drop, take, get_or, set, length-set, take-append-drop}
use lib.Seq.{take-append_seam, drop-cons, drop-length, take-suc-set, drop-set-lt}
use lib.Dec.{ltb}
use Rattle.fixed.proofs.Iters.{either-all}
use Rattle.pages.specs.Page.{Page, page, put, puts}
use Rattle.pages.specs.declared.page.Page.{Page as Lent}
use Rattle.pages.specs.Added.{written, Added}

pub put_in : (b n : ℕ) (out : List ℕ) → n < length out → page (n + 1) (set out n b) ≡ put b (page n out)
unfolding put
put_in b n out h = rw (lt-ltb n (length out) h)

pub put_full : (b n : ℕ) (out : List ℕ) → length out ≤ n → page n out ≡ put b (page n out)
unfolding put
put_full b n out h = rw (le-ltb n (length out) h)

-- one byte more of a row
pub puts-more : (bytes : List ℕ) (i : ℕ) (p : Page) → i < length bytes → puts (drop i bytes) p ≡ puts (drop (i + 1) bytes) (put (get_or bytes i 0) p)
unfolding puts
puts-more bytes i p h = rw (drop-cons bytes i 0 h, add-one)

pub puts-done : (bytes : List ℕ) (i : ℕ) (p : Page) → i ≡ length bytes → puts (drop i bytes) p ≡ p
unfolding puts
puts-done bytes i p e = rw (e, drop-length bytes)

-- one text after another
pub puts-append : (s t : List ℕ) (p : Page) → puts (s ++ t) p ≡ puts t (puts s p)
unfolding puts
puts-append [] t p = refl
puts-append (b ∷ s) t p = puts-append s t (put b p)

pub puts_one : (b : ℕ) (p : Page) → puts (b ∷ []) p ≡ put b p
unfolding puts
puts_one b p = refl

-- ---- no more bytes are in use than the buffer has
put-within : (b : ℕ) (p : Page) → p.used ≤ length p.bytes → (put b p).used ≤ length (put b p).bytes
unfolding put
put-within b p h =
    either-all (λ (q : Page). q.used ≤ length q.bytes) (ltb p.used (length p.bytes)) _ _
    (λ e. let l = ltb-true p.used (length p.bytes) e in omega (arith, length-set p.bytes p.used b)) (λ e. h)

puts-within : (s : List ℕ) (p : Page) → p.used ≤ length p.bytes → (puts s p).used ≤ length (puts s p).bytes
unfolding puts
puts-within [] p h = h
puts-within (b ∷ s) p h = puts-within s (put b p) (put-within b p h)

-- .. after a text is put on an empty page
pub puts-used : (s out bytes : List ℕ) (used : ℕ) → page used bytes ≡ puts s (page 0 out) → used ≤ length bytes
puts-used s out bytes used e = subst (λ (p : Page). p.used ≤ length p.bytes) (sym e) (puts-within s (page 0 out) (omega arith))

-- ---- where there is room
take-one : (out : List ℕ) (n b : ℕ) → n < length out → take (n + 1) (set out n b) ≡ take n out ++ (b ∷ [])
take-one out n b h = rw (add-one n) (take-suc-set out n b h)

-- the text stands after what was in use, and the bytes after it stay
pub puts-room : (s out : List ℕ) (n : ℕ) → n + length s ≤ length out → puts s (page n out) ≡ page (n + length s) ((take n out ++ s) ++ drop (n + length s) out)
unfolding puts
puts-room [] out n h = let e : n + 0 ≡ n = omega arith in rw (e, append-nil (take n out), take-append-drop n out)
puts-room (b ∷ s) out n h =
    let k : n < length out = omega arith in
    let e : n + 1 + length s ≡ n + suc (length s) = omega arith in
    ap (puts s) (sym (put_in b n out k))
    ∙ puts-room s (set out n b) (n + 1) (rw (length-set out n b) (omega arith))
    ∙ rw (e, take-one out n b k, append_assoc (take n out) (b ∷ []) s, drop-set-lt (n + suc (length s)) out n b (omega arith))

-- .. from the start of the page
pub puts_first : (s out : List ℕ) → length s ≤ length out → puts s (page 0 out) ≡ page (length s) (s ++ drop (length s) out)
puts_first s out h = let e : 0 + length s ≡ length s = omega arith in rw e at (puts-room s out 0 (omega arith))

-- so a page that has room for the text holds it: the first bytes, as many as are in use
pub puts-leaves : (s out bytes : List ℕ) (used : ℕ) → page used bytes ≡ puts s (page 0 out) → length s ≤ length out → take used bytes ≡ s
puts-leaves s out bytes used e h =
    let w = e ∙ puts_first s out h in
    rw (ap (λ (p : Page). p.used) w, ap (λ (p : Page). p.bytes) w) (take-append_seam s (drop (length s) out))

-- ---- a program's page
-- on the page `out` stands the text, whole: the page's own equation, its first bytes, and that the count is within it
pub record Whole (text out bytes : List ℕ) (used : ℕ) : Type 0 where
  pub put : page used bytes ≡ puts text (page 0 out)
  pub text-first : take used bytes ≡ text
  pub within : used ≤ length bytes

-- the text of s, which is t, on a page that has room for the text of t
pub whole-page : (text : List ℕ → List ℕ) (s t out bytes : List ℕ) (used : ℕ) → s ≡ t → length (text t) ≤ length out → page used bytes ≡ puts (text s) (page 0 out)
    → Whole (text t) out bytes used
whole-page text s t out bytes used e h p =
    let q : page used bytes ≡ puts (text t) (page 0 out) = rw e at p in
    record { put = q; text-first = puts-leaves (text t) out bytes used q h; within = puts-used (text t) out bytes used q }

-- ---- a page of the code, text after text
pub added_none : (p : Lent) → Added p [] p
unfolding puts
added_none p = record { lent = refl; puts = refl }

pub added_then : {p q r : Lent} (s t : List ℕ) → Added p s q → Added q t r → Added p (s ++ t) r
added_then {p = p} s t a b = record { lent = b.lent ∙ a.lent; puts = b.puts ∙ ap (puts t) a.puts ∙ sym (puts-append s t (written p)) }

-- the same text, otherwise written
pub added_as : {p q : Lent} {s t : List ℕ} → s ≡ t → Added p s q → Added p t q
added_as {p = p} {q = q} e a = subst (λ (s : List ℕ). Added p s q) e a
