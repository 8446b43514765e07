-- What is passed over is not looked at: two files of one length that differ only in RIFF's size, pad bytes, contents of other chunks than the first
-- `fmt `, in that the bytes a second, the bytes a sample and what is beyond 16 bytes, or bytes behind the first `data`'s head give the same answer,
-- place, length and rate. Assumes nothing.
use Prim.Native.Nat.{ℕ, ◌+◌, ◌≤◌, ◌<◌}
use native.Mathlib.Omega.{arith}
use mathlib.Core.Path.{◌≡◌, sym, subst}
use mathlib.Core.Logic.{◌⊎◌, ⊎_elim}
use mathlib.Core.Bool.{true, false}
use mathlib.Core.List.{List}
use lib.ListN.{length}
use Rattle.wav_file.specs.Bytes.{byte}
use Rattle.wav_file.specs.Riff.{size_at, is_format, is_data, after, is_last, chunks}
use Rattle.wav_file.specs.Find.{format_at, data_at, no_format, found}
use Rattle.wav_file.specs.Walked.{In, Looked, riff, wave, head, format, width, Skipped, size, pad, content, unused, beyond, behind}
use Rattle.wav_file.proofs.Firsts.{clash, first-hit}
use Rattle.wav_file.proofs.Apart.{Apart, one, up, down, apart, after_is, data-named, data-last, two-names}
use Rattle.wav_file.proofs.Part.{format-is}
use Rattle.wav_file.proofs.Walks.{after_more, places}
use Rattle.wav_file.proofs.Same.{same-found}

-- ---- the head of a walked chunk, and the bytes of the first `fmt `
-- a place from at + 8 on and before the chunk behind is in no head
clear-head : (f : List ℕ) (p a b : ℕ) → Apart f a b → a + 8 ≤ p → p < after f a → b ≤ p → p < b + 8 → ⊥
clear-head f p a b (one e) l u k v = omega arith
clear-head f p a b (up g w) l u k v = omega arith
clear-head f p a b (down g w) l u k v = omega (arith, after_more f b)

-- and in no `fmt ` other than this chunk
clear-format : (f : List ℕ) (p a b : ℕ) → (a ≡ b → ⊥) → Apart f a b → 16 ≤ size_at f b → a + 8 ≤ p → p < after f a → b + 8 ≤ p → p < b + 24 → ⊥
clear-format f p a b n (one e) s l u k v = n e
clear-format f p a b n (up g w) s l u k v = omega arith
clear-format f p a b n (down g w) s l u k v = omega (arith, after_is f b)

-- behind the last chunk's head there is no head and no `fmt `
last-head : (f : List ℕ) (p a b : ℕ) → is_last f a ≡ true → Apart f a b → a + 8 ≤ p → b ≤ p → p < b + 8 → ⊥
last-head f p a b t (one e) l k v = omega arith
last-head f p a b t (up g w) l k v = clash (is_last f a) t w
last-head f p a b t (down g w) l k v = omega (arith, after_more f b)

last-format : (f : List ℕ) (p a b : ℕ) → is_last f a ≡ true → (a ≡ b → ⊥) → Apart f a b → 16 ≤ size_at f b → a + 8 ≤ p → b + 8 ≤ p → p < b + 24 → ⊥
last-format f p a b t n (one e) s l k v = n e
last-format f p a b t n (up g w) s l k v = clash (is_last f a) t w
last-format f p a b t n (down g w) s l k v = omega (arith, after_is f b)

-- ---- what is passed over is not looked at
-- it lies in the first 16 bytes of the first `fmt ` only between its first eight and its width
not-in-format : (f : List ℕ) (p : ℕ) → Skipped f p → no_format f ≡ false → format_at f + 8 ≤ p → p < format_at f + 24
    → (format_at f + 16 ≤ p → p < format_at f + 22 → ⊥)
    → ⊥
not-in-format f p (size l u) n k v w = omega (arith, places f (format_at f) (format-is f n).within)
not-in-format f p (pad a i e o) n k v w =
    let d = format-is f n in
    clear-format f p a (format_at f) (λ q. omega (arith, d.size, subst (λ (x : ℕ). p ≡ x + 8 + size_at f x) q e)) (apart f a (format_at f) i d.within) d.size (omega arith) (omega (arith, after_is f a)) k v
not-in-format f p (content a i m l u) n k v w =
    let d = format-is f n in
    clear-format f p a (format_at f) m (apart f a (format_at f) i d.within) d.size l (omega (arith, after_is f a)) k v
not-in-format f p (unused m l u) n k v w = w l u
not-in-format f p (beyond i l u) n k v w = omega arith
not-in-format f p (behind i l) n k v w =
    let d = format-is f n in
    last-format f p (data_at f) (format_at f) (data-last f i)
    (λ q. two-names f (format_at f) (subst (λ (x : ℕ). is_data f x ≡ true) q (data-named f i)) d.name)
    (apart f (data_at f) (format_at f) i d.within)
    d.size
    l
    k
    v

pub not-looked : (f : List ℕ) (p : ℕ) → Skipped f p → Looked f p → ⊥
not-looked f p s (format n l u) = not-in-format f p s n (omega arith) (omega arith) (λ h k. omega arith)
not-looked f p s (width n l u) = not-in-format f p s n (omega arith) (omega arith) (λ h k. omega arith)
not-looked f p (size l u) (riff k) = omega arith
not-looked f p (size l u) (wave k v) = omega arith
not-looked f p (size l u) (head b j k v) = omega (arith, places f b j)
not-looked f p (pad a i e o) (riff k) = omega (arith, places f a i)
not-looked f p (pad a i e o) (wave k v) = omega (arith, places f a i)
not-looked f p (pad a i e o) (head b j k v) = clear-head f p a b (apart f a b i j) (omega arith) (omega (arith, after_is f a)) k v
not-looked f p (content a i n l u) (riff k) = omega (arith, places f a i)
not-looked f p (content a i n l u) (wave k v) = omega (arith, places f a i)
not-looked f p (content a i n l u) (head b j k v) = clear-head f p a b (apart f a b i j) l (omega (arith, after_is f a)) k v
not-looked f p (unused n l u) (riff k) = omega (arith, places f (format_at f) (format-is f n).within)
not-looked f p (unused n l u) (wave k v) = omega (arith, places f (format_at f) (format-is f n).within)
not-looked f p (unused n l u) (head b j k v) =
    let d = format-is f n in
    clear-head f p (format_at f) b (apart f (format_at f) b d.within j) (omega arith) (omega (arith, after_is f (format_at f), d.size)) k v
not-looked f p (beyond i l u) (riff k) = omega arith
not-looked f p (beyond i l u) (wave k v) = omega arith
not-looked f p (beyond i l u) (head b j k v) = clear-head f p (format_at f) b (apart f (format_at f) b i j) (omega arith) (omega (arith, after_is f (format_at f))) k v
not-looked f p (behind i l) (riff k) = omega arith
not-looked f p (behind i l) (wave k v) = omega (arith, places f (data_at f) i)
not-looked f p (behind i l) (head b j k v) = last-head f p (data_at f) b (data-last f i) (apart f (data_at f) b i j) l k v

-- the bytes of two files of one length are the same but where the first is passed over: so are the answer, the place, the length and the rate
pub indifferent : (f g : List ℕ) → length f ≡ length g → ((p : ℕ) → (byte f p ≡ byte g p) ⊎ Skipped f p) → found f ≡ found g
indifferent f g e h = same-found f g e (λ p l. ⊎_elim (λ (s : byte f p ≡ byte g p). s) (λ (s : Skipped f p). absurd (not-looked f p s l)) (h p))

-- the content of a walked chunk that is no `fmt ` is passed over
pub unknown : (f : List ℕ) (p at : ℕ) → In at (chunks f) → is_format f at ≡ false → at + 8 ≤ p → p < at + 8 + size_at f at → Skipped f p
unfolding format_at
unknown f p at i n l u =
    content at i
    (λ e. clash (is_format f at) (subst (λ (x : ℕ). is_format f x ≡ true) (sym e) (first-hit (is_format f) (chunks f) (omega (arith, places f at i))).1) n)
    l
    u
