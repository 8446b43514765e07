-- A walk under way: what was met so far, and what is met from here on, is what the whole walk meets. Assumes nothing.
use Prim.Native.Nat.{ℕ, zero, suc, ◌+◌, ◌-◌, ◌≤◌, ◌<◌}
use native.Mathlib.Omega.{arith}
use mathlib.Core.Path.{◌≡◌, refl, sym, ◌∙◌}
use mathlib.Core.Bool.{Bool, true, false, not}
use mathlib.Core.List.{List}
use lib.ListN.{length}
use lib.Dec.{leb, eqb, eqb-suc-zero}
use borrow.Author.Tests.{leb-true, leb-false, le-leb, lt-leb}
use Rattle.fixed.specs.Iter.{either}
use Rattle.wav_file.specs.Bytes.{named}
use Rattle.wav_file.specs.Riff.{size_at, is_format, is_data, whole, after, is_last, chunks_from, first}
use Rattle.wav_file.specs.Find.{past_at, format_at, data_at, runs_past}
use Rattle.std.specs.Prelude.{Option, Some, None, Ok, Err}
use Rattle.std.specs.Option.{option_or}
use Rattle.wav_file.specs.declared.refusal.Refusal.TheVariants.{RunsPast}
use Rattle.wav_file.specs.Marks.{place, marks_of, format_with}
use Rattle.wav_file.proofs.Walks.{after_more, chunks-end, chunks-more, is-not-last}
use Rattle.wav_file.proofs.Apart.{last-data, two-names}

-- with the first `fmt ` so far the walk has come to `at`, and has met no chunk past the end and no `data`
pub record Going (f : List ℕ) (fmt : Option ℕ) (at : ℕ) : Type 0 where
  pub from : 12 ≤ at
  pub past : past_at f ≡ first (λ p. not (whole f p)) (chunks_from f at)
  pub format : place (format_at f) ≡ option_or fmt (place (first (is_format f) (chunks_from f at)))
  pub dat : data_at f ≡ first (is_data f) (chunks_from f at)

pub going_start : (f : List ℕ) → Going f None 12
unfolding past_at format_at data_at
going_start f = record { from = omega arith; past = refl; format = refl; dat = refl }

not-zero : (n : ℕ) → 0 < n → eqb n 0 ≡ false
not-zero zero h = absurd (omega arith)
not-zero (suc n) h = eqb-suc-zero n

placed : (n : ℕ) → 0 < n → place n ≡ Some n
placed zero h = absurd (omega arith)
placed (suc n) h = refl

last-past : (f : List ℕ) (at : ℕ) → whole f at ≡ false → is_last f at ≡ true
unfolding is_last
last-past f at w = rw w

-- a chunk runs past the end
pub going-past : (f : List ℕ) (fmt : Option ℕ) (at : ℕ) → Going f fmt at → at < length f → whole f at ≡ false → marks_of f ≡ Err RunsPast
unfolding marks_of runs_past
going-past f fmt at g l w =
    let e : past_at f ≡ at = g.past ∙ rw (chunks-more f at l, w) in
    rw (e, not-zero at (omega (arith, g.from)))

-- the first `data`
pub going-data : (f : List ℕ) (fmt : Option ℕ) (at : ℕ) → Going f fmt at → at < length f → whole f at ≡ true → is_data f at ≡ true
    → marks_of f ≡ Ok (record { format = format_with f at fmt; body = Some at })
unfolding marks_of runs_past format_with
going-data f fmt at g l w d =
    let z = last-data f at d in
    let e : past_at f ≡ 0 = g.past ∙ rw (chunks-more f at l, w, z) in
    let n : is_format f at ≡ false = no-format (is_format f at) refl in
    let u : place (format_at f) ≡ format_with f at fmt = g.format ∙ rw (chunks-more f at l, n, z) (kept fmt n) in
    let v : data_at f ≡ at = g.dat ∙ rw (chunks-more f at l, d) in
    rw (e, u, v, placed at (omega (arith, g.from)))
  where
    no-format : (b : Bool) → is_format f at ≡ b → is_format f at ≡ false
    no-format true q = absurd (two-names f at d q)
    no-format false q = q

    kept : (fmt : Option ℕ) → is_format f at ≡ false → option_or fmt None ≡ format_with f at fmt
    kept None n = rw n
    kept (Some p) n = refl

-- any other chunk
pub going_next : (f : List ℕ) (fmt : Option ℕ) (at : ℕ) → Going f fmt at → at < length f → whole f at ≡ true → is_data f at ≡ false
    → Going f (format_with f at fmt) (after f at)
unfolding format_with
going_next f fmt at g l w d =
    let z = is-not-last f at w d in
    record {
      from = omega (arith, g.from, after_more f at);
      past = g.past ∙ rw (chunks-more f at l, w, z);
      format = g.format ∙ rw (chunks-more f at l, z) (turn fmt (is_format f at) refl (first (is_format f) (chunks_from f (after f at))));
      dat = g.dat ∙ rw (chunks-more f at l, d, z);
    }
  where
    turn : (fmt : Option ℕ) (b : Bool) → is_format f at ≡ b → (r : ℕ) → option_or fmt (place (either b at r)) ≡ option_or (format_with f at fmt) (place r)
    turn None true e r = rw (e, placed at (omega (arith, g.from)))
    turn None false e r = rw e
    turn (Some p) b e r = refl

-- the end of the file
pub going_end : (f : List ℕ) (fmt : Option ℕ) (at : ℕ) → Going f fmt at → length f ≤ at → marks_of f ≡ Ok (record { format = fmt; body = None })
unfolding marks_of runs_past
going_end f fmt at g l =
    let e : past_at f ≡ 0 = g.past ∙ rw (chunks-end f at l) in
    let u : place (format_at f) ≡ fmt = g.format ∙ rw (chunks-end f at l) (or-none fmt) in
    let v : data_at f ≡ 0 = g.dat ∙ rw (chunks-end f at l) in
    rw (e, u, v)
  where
    or-none : (fmt : Option ℕ) → option_or fmt None ≡ fmt
    or-none None = refl
    or-none (Some p) = refl

-- a chunk that lies in the file
pub whole_le : (f : List ℕ) (at : ℕ) → whole f at ≡ true → at + 8 + size_at f at ≤ length f
unfolding whole
whole_le f at w = leb-true _ _ w

pub is_whole : (f : List ℕ) (at : ℕ) → at + 8 + size_at f at ≤ length f → whole f at ≡ true
unfolding whole
is_whole f at h = le-leb (at + 8 + size_at f at) (length f) h

-- one that doesn't
pub not-whole : (f : List ℕ) (at : ℕ) → length f < at + 8 + size_at f at → whole f at ≡ false
unfolding whole
not-whole f at h = lt-leb (at + 8 + size_at f at) (length f) h

-- as where fewer than eight bytes are left
pub no-head : (f : List ℕ) (at : ℕ) → length f - at < 8 → whole f at ≡ false
no-head f at h = not-whole f at (omega arith)

-- whether what head and content need is left
pub whole-room : (f : List ℕ) (at need : ℕ) → 8 ≤ length f - at → need ≡ 8 + size_at f at → leb need (length f - at) ≡ whole f at
whole-room f at need h e = turn (leb need (length f - at)) refl
  where
    turn : (b : Bool) → leb need (length f - at) ≡ b → b ≡ whole f at
    turn true q = sym (is_whole f at (omega (arith, leb-true need (length f - at) q)))
    turn false q = sym (not-whole f at (omega (arith, leb-false need (length f - at) q)))

-- the first `fmt `, by the chunk's name
pub format-met : (f : List ℕ) (at : ℕ) (fmt : Option ℕ) → named f at 102 109 116 32 ≡ true → option_or fmt (Some at) ≡ format_with f at fmt
unfolding format_with is_format
format-met f at None e = rw e
format-met f at (Some p) e = refl

pub format-kept : (f : List ℕ) (at : ℕ) (fmt : Option ℕ) → named f at 102 109 116 32 ≡ false → fmt ≡ format_with f at fmt
unfolding format_with is_format
format-kept f at None e = rw e
format-kept f at (Some p) e = refl
