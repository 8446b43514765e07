-- A row copied in one piece is the row copied word by word. Assumes nothing.
use Rattle.std.specs.Prelude.{ℕ, zero, suc, ◌+◌, ◌<◌, ◌≤◌, List, length, get_or, set, drop, ℤ, pos}
use mathlib.Core.Path.{◌≡◌, sym, ap, ◌∙◌}
use native.Mathlib.Omega.{arith}
use lib.ListN.{length-drop}
use Rattle.std.proofs.Math.Seq.{paste, paste-zero, paste-suc}
use Rattle.std.proofs.lemmas.List.{get_or-drop}
use Rattle.std.proofs.lemmas.List.Edits.{drop-paste}
use Rattle.fixed.specs.Iter.{iter}
use Rattle.fixed.specs.Row.{word}
use Rattle.word_steps.specs.Tail.{down_turn, words_turn}

-- words from a on of another row
pub copied : (from : List ℤ) (a m : ℕ) (l : List ℤ) → a + m ≤ length from → m ≤ length l → paste l 0 (drop a from) m ≡ iter (words_turn from a) m l
copied from a zero l h k = sym (paste-zero l 0 (drop a from))
copied from a (suc m) l h k =
    let r : m < length (drop a from) = rw (length-drop a from) (omega arith) in
    let z : m ≡ 0 + m = omega arith in
    let e : word from (a + m) ≡ get_or (drop a from) m (pos 0) = sym (get_or-drop a from m (pos 0)) in
    sym (ap (λ (t : List ℤ). set t m (word from (a + m))) (sym (copied from a m l (omega arith) (omega arith)))
    ∙ ap (set (paste l 0 (drop a from) m) m) e
    ∙ ap (λ (i : ℕ). set (paste l 0 (drop a from) m) i (get_or (drop a from) m (pos 0))) z
    ∙ paste-suc l 0 (drop a from) m (pos 0) (omega arith) r)

-- what a copy has not reached is as it was
beyond : (d s : List ℤ) (m i : ℕ) → m ≤ length s → get_or (paste d 0 s m) (m + i) (pos 0) ≡ get_or d (m + i) (pos 0)
beyond d s m i h =
    let z : m ≡ 0 + m = omega arith in
    let e : drop m (paste d 0 s m) ≡ drop m d =
    ap (λ (k : ℕ). drop k (paste d 0 s m)) z ∙ drop-paste d 0 s m (omega arith) h ∙ ap (λ (k : ℕ). drop k d) (sym z) in
    sym (get_or-drop m (paste d 0 s m) i (pos 0)) ∙ ap (λ (t : List ℤ). get_or t i (pos 0)) e ∙ get_or-drop m d i (pos 0)

-- words of the same row, s places further on
pub moved : (s m : ℕ) (l : List ℤ) → s + m ≤ length l → paste l 0 (drop s l) m ≡ iter (down_turn s) m l
moved s zero l h = sym (paste-zero l 0 (drop s l))
moved s (suc m) l h =
    let r : m < length (drop s l) = rw (length-drop s l) (omega arith) in
    let p : List ℤ = paste l 0 (drop s l) m in
    let z : m ≡ 0 + m = omega arith in
    let c : s + m ≡ m + s = omega arith in
    let e : word p (s + m) ≡ get_or (drop s l) m (pos 0) =
    ap (word p) c ∙ beyond l (drop s l) m s (omega arith) ∙ ap (word l) (sym c) ∙ sym (get_or-drop s l m (pos 0)) in
    sym (ap (λ (t : List ℤ). set t m (word t (s + m))) (sym (moved s m l (omega arith)))
    ∙ ap (set p m) e
    ∙ ap (λ (i : ℕ). set p i (get_or (drop s l) m (pos 0))) z
    ∙ paste-suc l 0 (drop s l) m (pos 0) (omega arith) r)
