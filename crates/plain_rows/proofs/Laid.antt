-- Four parts laid one after the other into a row that they fill. Assumes nothing.
use mathlib.Core.Path.{◌≡◌, refl, sym, ap, ◌∙◌}
use mathlib.Core.List.{List, [], ◌∷◌, ◌++◌, append_assoc}
use Prim.Native.Nat.{ℕ, ◌+◌}
use native.Mathlib.Omega.{arith}
use lib.ListN.{length, drop, length-append, length-drop}
use lib.Seq.{take_at, drop_at}
use lib.IntN.{ℤ}
use borrow.Rule.Slice.PartMut.{put_mid, post_of}

append-none : (p q : List ℤ) → length q ≡ 0 → p ++ q ≡ p
append-none [] [] e = refl
append-none [] (y ∷ q) e = absurd (omega arith)
append-none (x ∷ p) q e = ap (λ (l : List ℤ). x ∷ l) (append-none p q e)

-- a part put right behind p
put-behind : (p q ys : List ℤ) (n k : ℕ) → length p ≡ n → put_mid n k (p ++ q) ys ≡ (p ++ ys) ++ drop k q
put-behind p q ys n k e =
    ap (λ (l : List ℤ). l ++ (ys ++ drop k (drop n (p ++ q)))) (take_at p q n e)
    ∙ ap (λ (l : List ℤ). p ++ (ys ++ drop k l)) (drop_at p q n e)
    ∙ sym (append_assoc p ys (drop k q))

-- what is left of a row once its k first are gone
left : (k n : ℕ) (q : List ℤ) → length q ≡ k + n → length (drop k q) ≡ n
left k n q e = length-drop k q ∙ omega arith

pub joined : (p q : List ℤ) (m n : ℕ) → length p ≡ m → length q ≡ n → length (p ++ q) ≡ m + n
joined p q m n e f = length-append p q ∙ omega arith

-- 640, 96, 24 and 7 words fill 767
pub laid-words : (w a b s t : List ℤ) → length w ≡ 767 → length a ≡ 640 → length b ≡ 96 → length s ≡ 24
    → put_mid 760 7 (put_mid 736 24 (put_mid 640 96 (a ++ post_of 0 640 w) b) s) t ≡ ((a ++ b) ++ s) ++ t
laid-words w a b s t ew ea eb es =
    let q1 = drop 640 w in
    let q2 = drop 96 q1 in
    let q3 = drop 24 q2 in
    let e1 : length q1 ≡ 127 = left 640 127 w ew in
    let e2 : length q2 ≡ 31 = left 96 31 q1 e1 in
    let e3 : length q3 ≡ 7 = left 24 7 q2 e2 in
    let ab : length (a ++ b) ≡ 736 = joined a b 640 96 ea eb in
    let abs : length ((a ++ b) ++ s) ≡ 760 = joined (a ++ b) s 736 24 ab es in
    ap (λ (l : List ℤ). put_mid 760 7 (put_mid 736 24 l s) t) (put-behind a q1 b 640 96 ea)
    ∙ ap (λ (l : List ℤ). put_mid 760 7 l t) (put-behind (a ++ b) q2 s 736 24 ab)
    ∙ put-behind ((a ++ b) ++ s) q3 t 760 7 abs
    ∙ append-none (((a ++ b) ++ s) ++ t) (drop 7 q3) (left 7 0 q3 e3)
