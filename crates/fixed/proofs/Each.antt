-- A loop that makes each place of a row anew, from what stood there: turn k writes place k. Of any row. Assumes nothing.
use Prim.Native.Nat.{ℕ, zero, suc, ◌<◌, ◌≤◌}
use native.Mathlib.Omega.{arith}
use mathlib.Core.Path.{◌≡◌, refl, ap, ◌∙◌}
use mathlib.Core.List.{List}
use lib.ListN.{get_or, set, length, length-set}
use lib.Seq.{get_or-set_same, get_or-set_other}
use Rattle.fixed.specs.Iter.{iter}
use Rattle.fixed.proofs.Iters.{one_more}

-- place k
abbrev pub each_turn : {A : Type 0} → A → (ℕ → A → A) → ℕ → List A → List A
each_turn d F k l = set l k (F k (get_or l k d))

pub each_long : {A : Type 0} (d : A) (F : ℕ → A → A) (n : ℕ) (l : List A) → length (iter (each_turn d F) n l) ≡ length l
each_long d F zero l = refl
each_long d F (suc n) l = length-set (iter (each_turn d F) n l) n _ ∙ each_long d F n l

-- a place that no turn has come to
pub each-past : {A : Type 0} (d : A) (F : ℕ → A → A) (n : ℕ) (l : List A) (j : ℕ) → n ≤ j → get_or (iter (each_turn d F) n l) j d ≡ get_or l j d
each-past d F zero l j h = refl
each-past d F (suc n) l j h = get_or-set_other (iter (each_turn d F) n l) n j _ d (λ e. omega arith) ∙ each-past d F n l j (omega arith)

-- a place that a turn made
pub each_in : {A : Type 0} (d : A) (F : ℕ → A → A) (n : ℕ) (l : List A) (j : ℕ) → j < n → j < length l
    → get_or (iter (each_turn d F) n l) j d ≡ F j (get_or l j d)
each_in d F zero l j h k = absurd (omega arith)
each_in d F (suc n) l j h k =
    one_more (λ i. i < length l → get_or (iter (each_turn d F) (suc n) l) i d ≡ F i (get_or l i d)) j n h
    (λ e m. get_or-set_other (iter (each_turn d F) n l) n j _ d (λ z. omega arith) ∙ each_in d F n l j e m)
    (λ m.
    get_or-set_same (iter (each_turn d F) n l) n _ d (let z = each_long d F n l in omega arith)
    ∙ ap (F n) (each-past d F n l n (omega arith)))
    k
