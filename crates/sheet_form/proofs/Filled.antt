-- A row with one number more. Assumes nothing.
use mathlib.Core.Path.{◌≡◌, refl, sym, ap, ◌∙◌}
use mathlib.Core.List.{List, [], ◌∷◌, ◌++◌}
use Prim.Native.Nat.{ℕ, suc, ◌+◌, ◌-◌, ◌≤◌, ◌<◌}
use native.Mathlib.Omega.{arith}
use lib.ListN.{length, replicate, take, set}
use lib.Seq.{take-append_seam}
use Rattle.sheet_form.specs.Rows.{filled}

module _ {T : Type 0} where
  -- the first place after the numbers
  set-next : (zs : List T) (m : ℕ) (x z : T) → set (zs ++ replicate (suc m) z) (length zs) x ≡ (zs ++ (x ∷ [])) ++ replicate m z
  set-next [] m x z = refl
  set-next (y ∷ zs) m x z = ap (λ (l : List T). y ∷ l) (set-next zs m x z)

  one-more : (zs : List T) (x : T) → length (zs ++ (x ∷ [])) ≡ length zs + 1
  one-more [] x = refl
  one-more (y ∷ zs) x = let e = one-more zs x in omega arith

  set-filled : (zs : List T) (n : ℕ) (x z : T) → length zs ≡ n → n < 320 → set (filled z zs) n x ≡ filled z (zs ++ (x ∷ []))
  set-filled zs n x z e h =
      let left : 320 - length zs ≡ suc (320 - length (zs ++ (x ∷ []))) = omega (arith, one-more zs x) in
      rw (← e, left) (set-next zs (320 - length (zs ++ (x ∷ []))) x z)

  pushed-by : (xs zs : List T) (n : ℕ) (x z : T) → n < 320 → length zs ≡ n → xs ≡ filled z zs
      → (take (n + 1) (set xs n x) ≡ zs ++ (x ∷ [])) × (set xs n x ≡ filled z (zs ++ (x ∷ [])))
  pushed-by xs zs n x z h e f =
      let ws = zs ++ (x ∷ []) in
      let whole : set xs n x ≡ filled z ws = rw f (set-filled zs n x z e h) in
      let long : n + 1 ≡ length ws = omega (arith, one-more zs x) in
      (ap (take (n + 1)) whole ∙ rw long (take-append_seam ws (replicate (320 - length ws) z)), whole)

  -- what holds of a row holds with one number more
  pub pushed : (xs : List T) (n : ℕ) (x z : T) → n < 320 → length (take n xs) ≡ n → xs ≡ filled z (take n xs)
      → (n + 1 ≤ 320) × (length (take (n + 1) (set xs n x)) ≡ n + 1) × (set xs n x ≡ filled z (take (n + 1) (set xs n x)))
  pushed xs n x z h e f =
      let p = pushed-by xs (take n xs) n x z h e f in
      let long : length (take (n + 1) (set xs n x)) ≡ n + 1 = ap length p.0 ∙ one-more (take n xs) x ∙ ap (λ (m : ℕ). m + 1) e in
      (omega arith, long, p.1 ∙ ap (filled z) (sym p.0))
