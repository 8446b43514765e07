-- The number of a fault is at most that of the words after the last section. Assumes nothing.
use mathlib.Core.Bool.{Bool, true, false}
use mathlib.Core.List.{List, [], ◌∷◌}
use Prim.Native.Nat.{ℕ, suc, ◌+◌, ◌≤◌}
use native.Mathlib.Omega.{arith}
use lib.ListN.{length}
use lib.IntN.{ℤ}
use lib.Dec.{eqb, ltb}
use Rattle.fixed.specs.Iter.{either}
use Rattle.sheet_words.specs.Number.{Read, got, bad, run, separator}
use Rattle.sheet_form.specs.Sections.{Kind, Reading, fault, sheet, layout, section, after, or_fault, ended, sections, reading}

-- a fault's number is at most n
abbrev pub FaultMost : ℕ → Reading → Type 0
FaultMost n (fault k) = k ≤ n
FaultMost n (sheet rows) = Unit {0}

after-most : (n : ℕ) (zs : List ℤ) (m : Reading) → FaultMost n m → FaultMost n (after zs m)
unfolding after
after-most n zs (fault k) h = h
after-most n zs (sheet rows) h = tt

or_most : (n k : ℕ) (m : Read (List ℤ)) (next : List ℕ → Reading) → k ≤ n → ((s : List ℕ) → FaultMost n (next s)) → FaultMost n (or_fault k m next)
unfolding or_fault
or_most n k (got zs s) next h f = after-most n zs (next s) (f s)
or_most n k bad next h f = h

either-most : (n : ℕ) (b : Bool) (x y : Reading) → FaultMost n x → FaultMost n y → FaultMost n (either b x y)
either-most n true x y h l = h
either-most n false x y h l = l

-- these sections, of which the first is section k
sections-most : (n : ℕ) (kinds : List Kind) (k : ℕ) (s : List ℕ) → k + length kinds ≤ n → FaultMost n (sections kinds k s)
unfolding sections ended
sections-most n [] k s h = either-most n (eqb (run separator s) (length s)) (sheet []) (fault k) tt (omega arith)
sections-most n (kind ∷ kinds) k s h = or_most n k (section kind s) (sections kinds (suc k)) (omega arith) (λ t. sections-most n kinds (suc k) t (omega arith))

-- with the length looked at first
pub found-most : (n : ℕ) (kinds : List Kind) (s : List ℕ) → 1 + length kinds ≤ n → FaultMost n (either (ltb 65536 (length s)) (fault 0) (sections kinds 1 s))
found-most n kinds s h = either-most n (ltb 65536 (length s)) (fault 0) (sections kinds 1 s) (omega arith) (sections-most n kinds 1 s h)

-- of a call sheet: at most 11
pub reading-most : (s : List ℕ) → FaultMost 11 (reading s)
unfolding reading layout
reading-most s = found-most 11 layout s (omega arith)
