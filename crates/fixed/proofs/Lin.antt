-- Linear arithmetic on ℤ by `omega`. `P z` is z where z is positive and 0 elsewhere, `N z` is -z where z is negative, so z is P z - N z.
-- A statement on ℤ is one on the P and N of its parts, which `omega` takes as unknown naturals. Each operation has a law on them.
use mathlib.Core.Path.{◌≡◌, sym, ap, subst}
use mathlib.Core.Bool.{Bool, true, false, not, cond}
use Prim.Native.Nat.{ℕ, zero, suc, ◌+◌, ◌-◌, ◌*◌, ◌^◌, ◌≤◌, ◌<◌}
use native.Mathlib.Omega.{arith}
use native.Mathlib.Nat.{mul-le-mul, mod-lt, div-add-mod'}
use lib.IntN.{ℤ, pos, negsuc, neg_ℤ, sub_ℕ, ◌+ℤ◌, ◌-ℤ◌, ◌*ℤ◌}
use lib.Dec.{T, ltb, ltb→lt, nltb→le, leb→le, le→leb, lt→ltb}
use lib.Signed.{lt_z, le_z, shr_z, ◌≤ℤ◌, ◌<ℤ◌, lt_z_no}
use borrow.Author.Tests.{leb-false}
use mir.Syntax.{Width}
use mir.Val.{SFits, sel, hbits}
use Rattle.fixed.specs.Wrap.{mod_z}

abbrev pub P : ℤ → ℕ
P (pos n) = n
P (negsuc n) = 0

abbrev pub N : ℤ → ℕ
N (pos n) = 0
N (negsuc n) = suc n

-- a test's two ways
pub by-test : (b : Bool) (x y : ℤ) (Q : ℤ → Type 0) → (T b → Q x) → (T (not b) → Q y) → Q (cond b x y)
by-test true x y Q f g = f tt
by-test false x y Q f g = g tt

pub by-sel : (b : Bool) (x y : ℤ) (Q : ℤ → Type 0) → (T b → Q x) → (T (not b) → Q y) → Q (sel b x y)
by-sel true x y Q f g = f tt
by-sel false x y Q f g = g tt

-- ---- an equation, the orders
pub eq_of : (a b : ℤ) → P a + N b ≡ P b + N a → a ≡ b
eq_of (pos a) (pos b) e = ap pos (omega arith)
eq_of (pos a) (negsuc b) e = absurd (omega arith)
eq_of (negsuc a) (pos b) e = absurd (omega arith)
eq_of (negsuc a) (negsuc b) e = ap negsuc (omega arith)

-- ---- the sum, the difference, the negation
sub-lin : (a b : ℕ) → P (sub_ℕ a b) + b ≡ a + N (sub_ℕ a b)
sub-lin a b =
    by-test (ltb a b) (negsuc (b - suc a)) (pos (a - b)) (λ z. P z + b ≡ a + N z)
    (λ t. let h : a < b = ltb→lt a b t in omega arith)
    (λ t. let h : b ≤ a = nltb→le a b t in omega arith)

pub add-lin : (a b : ℤ) → P (a +ℤ b) + (N a + N b) ≡ N (a +ℤ b) + (P a + P b)
add-lin (pos a) (pos b) = omega arith
add-lin (pos a) (negsuc b) = omega (arith, sub-lin a (suc b))
add-lin (negsuc a) (pos b) = omega (arith, sub-lin b (suc a))
add-lin (negsuc a) (negsuc b) = omega arith

pub neg-lin : (a : ℤ) → (P (neg_ℤ a) ≡ N a) × (N (neg_ℤ a) ≡ P a)
neg-lin (pos zero) = omega arith
neg-lin (pos (suc n)) = omega arith
neg-lin (negsuc n) = omega arith

pub sub-lin-Z : (a b : ℤ) → P (a -ℤ b) + (N a + P b) ≡ N (a -ℤ b) + (P a + N b)
sub-lin-Z a b = omega (arith, add-lin a (neg_ℤ b), neg-lin b)

-- ---- the ranges
pub sfits-lin : {w : Width} {z : ℤ} → SFits w z → (P z < 2 ^ hbits w) × (N z ≤ 2 ^ hbits w)
sfits-lin {z = pos n} f = (f.sfits, omega arith)
sfits-lin {z = negsuc n} f = (omega (arith, f.sfits), f.sfits)

pub sfits-of-lin : (w : Width) (z : ℤ) → P z < 2 ^ hbits w + N z → N z ≤ 2 ^ hbits w + P z → SFits w z
sfits-of-lin w (pos n) h k = record { sfits = omega arith }
sfits-of-lin w (negsuc n) h k = record { sfits = omega arith }

pub le-of-lin : (a b : ℤ) → P a + N b ≤ P b + N a → a ≤ℤ b
le-of-lin (pos a) (pos b) h = record { le = le→leb a b (omega arith) }
le-of-lin (pos a) (negsuc b) h = absurd (omega arith)
le-of-lin (negsuc a) (pos b) h = record { le = tt }
le-of-lin (negsuc a) (negsuc b) h = record { le = le→leb b a (omega arith) }

pub lt-of-lin : (a b : ℤ) → P a + N b < P b + N a → a <ℤ b
lt-of-lin (pos a) (pos b) h = record { lt = lt→ltb a b (omega arith) }
lt-of-lin (pos a) (negsuc b) h = absurd (omega arith)
lt-of-lin (negsuc a) (pos b) h = record { lt = tt }
lt-of-lin (negsuc a) (negsuc b) h = record { lt = lt→ltb b a (omega arith) }

le-lin' : (a b : ℤ) → T (le_z a b) → P a + N b ≤ P b + N a
le-lin' (pos a) (pos b) t = omega (arith, leb→le a b t)
le-lin' (pos a) (negsuc b) t = absurd t
le-lin' (negsuc a) (pos b) t = omega arith
le-lin' (negsuc a) (negsuc b) t = omega (arith, leb→le b a t)

pub le-lin : {a b : ℤ} → a ≤ℤ b → P a + N b ≤ P b + N a
le-lin {a} {b} h = le-lin' a b h.le

lt-lin' : (a b : ℤ) → T (lt_z a b) → P a + N b < P b + N a
lt-lin' (pos a) (pos b) t = omega (arith, ltb→lt a b t)
lt-lin' (pos a) (negsuc b) t = absurd t
lt-lin' (negsuc a) (pos b) t = omega arith
lt-lin' (negsuc a) (negsuc b) t = omega (arith, ltb→lt b a t)

pub lt-lin : {a b : ℤ} → a <ℤ b → P a + N b < P b + N a
lt-lin {a} {b} h = lt-lin' a b h.lt

-- what a test says that held, and one that failed
pub lt-true : (a b : ℤ) → lt_z a b ≡ true → P a + N b < P b + N a
lt-true a b e = lt-lin' a b (subst T (sym e) tt)

pub lt-false : (a b : ℤ) → lt_z a b ≡ false → P b + N a ≤ P a + N b
lt-false a b e = le-lin (lt_z_no {a = a} {b = b} (subst (λ (t : Bool). T (not t)) (sym e) tt))

pub le-true : (a b : ℤ) → le_z a b ≡ true → P a + N b ≤ P b + N a
le-true a b e = le-lin' a b (subst T (sym e) tt)

nle-lin : (a b : ℤ) → le_z a b ≡ false → P b + N a < P a + N b
nle-lin (pos a) (pos b) e = omega (arith, leb-false a b e)
nle-lin (pos a) (negsuc b) e = omega arith
nle-lin (negsuc a) (pos b) e = let z : ◌≡◌ {A = ℕ} 0 1 = cc in omega arith
nle-lin (negsuc a) (negsuc b) e = omega (arith, leb-false b a e)

pub le-false : (a b : ℤ) → le_z a b ≡ false → P b + N a < P a + N b
le-false = nle-lin

-- ---- the product: its size
abs_neg : (n : ℕ) → P (neg_ℤ (pos n)) + N (neg_ℤ (pos n)) ≡ n
abs_neg n = omega (arith, neg-lin (pos n))

abs-mul : (a b : ℤ) → P (a *ℤ b) + N (a *ℤ b) ≡ (P a + N a) * (P b + N b)
abs-mul (pos a) (pos b) = omega arith
abs-mul (pos a) (negsuc b) = omega (arith, abs_neg (a * suc b))
abs-mul (negsuc a) (pos b) = omega (arith, abs_neg (suc a * b))
abs-mul (negsuc a) (negsuc b) = omega arith

-- |a| ≤ A and |b| ≤ B: |a * b| ≤ A * B
pub mul-lin : (A B : ℕ) (a b : ℤ) → P a + N a ≤ A → P b + N b ≤ B → P (a *ℤ b) + N (a *ℤ b) ≤ A * B
mul-lin A B a b h k = omega (arith, abs-mul a b, mul-le-mul h k)

-- one of the two is 0
pub abs-lin : (z : ℤ) (H : ℕ) → P z ≤ H → N z ≤ H → P z + N z ≤ H
abs-lin (pos n) H h k = omega arith
abs-lin (negsuc n) H h k = omega arith

-- ---- rounded down: z is m * shr_z z m + mod_z z m
pub mod-lin : (z : ℤ) (m : ℕ) → 0 < m → mod_z z m < m
mod-lin (pos n) m h = mod-lt n h
mod-lin (negsuc n) m h = omega arith

pub shr-lin : (z : ℤ) (m : ℕ) → 0 < m → P z + m * N (shr_z z m) ≡ m * P (shr_z z m) + (N z + mod_z z m)
shr-lin (pos n) m h = omega (arith, div-add-mod' n m)
shr-lin (negsuc n) m h = omega (arith, div-add-mod' n m, mod-lt n h)
