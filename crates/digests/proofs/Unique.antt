-- Each public function's contract leaves one outcome: any two results that it allows are equal. Stated over the contracts as the checker
-- reads them, so that these theorems cannot drift from the code.
use Prim.Native.Nat.{ℕ}
use mathlib.Core.Path.{◌≡◌, ◌∙◌, sym, ap}
use Rattle.digests.specs.declared.fnv.Fnv32.{Fnv32}
use Rattle.digests.specs.declared.fnv.Fnv64.{Fnv64}
use Rattle.digests.proofs.fnv.Fnv32.new.Reads as new32
use Rattle.digests.proofs.fnv.Fnv32.word.Reads as word32
use Rattle.digests.proofs.fnv.Fnv64.new.Reads as new64
use Rattle.digests.proofs.fnv.Fnv64.word.Reads as word64

-- a digest is its sum
digest32 : (r s : Fnv32) → r.sum ≡ s.sum → r ≡ s
digest32 r s e = ap (λ (n : ℕ). record { sum = n }) e

digest64 : (r s : Fnv64) → r.sum ≡ s.sum → r ≡ s
digest64 r s e = ap (λ (n : ℕ). record { sum = n }) e

pub new32-unique : (κs a r s e : _) → new32.Post κs a r e → new32.Post κs a s e → r ≡ s
new32-unique κs a r s e p q = digest32 r s (p ∙ sym q)

pub word32-unique : (κs a r s e : _) → word32.Post κs a r e → word32.Post κs a s e → r ≡ s
word32-unique κs a r s e p q = digest32 r s (p ∙ sym q)

pub new64-unique : (κs a r s e : _) → new64.Post κs a r e → new64.Post κs a s e → r ≡ s
new64-unique κs a r s e p q = digest64 r s (p ∙ sym q)

pub word64-unique : (κs a r s e : _) → word64.Post κs a r e → word64.Post κs a s e → r ≡ s
word64-unique κs a r s e p q = digest64 r s (p ∙ sym q)
