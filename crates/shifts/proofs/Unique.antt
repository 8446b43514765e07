-- Each public function's contract leaves one outcome: any two results that it allows are equal. Stated over the contracts as the checker
-- reads them, so that these theorems cannot drift from the code.
use mathlib.Core.Path.{◌≡◌, ◌∙◌, sym}
use Rattle.shifts.proofs.shift.shl32.Reads as shl32
use Rattle.shifts.proofs.shift.shr32.Reads as shr32
use Rattle.shifts.proofs.shift.rshift_round.Reads as rshift-round
use Rattle.shifts.proofs.shift.or32.Reads as or32
use Rattle.shifts.proofs.shift.clz32.Reads as clz32
use Rattle.shifts.proofs.range.clamp32.Reads as clamp32
use Rattle.shifts.proofs.range.sat16.Reads as sat16
use Rattle.shifts.proofs.range.abs32.Reads as abs32

pub shl32-unique : (κs a r s e : _) → shl32.Post κs a r e → shl32.Post κs a s e → r ≡ s
shl32-unique κs a r s e p q = p ∙ sym q

pub shr32-unique : (κs a r s e : _) → shr32.Post κs a r e → shr32.Post κs a s e → r ≡ s
shr32-unique κs a r s e p q = p ∙ sym q

pub rshift-round-unique : (κs a r s e : _) → rshift-round.Post κs a r e → rshift-round.Post κs a s e → r ≡ s
rshift-round-unique κs a r s e p q = p ∙ sym q

pub or32-unique : (κs a r s e : _) → or32.Post κs a r e → or32.Post κs a s e → r ≡ s
or32-unique κs a r s e p q = p ∙ sym q

pub clz32-unique : (κs a r s e : _) → clz32.Post κs a r e → clz32.Post κs a s e → r ≡ s
clz32-unique κs a r s e p q = p ∙ sym q

pub clamp32-unique : (κs a r s e : _) → clamp32.Post κs a r e → clamp32.Post κs a s e → r ≡ s
clamp32-unique κs a r s e p q = p ∙ sym q

pub sat16-unique : (κs a r s e : _) → sat16.Post κs a r e → sat16.Post κs a s e → r ≡ s
sat16-unique κs a r s e p q = p ∙ sym q

pub abs32-unique : (κs a r s e : _) → abs32.Post κs a r e → abs32.Post κs a s e → r ≡ s
abs32-unique κs a r s e p q = p ∙ sym q
