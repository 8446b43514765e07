-- Each contract leaves one outcome: two that meet it have equal results, and every row is left with equal words.
-- Assumes nothing.
use mathlib.Core.Path.{◌≡◌, sym, ◌∙◌}
use Rattle.subframes.proofs.scalars.fix_of.Reads as fix-of
use Rattle.subframes.proofs.scalars.halves_of.Reads as halves_of
use Rattle.subframes.proofs.scalars.lag_of.Reads as lag-of
use Rattle.subframes.proofs.scalars.rewhites.Reads as rewhites
use Rattle.subframes.proofs.scalars.row_of.Reads as row_of
use Rattle.subframes.proofs.scalars.second.Reads as second
use Rattle.subframes.proofs.scalars.since.Reads as since
use Rattle.subframes.proofs.scalars.white_gain.Reads as white-gain

pub fix-of-unique : (κs a r s e f : _) → fix-of.Post κs a r e → fix-of.Post κs a s f → r ≡ s
fix-of-unique κs a r s e f p q = p ∙ sym q

pub halves-of-unique : (κs a r s e f : _) → halves_of.Post κs a r e → halves_of.Post κs a s f → r ≡ s
halves-of-unique κs a r s e f p q = p ∙ sym q

pub lag-of-unique : (κs a r s e f : _) → lag-of.Post κs a r e → lag-of.Post κs a s f → r ≡ s
lag-of-unique κs a r s e f p q = p ∙ sym q

pub rewhites-unique : (κs a r s e f : _) → rewhites.Post κs a r e → rewhites.Post κs a s f → r ≡ s
rewhites-unique κs a r s e f p q = p ∙ sym q

pub row-of-unique : (κs a r s e f : _) → row_of.Post κs a r e → row_of.Post κs a s f → r ≡ s
row-of-unique κs a r s e f p q = p ∙ sym q

pub second-unique : (κs a r s e f : _) → second.Post κs a r e → second.Post κs a s f → r ≡ s
second-unique κs a r s e f p q = p ∙ sym q

pub since-unique : (κs a r s e f : _) → since.Post κs a r e → since.Post κs a s f → r ≡ s
since-unique κs a r s e f p q = p ∙ sym q

pub white-gain-unique : (κs a r s e f : _) → white-gain.Post κs a r e → white-gain.Post κs a s f → r ≡ s
white-gain-unique κs a r s e f p q = p ∙ sym q
