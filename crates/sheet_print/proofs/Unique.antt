-- Any two outcomes that a public function's contract allows are equal: each contract leaves one, count and bytes. Assumes nothing.
use mathlib.Core.Path.{◌≡◌, sym, ◌∙◌}
use Rattle.pages.proofs.Unique.{Alike, added-once}
use Rattle.sheet_print.proofs.sheet.settings_words.Reads as settings-words
use Rattle.sheet_print.proofs.sheet.print.Reads as print

pub print-unique : (κs a r s e f : _) → print.Post κs a r e → print.Post κs a s f → Alike e.0.now f.0.now
print-unique κs a r s e f p q = added-once _ _ _ _ p q

pub settings-words-unique : (κs a r s e : _) → settings-words.Post κs a r e → settings-words.Post κs a s e → r ≡ s
settings-words-unique κs a r s e p q = p ∙ sym q
