-- Any two outcomes that a public function's contract allows are equal: each contract leaves one. Assumes nothing.
use mathlib.Core.Path.{◌≡◌, sym, ◌∙◌}
use Rattle.sheet_words.proofs.words.end_of_run.Reads as end-of-run
use Rattle.sheet_words.proofs.words.number_of.Reads as number_of_lem

pub end-of-run-unique : (κs a r s e : _) → end-of-run.Post κs a r e → end-of-run.Post κs a s e → r ≡ s
end-of-run-unique κs a r s e p q = p ∙ sym q

pub number-of-unique : (κs a r s e : _) → number_of_lem.Post κs a r e → number_of_lem.Post κs a s e → r ≡ s
number-of-unique κs a r s e p q = p ∙ sym q
