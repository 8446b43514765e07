-- `excitation::reader::offset_of` meets its contract. Assumes nothing.
use Rattle.std.proofs.Common.{ℕ, zero, suc, ◌^◌, ◌<◌, List, [], slice_index_or, ℤ, pos}
use lib.Signed.{mag}
use lib.Dec.{lit<}
use Rattle.fixed.proofs.Fit.{got32}
use Rattle.rfc6716.specs.Excitation.{offset_Q23, offsets}
use Rattle.excitation.proofs.reader.offset_of.Goals as goal

-- each entry of the table fits an i32
entry : (i j : ℕ) → mag (slice_index_or (slice_index_or {A = List ℤ} offsets i []) j (pos 0)) < 2 ^ 31
entry zero zero = lit< tt
entry zero (suc zero) = lit< tt
entry zero (suc (suc j)) = lit< tt
entry (suc zero) zero = lit< tt
entry (suc zero) (suc zero) = lit< tt
entry (suc zero) (suc (suc j)) = lit< tt
entry (suc (suc zero)) zero = lit< tt
entry (suc (suc zero)) (suc zero) = lit< tt
entry (suc (suc zero)) (suc (suc j)) = lit< tt
entry (suc (suc (suc i))) j = lit< tt

pub returns : goal.returns
unfolding offset_Q23
returns c = got32 _ (entry _ _)
