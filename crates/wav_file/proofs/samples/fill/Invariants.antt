-- `wav_file::samples::fill` meets its contract: the loop's invariant: the first i samples stand in the row, and behind them the row is as it was. Assumes nothing.
use mathlib.Core.Path.{◌≡◌}
use Rattle.wav_file.proofs.Rows.{row_at}
use Rattle.wav_file.proofs.samples.fill.Given as goal

abbrev pub invariant-loop-i : goal.invariant-loop-i
invariant-loop-i l = l.row ≡ row_at l.bytes l.initial.row l.i
