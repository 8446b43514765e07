-- `wav_file::samples::fill` meets its contract: the loop's invariant: the first i samples stand in the row, and behind them the row is as it was. Assumes nothing.
use mathlib.Core.Path.{◌≡◌, ap, ◌∙◌}
use native.Mathlib.Omega.{arith}
use lib.ListN.{length}
use Rattle.fixed.proofs.Fit.{got16}
use Rattle.wav_file.specs.Fill.{filled}
use Rattle.wav_file.proofs.Rows.{row_more, row-all, unlike, alike}
use Rattle.std.proofs.Common.{rules}
use Rattle.wav_file.proofs.samples.fill.Goals as goal
use Rattle.wav_file.proofs.samples.fill.Goals.{then-bytes-ne0-via-then-bytes-ne0, then-bytes-ne0-via-else-bytes-ne0+then-bytes-row}

pub returns-then-bytes-ne0 : goal.returns-then-bytes-ne0
returns-then-bytes-ne0 c =
    let a = c.args in
    elim c.then-bytes-ne0.branch [
      | then-bytes-ne0-via-then-bytes-ne0 w ↦ unlike a.bytes.now a.row.now (λ e. w.if-bytes-ne0.true (omega arith))
      | then-bytes-ne0-via-else-bytes-ne0+then-bytes-row w ↦ unlike a.bytes.now a.row.now (λ e. w.if-bytes-row.true (omega arith))
    ]

pub loop-i-preserved : goal.loop-i-preserved
loop-i-preserved c =
    let a = c.args in
    rw (got16 c.sample.result c.sample.type_inv ∙ c.sample.ensures, c.loop-i.invariant) (row_more a.bytes.now a.row.now c.loop-i.i (search rules))

pub returns : goal.returns
returns c =
    let a = c.args in
    let e : c.loop-i.i ≡ length a.row.now = omega arith in
    ap (filled 0) (c.loop-i.invariant ∙ rw e (row-all a.bytes.now a.row.now)) ∙ alike a.bytes.now a.row.now (omega arith)
