-- `sheet_print::sheet::print` meets its contract: its ten sections, one after the other. Assumes nothing.
use Rattle.std.proofs.lemmas.List.{map-id}
use Rattle.sheet_print.specs.Rows.{settings_row, rows_of}
use Rattle.sheet_text.proofs.Lines.{sheet-added, sheet-none}
use Rattle.sheet_print.proofs.sheet.print.Goals as goal

pub returns : goal.returns
unfolding rows_of
returns c =
    let s = c.args.s.now in
    sheet-added (settings_row s.settings) _ (rw (map-id c.settings_words.result, c.settings_words.ensures) at c.row_line.ensures)
    (sheet-added s.samples.items _ (rw (map-id c.as_slice.result.now, c.as_slice.ensures.value) at c.row_line-2.ensures)
    (sheet-added s.pred_coef.items _ (rw (map-id c.as_slice-2.result.now, c.as_slice-2.ensures.value) at c.row_line-3.ensures)
    (sheet-added s.ltp_coef.items _ (rw (map-id c.as_slice-3.result.now, c.as_slice-3.ensures.value) at c.row_line-4.ensures)
    (sheet-added s.ar.items _ (rw (map-id c.as_slice-4.result.now, c.as_slice-4.ensures.value) at c.row_line-5.ensures)
    (sheet-added s.harm_gains.items _ (rw (map-id c.as_slice-5.result.now, c.as_slice-5.ensures.value) at c.row_line-6.ensures)
    (sheet-added s.tilts.items _ (rw (map-id c.as_slice-6.result.now, c.as_slice-6.ensures.value) at c.row_line-7.ensures)
    (sheet-added s.lfs.items _ (rw (map-id c.as_slice-7.result.now, c.as_slice-7.ensures.value) at c.row_line-8.ensures)
    (sheet-added s.gains.items _ (rw (map-id c.as_slice-8.result.now, c.as_slice-8.ensures.value) at c.row_line-9.ensures)
    (sheet-added s.lags.items _ (rw (map-id c.as_slice-9.result.now, c.as_slice-9.ensures.value) at c.row_line-10.ensures) (sheet-none _))))))))))
