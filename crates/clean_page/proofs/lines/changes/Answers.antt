-- `clean_page::lines::changes` meets its contract: its ten sections, one after the other. Assumes nothing.
use Rattle.std.proofs.lemmas.List.{map-id}
use Rattle.sheet_print.specs.Rows.{settings_row, rows_of}
use Rattle.cleaning.specs.Changes.{changes}
use Rattle.clean_page.proofs.Printed.{first-added, last-added}
use Rattle.clean_page.proofs.lines.changes.Goals as goal

pub returns : goal.returns
unfolding rows_of changes
returns c =
    let old = c.args.old.now in
    let new = c.args.new.now in
    first-added 1 (settings_row old.settings) (settings_row new.settings) _ _
    (rw (map-id c.settings_words-before.result, map-id c.settings_words-after.result, c.settings_words-before.ensures, c.settings_words-after.ensures) at c.row_lines.ensures)
    (first-added 2 old.samples.items new.samples.items _ _ (rw (map-id c.as_slice.result.now, map-id c.as_slice-2.result.now, c.as_slice.ensures.value, c.as_slice-2.ensures.value) at c.row_lines-2.ensures)
    (first-added 3 old.pred_coef.items new.pred_coef.items _ _ (rw (map-id c.as_slice-3.result.now, map-id c.as_slice-4.result.now, c.as_slice-3.ensures.value, c.as_slice-4.ensures.value) at c.row_lines-3.ensures)
    (first-added 4 old.ltp_coef.items new.ltp_coef.items _ _ (rw (map-id c.as_slice-5.result.now, map-id c.as_slice-6.result.now, c.as_slice-5.ensures.value, c.as_slice-6.ensures.value) at c.row_lines-4.ensures)
    (first-added 5 old.ar.items new.ar.items _ _ (rw (map-id c.as_slice-7.result.now, map-id c.as_slice-8.result.now, c.as_slice-7.ensures.value, c.as_slice-8.ensures.value) at c.row_lines-5.ensures)
    (first-added 6 old.harm_gains.items new.harm_gains.items _ _ (rw (map-id c.as_slice-9.result.now, map-id c.as_slice-10.result.now, c.as_slice-9.ensures.value, c.as_slice-10.ensures.value) at c.row_lines-6.ensures)
    (first-added 7 old.tilts.items new.tilts.items _ _ (rw (map-id c.as_slice-11.result.now, map-id c.as_slice-12.result.now, c.as_slice-11.ensures.value, c.as_slice-12.ensures.value) at c.row_lines-7.ensures)
    (first-added 8 old.lfs.items new.lfs.items _ _ (rw (map-id c.as_slice-13.result.now, map-id c.as_slice-14.result.now, c.as_slice-13.ensures.value, c.as_slice-14.ensures.value) at c.row_lines-8.ensures)
    (first-added 9 old.gains.items new.gains.items _ _ (rw (map-id c.as_slice-15.result.now, map-id c.as_slice-16.result.now, c.as_slice-15.ensures.value, c.as_slice-16.ensures.value) at c.row_lines-9.ensures)
    (first-added 10 old.lags.items new.lags.items _ _ (rw (map-id c.as_slice-17.result.now, map-id c.as_slice-18.result.now, c.as_slice-17.ensures.value, c.as_slice-18.ensures.value) at c.row_lines-10.ensures)
    (last-added 11 _))))))))))
