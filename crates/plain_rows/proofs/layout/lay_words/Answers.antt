-- `plain_rows::layout::lay_words` meets its contract. Assumes nothing.
use mathlib.Core.Path.{◌≡◌, ◌∙◌}
use lib.ListN.{length}
use Rattle.plain_rows.specs.Layout.{words_of}
use Rattle.plain_rows.proofs.Laid.{laid-words}
use Rattle.std.proofs.Common.{rules}
use Rattle.plain_rows.proofs.layout.lay_words.Goals as goal

pub returns : goal.returns
unfolding words_of
returns c =
    let e1 : length c.copy_from_slice.new.self ≡ 640 = search rules in
    let e2 : length c.copy_from_slice-2.new.self ≡ 96 = search rules in
    let e3 : length c.copy_from_slice-3.new.self ≡ 24 = search rules in
    laid-words c.args.words.now c.copy_from_slice.new.self c.copy_from_slice-2.new.self c.copy_from_slice-3.new.self c.copy_from_slice-4.new.self c.requires e1 e2 e3
    ∙ rw (c.copy_from_slice.ensures.after, c.copy_from_slice-2.ensures.after, c.copy_from_slice-3.ensures.after, c.copy_from_slice-4.ensures.after, c.scalars_of.ensures)
