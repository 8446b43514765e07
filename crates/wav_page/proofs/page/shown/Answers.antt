-- `wav_page::page::shown` meets its contract: the row holds the samples, and their number is its length. Assumes nothing.
use mathlib.Core.Path.{ap, ◌∙◌}
use mathlib.Core.List.{List}
use native.Mathlib.Omega.{arith}
use lib.IntN.{ℤ}
use Rattle.std.proofs.lemmas.List.{map-id}
use Rattle.pages.proofs.Pages.{added_then, added_as}
use Rattle.wav_page.specs.Text.{sound_text}
use Rattle.wav_page.proofs.Texts.{sound-as, row-filled, is-filled}
use Rattle.wav_page.proofs.page.shown.Goals as goal

pub unwrap-requires : goal.unwrap-requires
unwrap-requires c = let a = c.args in is-filled c.fill.result a.part.now a.row.now _ c.requires.0 c.fill.ensures

pub returns : goal.returns
returns c =
    let a = c.args in
    let row = c.fill.new.row in
    added_as
    (sound-as a.rate _ row (omega arith) ∙ ap (λ (zs : List ℤ). sound_text a.rate zs) (row-filled a.part.now a.row.now row _ c.requires.0 c.fill.ensures))
    (added_then _ _ (added_then _ _ c.number_line.ensures c.number_line-2.ensures) (rw (map-id row) at c.value_lines.ensures))
