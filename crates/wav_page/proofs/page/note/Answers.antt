-- `wav_page::page::note` meets its contract: what was found decides. Assumes nothing.
use mathlib.Core.Path.{refl, ap}
use Prim.Native.Nat.{◌+◌, ◌≤◌}
use native.Mathlib.Omega.{arith}
use lib.ListN.{length}
use Rattle.wav_file.specs.Find.{Outcome}
use Rattle.wav_file.proofs.Part.{found_inside, found-small}
use Rattle.wav_file.proofs.Unique.{number_from-1}
use Rattle.pages.proofs.Pages.{added_as}
use Rattle.wav_page.proofs.Texts.{cut-part, refused-text, part-even, part-short, accepted-text}
use Rattle.std.proofs.Common.{rules}
use Rattle.wav_page.proofs.page.note.Goals as goal

pub overflow_add-end : goal.overflow_add-end
overflow_add-end c =
    omega (arith, ap (λ (o : Outcome). o.start) c.in-Ok.ensures, ap (λ (o : Outcome). o.length) c.in-Ok.ensures, found-small c.args.input.now)

pub slice_bounds-sound-end : goal.slice_bounds-sound-end
slice_bounds-sound-end c =
    let inside : c.in-Ok.r.start + c.in-Ok.r.length ≤ length c.args.input.now =
    omega (arith, ap (λ (o : Outcome). o.start) c.in-Ok.ensures, ap (λ (o : Outcome). o.length) c.in-Ok.ensures, found_inside c.args.input.now) in
    search rules

pub sound-requires : goal.sound-requires
sound-requires c =
    let s = c.args.input.now in
    let e = c.in-Ok.ensures in
    rw (cut-part s _ e) (part-even s _ e refl, part-short s _ e refl)

pub returns-in-Ok : goal.returns-in-Ok
returns-in-Ok c =
    let s = c.args.input.now in
    let e = c.in-Ok.ensures in
    added_as (accepted-text s _ e refl) (rw (cut-part s _ e) at c.sound.ensures)

pub returns-in-Err : goal.returns-in-Err
returns-in-Err c =
    let s = c.args.input.now in
    added_as (refused-text s _ c.in-Err.ensures _ (search rules) (λ z. omega (arith, number_from-1 c.in-Err.refusal))) c.number_line.ensures
