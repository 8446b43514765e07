-- `wav_file::chunks::walk` meets its contract: the loop's invariant is `Going`, and its measure the bytes that are left. Assumes nothing.
use mathlib.Core.Path.{sym, ◌∙◌}
use native.Mathlib.Omega.{arith}
use Rattle.wav_file.specs.Riff.{is_data}
use Rattle.wav_file.proofs.Going.{going_start, going-past, going-data, going_next, going_end, whole_le}
use Rattle.wav_file.proofs.Walks.{after_more}
use Rattle.wav_file.proofs.chunks.walk.Goals as goal

pub loop-at-init : goal.loop-at-init
loop-at-init c = going_start c.args.file.now

pub returns-then-not-is_whole : goal.returns-then-not-is_whole
returns-then-not-is_whole c =
    let f = c.args.file.now in
    sym (going-past f c.loop-at.format c.loop-at.at c.loop-at.invariant c.loop-at-test.true (sym c.is_whole.ensures ∙ c.if-not-is_whole.true))

pub format_with-format-requires : goal.format_with-format-requires
format_with-format-requires c =
    omega (arith, whole_le c.args.file.now c.loop-at.at (sym c.is_whole.ensures ∙ c.if-not-is_whole.false))

pub named-requires : goal.named-requires
named-requires c =
    omega (arith, whole_le c.args.file.now c.loop-at.at (sym c.is_whole.ensures ∙ c.if-not-is_whole.false))

pub returns-then-named : goal.returns-then-named
unfolding is_data
returns-then-named c =
    let f = c.args.file.now in
    rw c.format_with-format.ensures
    (sym
    (going-data f c.loop-at.format c.loop-at.at c.loop-at.invariant c.loop-at-test.true (sym c.is_whole.ensures ∙ c.if-not-is_whole.false)
    (sym c.named.ensures ∙ c.if-named.true)))

pub loop-at-smaller : goal.loop-at-smaller
loop-at-smaller c =
    omega (arith, c.after-at.ensures, after_more c.args.file.now c.loop-at.at)

pub loop-at-preserved : goal.loop-at-preserved
unfolding is_data
loop-at-preserved c =
    let f = c.args.file.now in
    rw (c.format_with-format.ensures, c.after-at.ensures)
    (going_next f c.loop-at.format c.loop-at.at c.loop-at.invariant c.loop-at-test.true (sym c.is_whole.ensures ∙ c.if-not-is_whole.false)
    (sym c.named.ensures ∙ c.if-named.false))

pub returns : goal.returns
returns c =
    sym (going_end c.args.file.now c.loop-at.format c.loop-at.at c.loop-at.invariant c.loop-at-test.false)
