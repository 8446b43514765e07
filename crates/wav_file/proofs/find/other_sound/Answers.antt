-- `wav_file::find::other_sound` meets its contract: one test for each field. Assumes nothing.
use mathlib.Core.Path.{◌≡◌}
use mathlib.Core.Bool.{◌&&◌}
use lib.Dec.{eqb}
use borrow.Author.Tests.{eq-eqb, ne_eqb}
use Rattle.wav_file.specs.Find.{other_sound}
use Rattle.wav_file.proofs.Gives.{two-and-two}
use Rattle.wav_file.proofs.find.other_sound.Goals as goal
use Rattle.wav_file.proofs.find.other_sound.Goals.{then-coding-eq1, else-coding-eq1, then-rate_allowed, else-rate_allowed, then-mono, else-mono}

pub returns : goal.returns
unfolding other_sound
returns c =
    let coding = c.word16-coding in
    let channels = c.word16-channels in
    let rate = c.word32-rate in
    let width = c.word16-width in
    let allowed = c.rate_allowed.ensures in
    let m : c.if-coding-eq1.mono ≡ eqb coding.result 1 && eqb channels.result 1 =
    elim c.if-coding-eq1.branch [
      | then-coding-eq1 w ↦ rw (w.mono-is, eq-eqb _ _ w.if-coding-eq1.true)
      | else-coding-eq1 w ↦ rw (w.mono-is, ne_eqb _ _ w.if-coding-eq1.false)
    ] in
    let p : c.if-rate_allowed.plain ≡ c.rate_allowed.result && eqb width.result 16 =
    elim c.if-rate_allowed.branch [
      | then-rate_allowed w ↦ rw (w.plain-is, w.if-rate_allowed.true)
      | else-rate_allowed w ↦ rw (w.plain-is, w.if-rate_allowed.false)
    ] in
    let r : c.if-mono.result ≡ c.if-coding-eq1.mono && c.if-rate_allowed.plain =
    elim c.if-mono.branch [ then-mono w ↦ rw (w.result-is, w.if-mono.true) | else-mono w ↦ rw (w.result-is, w.if-mono.false) ] in
    rw (r, m, p, allowed, two-and-two, ← coding.ensures.value, ← channels.ensures.value, ← rate.ensures, ← width.ensures.value)
