-- `wav_file::find::not_wave` meets its contract: at each return the tests that led there say which bytes differ. Assumes nothing.
use mathlib.Core.Path.{sym, ◌∙◌}
use Rattle.wav_file.proofs.Gives.{too_short}
use Rattle.wav_file.specs.Find.{not_wave}
use Rattle.wav_file.proofs.find.not_wave.Goals as goal
use Rattle.wav_file.proofs.find.not_wave.Goals.{then-named, else-named}

pub returns-then-file-lt12 : goal.returns-then-file-lt12
returns-then-file-lt12 c = sym (too_short c.args.file.now c.if-file-lt12.true)

pub returns : goal.returns
unfolding not_wave
returns c =
    elim c.if-named.branch [
      | then-named w ↦ rw (w.wave-is, w.named-wave.ensures, sym c.named.ensures ∙ w.if-named.true)
      | else-named w ↦ rw (w.wave-is, w.if-named.false, sym c.named.ensures ∙ w.if-named.false)
    ]
