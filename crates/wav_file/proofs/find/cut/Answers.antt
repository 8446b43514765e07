-- `wav_file::find::cut` meets its contract: the end less the start is the length. Assumes nothing.
use mathlib.Core.Path.{ap}
use Prim.Native.Nat.{ℕ}
use native.Mathlib.Nat.{add-sub_cancel_left}
use lib.ListN.{take, drop}
use Rattle.wav_file.specs.Find.{part}
use Rattle.wav_file.proofs.find.cut.Goals as goal

pub returns : goal.returns
unfolding part
returns c =
    let a = c.args in
    ap (λ (k : ℕ). take k (drop a.start a.file.now)) (add-sub_cancel_left a.start a.length)
