-- `wav_page::page::whole` meets its contract. Assumes nothing.
use Rattle.wav_page.proofs.Room.{whole-page}
use Rattle.std.proofs.Common.{rules}
use Rattle.wav_page.proofs.page.whole.Goals as goal

pub returns : goal.returns
returns c =
    let a = c.args in
    let w = whole-page _ _ a.page.now _ c.wav_page.result c.first.ensures (search rules) c.wav_page.ensures in
    record { page = w.put; text = w.text-first; within = w.within }
