-- `frame::turn::coefs_at` meets its contract. Assumes nothing.
use mathlib.Core.Path.{◌≡◌}
use mathlib.Core.List.{List}
use Prim.Native.Nat.{ℕ, ◌+◌, ◌-◌, ◌*◌, ◌≤◌}
use native.Mathlib.Omega.{arith}
use lib.ListN.{length, take, drop, length-drop}
use lib.Seq.{length-take-le}
use lib.IntN.{ℤ}
use Rattle.frame.proofs.turn.coefs_at.Goals as goal

-- the m words of a row from a place on are m words
part-is : (from m : ℕ) → from + m - from ≡ m
part-is from m = omega arith

part-long : (l : List ℤ) (from m : ℕ) → from + m ≤ length l → m ≤ length (take (from + m - from) (drop from l))
part-long l from m h =
    rw (part-is from m) (
    let k : m ≤ length (drop from l) = omega (arith, length-drop from l) in omega (arith, length-take-le m (drop from l) k)
    )

pub returns : goal.returns
returns c =
    let a = c.args in
    let p = c.requires in
    let r = a.r in
    record {
      rows = rw (part-is a.from 16, part-is (a.k * 5) 5, part-is (a.k * 24) 24);
      enough = (part-long r.pred.now a.from 16 p.0.0, (part-long r.long.now (a.k * 5) 5 p.0.1, part-long r.ar.now (a.k * 24) 24 p.1.0));
    }
