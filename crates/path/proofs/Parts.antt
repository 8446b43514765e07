-- The parts of the paths, of a subframe in work and of a frame in work: each record gives the code's struct back. Assumes nothing.
use mathlib.Core.Path.{◌≡◌, ap, ap₂}
use mathlib.Core.List.{List}
use lib.IntN.{ℤ}
use Rattle.path.specs.Data.{States, Work, Paths, paths_of, Running, running}

-- the code's struct of all paths
abbrev pub states_of : Paths → States
states_of p = record { owns = p.owns; lpcs = p.lpcs; rings = p.rings }

-- the code's struct of a subframe in work, with the pulses that its paths have chosen
abbrev pub work_of : Running → List (List ℤ) → Work
work_of t chosen =
    record {
      states = states_of t.core.ps;
      chosen = chosen;
      sLTP_Q15 = t.core.sLTP_Q15;
      delayedGain_Q10 = t.core.delayedGain_Q10;
      smpl_buf_idx = t.core.smpl_buf_idx;
      xq = t.xq;
      sLTP_shp_Q14 = t.sLTP_shp_Q14;
    }

-- two structs of paths with equal words are equal
pub same-states : {s t : States} → paths_of s ≡ paths_of t → s ≡ t
same-states e = ap states_of e

-- two subframes in work with equal words are equal, and so are the pulses beside them
pub same-work : {w v : Work} {x y : List ℤ} → running w x ≡ running v y → w.chosen ≡ v.chosen → (w ≡ v) × (x ≡ y)
same-work e c = (ap₂ work_of e c, ap (λ (t : Running). t.pulses) e)
