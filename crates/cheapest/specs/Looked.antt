-- What the paths look at when sample i of a subframe comes, t the frame in work before it: read off the definition (`steps`, specs/Turn.antt and
-- Sample.antt), before winner, penalty and replacement. That `steps:took` settles just these candidates is proved (proofs/Calls.antt).
-- Assumes nothing.
use Rattle.std.specs.Prelude.{ℕ, List, [], get_or, ℤ}
use Rattle.fixed.specs.Row.{word}
use Rattle.path.specs.declared.structs.Candidate.{Candidate}
use Rattle.path.specs.declared.structs.Fix.{Fix}
use Rattle.path.specs.declared.structs.Moves.{Moves}
use Rattle.path.specs.declared.structs.Path.{Path}
use Rattle.path.specs.Data.{no_path, Running, Rows}
use Rattle.path.specs.Path.{terms_of, residual_of, pair}
use Rattle.steps.specs.Each.{moves, pairs}
use Rattle.steps.specs.Shared.{common}

-- the paths after their generators and warped filters moved on
abbrev pub moved_at : Fix → Rows → Running → Moves
moved_at f v t = moves f v.half v.ar t.core.ps.owns

-- both candidates of each path
abbrev pub looked_at : Fix → Rows → List ℤ → ℕ → Running → List (List Candidate)
looked_at f v x i t =
    pairs f v.a (common f v x i t) i t.core.smpl_buf_idx (moved_at f v t) t.core.ps.lpcs t.core.ps.rings

-- path j after it moved on
abbrev pub path_in : Fix → Rows → Running → ℕ → Path
path_in f v t j = get_or (moved_at f v t).owns j no_path

-- its residual r_Q10, with the seed's sign and in its range
abbrev pub residual_in : Fix → Rows → List ℤ → ℕ → Running → ℕ → ℤ
residual_in f v x i t j =
    residual_of
    (terms_of f v.a (common f v x i t) i t.core.smpl_buf_idx (path_in f v t j) (word (moved_at f v t).n_AR_Q14 j) (get_or t.core.ps.lpcs j [])
    (get_or t.core.ps.rings j []))
    (common f v x i t).n_LTP_Q14

-- its two candidates
abbrev pub pair_in : Fix → Rows → List ℤ → ℕ → Running → ℕ → List Candidate
pair_in f v x i t j =
    pair f v.a (common f v x i t) i t.core.smpl_buf_idx (path_in f v t j) (word (moved_at f v t).n_AR_Q14 j) (get_or t.core.ps.lpcs j [])
    (get_or t.core.ps.rings j [])
