-- Where a subframe's samples are: the ring's places, and what the places in the rows need. The Rust's sLTP_shp_buf_idx is 4 * L + base + i at
-- sample i, its sLTP_buf_idx is buf + i; pointers that the Rust moves by a lag are places in a row. Assumes nothing.
use Rattle.std.specs.Prelude.{ℕ, ◌+◌, ◌-◌, ◌*◌, ◌%◌, ◌<◌, ◌≤◌, ◌≡◌, true, false, eqb}
use Rattle.fixed.specs.Iter.{either}
use Rattle.path.specs.declared.structs.Fix.{Fix}

-- the ring's place goes down by one, 0 to 39
unfoldable pub down : ℕ → ℕ
down r = either (eqb r 0) 39 (r - 1)

-- the place at the decision delay, when the ring stands at r
abbrev pub delayed : Fix → ℕ → ℕ
delayed f r = (r + f.«decisionDelay») % 40

-- what the places need: facts of a subframe that follow from the settings' own limits
pub record Fits (f : Fix) : Type 0 where
  pub some : 0 < f.«nStates»
  pub few : f.«nStates» ≤ 4
  pub order : f.«predictLPCOrder» ≤ 16
  pub shaping : 1 ≤ f.«shapingLPCOrder»
  pub shaping24 : f.«shapingLPCOrder» ≤ 24
  pub short : f.subfr_length ≤ 80
  pub delay : f.«decisionDelay» ≤ 40
  pub frame : f.base + f.subfr_length ≤ 320
  pub history : 4 * f.subfr_length + f.base + f.subfr_length ≤ 640
  pub work_low : 4 * f.subfr_length ≤ f.buf
  pub work : f.buf + f.subfr_length ≤ 640
  pub lag_high : f.lag + 2 ≤ 4 * f.subfr_length
  pub lag_low : f.voiced ≡ true → 2 ≤ f.lag
  pub early : f.voiced ≡ true → f.«decisionDelay» ≤ f.lag
  pub held : f.first ≡ false → f.«decisionDelay» ≤ f.base
  pub old : f.«decisionDelay» ≤ f.buf
