-- A good call's counts keep every place of the frame within its row: `sound-of`, and of each subframe `fits-of`. Assumes nothing.
use Prim.Native.Nat.{ℕ, ◌+◌, ◌-◌, ◌*◌, ◌/◌, ◌≤◌, ◌<◌, min}
use native.Mathlib.Omega.{arith}
use native.Mathlib.Nat.{mul-le-mul, mul-le-mul_right, eq-or-lt_of_le}
use mathlib.Core.Path.{◌≡◌, refl, ap}
use mathlib.Core.Bool.{Bool, true, false, ◌&&◌}
use mathlib.Core.List.{List}
use mathlib.Core.Logic.{⊎_elim, inl, inr}
use lib.ListN.{length}
use lib.IntN.{ℤ, pos}
use lib.Signed.{◌≤ℤ◌}
use lib.Dec.{eqb, leb, ltb}
use borrow.Author.Tests.{eqb-true, eqb-false, le-leb, ltb-true}
use Rattle.fixed.proofs.Iters.{iter-keeps, iter-inv, either-all}
use Rattle.silk.specs.declared.structs.Settings.{Settings}
use Rattle.fixed.specs.Row.{word}
use Rattle.places.specs.Places.{Fits}
use Rattle.limits.specs.Count.{nat_z, same_z}
use Rattle.refusal_rules.specs.declared.answer.Sizes.{Sizes}
use Rattle.refusal_rules.specs.Good.{GoodOrder, QuietLag, GoodSettings, GoodLags, Good}
use Rattle.refusal_rules.proofs.Room.{lag-above, start-above, quiet-above, subframe-within}
use Rattle.steps.specs.declared.structs.Given.{Given}
use Rattle.steps.specs.Call.{Call, voiced_by, lowered, delay_turn, voiced_delay, quiet_delay, delay_by, given_by, given_of, lag_by, twice_by, second_by, rewhites_by, since_by, row_by, fix_by, fix_of, count_of, Sound, Stocked, Room}

-- ---- the decision delay
-- it is at most 40 and at most L, voiced or not
voiced-short : (l n : ℕ) (lags : List ℤ) → voiced_delay l n lags ≤ min 40 l
unfolding voiced_delay lowered
voiced-short l n lags =
    iter-keeps (λ j d. d ≤ min 40 l) (delay_turn lags) n (λ j h d q. omega arith) (min 40 l) (omega arith)

quiet_short : (l prev : ℕ) → quiet_delay l prev ≤ min 40 l
unfolding quiet_delay lowered
quiet_short l prev =
    either-all (λ (d : ℕ). d ≤ min 40 l) (ltb 0 prev) (min (min 40 l) (prev - 3)) (min 40 l) (λ e. omega arith) (λ e. omega arith)

delay-short : (v : Bool) (l n prev : ℕ) (lags : List ℤ) → delay_by v l n prev lags ≤ min 40 l
unfolding delay_by
delay-short true l n prev lags = voiced-short l n lags
delay-short false l n prev lags = quiet_short l prev

-- in a voiced frame it is below each lag by 3
voiced-early : (l n : ℕ) (lags : List ℤ) (k : ℕ) → k < n → voiced_delay l n lags ≤ nat_z (word lags k) - 3
unfolding voiced_delay lowered
voiced-early l n lags =
    iter-inv (λ j d. (k : ℕ) → k < j → d ≤ nat_z (word lags k) - 3) (delay_turn lags) n (min 40 l)
    (λ j h q k p.
    ⊎_elim
    (λ (e : k ≡ j). let x = ap (λ (i : ℕ). nat_z (word lags i)) e in omega arith)
    (λ (s : k < j). let x = q k s in omega arith)
    (eq-or-lt_of_le (let u : k ≤ j = omega arith in u)))
    (λ k p. absurd (omega arith))

-- ---- the lags
-- a lag that was looked at, 0 or good, is small beside the history
quiet-start : {l order lag : ℤ} → GoodOrder l order → QuietLag l lag → nat_z lag + nat_z order + 2 < 4 * nat_z l
quiet-start o (inl e) = let a = o.room in let b = ap nat_z e in omega arith
quiet-start o (inr g) = start-above o g

-- so is the lag of each subframe
lag-high : {s : Settings} {p : ℤ} {lags : List ℤ} → GoodSettings s → GoodLags (nat_z s.nb_subfr) s.subfr_length s.signalType p lags
    → (k : ℕ) → k < nat_z s.nb_subfr → lag_by (given_by s p lags) lags k + nat_z s.predictLPCOrder + 2 < 4 * nat_z s.subfr_length
unfolding lag_by given_by voiced_by
lag-high {s} {p} {lags} g h k b =
    either-all (λ (lag : ℕ). lag + nat_z s.predictLPCOrder + 2 < 4 * nat_z s.subfr_length) (same_z s.signalType (pos 2)) (nat_z (word lags k)) (nat_z p)
    (λ e. start-above g.order (h.voiced e k b))
    (λ e. quiet-start g.order (h.prev e))

-- a lag of the row in a voiced frame: 16 or more, and above the delay
voiced-lag : {s : Settings} {p : ℤ} {lags : List ℤ} → GoodSettings s → GoodLags (nat_z s.nb_subfr) s.subfr_length s.signalType p lags
    → (given_by s p lags).voiced ≡ true → (k : ℕ) → k < nat_z s.nb_subfr
    → (16 ≤ lag_by (given_by s p lags) lags k) × ((given_by s p lags).delay + 3 ≤ lag_by (given_by s p lags) lags k)
unfolding lag_by given_by voiced_by delay_by
voiced-lag {s} {p} {lags} g h e k b =
    let a : 16 ≤ nat_z (word lags k) = lag-above g.l (h.voiced e k b) in
    let d = voiced-early (nat_z s.subfr_length) (nat_z s.nb_subfr) lags k b in
    rw e (a, omega arith)

-- ---- the decision delay again: it is 13 or more, since each lag that lowers it is 16 or more
voiced-late : (l n : ℕ) (lags : List ℤ) → 13 ≤ l → ((k : ℕ) → k < n → 16 ≤ nat_z (word lags k)) → 13 ≤ voiced_delay l n lags
unfolding voiced_delay lowered
voiced-late l n lags h f =
    iter-inv (λ j (d : ℕ). 13 ≤ d) (delay_turn lags) n (min 40 l) (λ j q r. omega (arith, f j q, r)) (omega arith)

quiet-late : (l prev : ℕ) → 13 ≤ l → (0 < prev → 16 ≤ prev) → 13 ≤ quiet_delay l prev
unfolding quiet_delay lowered
quiet-late l prev h f =
    either-all (λ (d : ℕ). 13 ≤ d) (ltb 0 prev) _ _ (λ e. omega (arith, f (ltb-true 0 prev e))) (λ e. omega arith)

-- the decision delay of a good call is 13 samples or more
pub delay-13 : {s : Settings} {p : ℤ} {lags : List ℤ} → GoodSettings s → GoodLags (nat_z s.nb_subfr) s.subfr_length s.signalType p lags
    → 13 ≤ (given_by s p lags).delay
unfolding given_by delay_by voiced_by
delay-13 {s} {p} {lags} g h =
    let l = g.l.among.least in
    either-all (λ (d : ℕ). 13 ≤ d) (same_z s.signalType (pos 2)) _ _
    (λ e. voiced-late (nat_z s.subfr_length) (nat_z s.nb_subfr) lags (omega arith) (λ k b. lag-above g.l (h.voiced e k b)))
    (λ e. quiet-late (nat_z s.subfr_length) (nat_z p) (omega arith) (λ b. lag-above g.l (quiet-above (h.prev e) b)))

-- ---- what is given of a good call is sound
pub sound-by : {s : Settings} {p : ℤ} {lags : List ℤ} → GoodSettings s → GoodLags (nat_z s.nb_subfr) s.subfr_length s.signalType p lags
    → Sound (given_by s p lags) lags
unfolding given_by
sound-by {s} {p} {lags} g h =
    let d = delay-short (voiced_by s.signalType) (nat_z s.subfr_length) (nat_z s.nb_subfr) (nat_z p) lags in
    record {
      long = g.l.among.least;
      short = g.l.among.most;
      some = g.n.among.least;
      few = g.n.among.most;
      order10 = g.order.among.least;
      order16 = g.order.among.most;
      shaping2 = g.shaping.among.least;
      shaping24 = g.shaping.among.most;
      paths1 = g.paths.least;
      paths4 = g.paths.most;
      seed3 = g.seed.most;
      delay40 = omega arith;
      delay_short = omega arith;
      lag_high = lag-high g h;
      lag_low = λ e k b. (voiced-lag g h e k b).0;
      early = λ e k b. (voiced-lag g h e k b).1;
    }

-- the counts themselves
pub record Counts (s : Settings) (p : ℤ) (lags : List ℤ) : Type 0 where
  pub length : (given_by s p lags).subfr_length ≡ nat_z s.subfr_length
  pub count : (given_by s p lags).nb_subfr ≡ nat_z s.nb_subfr
  pub order : (given_by s p lags).predictLPCOrder ≡ nat_z s.predictLPCOrder
  pub paths : (given_by s p lags).nStates ≡ nat_z s.nStatesDelayedDecision
  pub seed : (given_by s p lags).seed ≡ nat_z s.Seed
  pub lagPrev : (given_by s p lags).lagPrev ≡ nat_z p

pub counts : (s : Settings) (p : ℤ) (lags : List ℤ) → Counts s p lags
unfolding given_by
counts s p lags =
    record {
      length = refl;
      count = refl;
      order = refl;
      paths = refl;
      seed = refl;
      lagPrev = refl;
    }

-- subframes since the last output was held back are no more than all before it
pub since-few : (g : Given) (k : ℕ) → since_by g k ≤ k
unfolding since_by
since-few g k =
    either-all (λ (m : ℕ). m ≤ k) (twice_by g && leb 2 k) (k - 2) k (λ e. omega arith) (λ e. omega arith)

-- ---- which subframes are rewhitened
both : (a b : Bool) → (a && b) ≡ true → (a ≡ true) × (b ≡ true)
both true b e = (refl, e)
both false b e = let z : ◌≡◌ {A = ℕ} 0 1 = cc in absurd (omega arith)

-- the second is subframe 2 of a voiced frame
pub second_is : (g : Given) (k : ℕ) → second_by g k ≡ true → (k ≡ 2) × ((g.voiced ≡ true) × (twice_by g ≡ true))
unfolding second_by twice_by
second_is g k e =
    let h = both (twice_by g) (eqb k 2) e in (eqb-true k 2 h.1, ((both g.voiced g.interpolated h.0).0, h.0))

-- only a voiced frame has any
pub rewhites-voiced : (g : Given) (k : ℕ) → rewhites_by g k ≡ true → g.voiced ≡ true
unfolding rewhites_by
rewhites-voiced g k =
    either-all (λ (b : Bool). b ≡ true → g.voiced ≡ true) (eqb k 0) g.voiced (second_by g k) (λ e h. h) (λ e h. (second_is g k h).1.0)

-- output is held back anew from there
since-second : (g : Given) (k : ℕ) → second_by g k ≡ true → since_by g k ≡ 0
unfolding since_by
since-second g k e =
    let h = second_is g k e in
    let two = h.0 in
    let t : leb 2 k ≡ true = le-leb 2 k (omega arith) in
    rw (h.1.1, t) (omega arith)

pub rewhites-since : (g : Given) (k : ℕ) → rewhites_by g k ≡ true → since_by g k ≡ 0
unfolding rewhites_by
rewhites-since g k =
    either-all (λ (b : Bool). b ≡ true → since_by g k ≡ 0) (eqb k 0) g.voiced (second_by g k)
    (λ e h. let z = eqb-true k 0 e in let f = since-few g k in omega arith)
    (λ e h. since-second g k h)

-- a row of prediction coefficients is one of two
pub row-few : (g : Given) (k : ℕ) → k < 4 → row_by g k ≤ 1
unfolding row_by
row-few g k h = either-all (λ (r : ℕ). r ≤ 1) g.interpolated (k / 2) 1 (λ e. omega arith) (λ e. omega arith)

-- ---- each of its subframes fits
-- at most four subframes are at most 320 samples
pub subframes-small : (k l : ℕ) → k ≤ 4 → l ≤ 80 → k * l ≤ 320
subframes-small k l h g = mul-le-mul h g

-- (k + 1) L is at most nL, and the same of since k
subframes : {g : Given} {lags : List ℤ} {k : ℕ} → Sound g lags → k < g.nb_subfr
    → (k * g.subfr_length + g.subfr_length ≤ 320) × (since_by g k * g.subfr_length + g.subfr_length ≤ 320)
subframes {g} {lags} {k} s h =
    let l = g.subfr_length in
    let a = s.short in
    let n = s.few in
    let four : g.nb_subfr * l ≤ 4 * l = mul-le-mul_right l n in
    let one : k * l + l ≤ g.nb_subfr * l = subframe-within l h in
    let two : since_by g k * l ≤ k * l = mul-le-mul_right l (since-few g k) in
    (omega arith, omega arith)

-- where since k is not 0, k is not, and kL is at least L
held-within : (g : Given) (k : ℕ) → eqb (since_by g k) 0 ≡ false → g.subfr_length ≤ k * g.subfr_length
held-within g k e =
    let a = eqb-false (since_by g k) 0 e in
    let b = since-few g k in
    let one : 1 ≤ k = ⊎_elim (λ (z : 0 ≡ k). absurd (a (omega arith))) (λ (z : 0 < k). z) (eq-or-lt_of_le (omega arith)) in
    omega (arith, mul-le-mul_right g.subfr_length one)

pub fits_by : {g : Given} {lags : List ℤ} {k : ℕ} (lf gains : List ℤ) → Sound g lags → k < g.nb_subfr → Fits (fix_by g lags lf gains k)
unfolding fix_by
fits_by {g} {lags} {k} lf gains s h =
    let w = subframes s h in
    let short = s.short in
    let d = s.delay_short in
    let high = s.lag_high k h in
    record {
      some = s.paths1;
      few = s.paths4;
      order = s.order16;
      shaping = let a = s.shaping2 in omega arith;
      shaping24 = s.shaping24;
      short = short;
      delay = s.delay40;
      frame = w.0;
      history = let a = w.0 in omega arith;
      work_low = omega arith;
      work = let a = w.1 in omega arith;
      lag_high = omega arith;
      lag_low = λ e. let a = s.lag_low e k h in omega arith;
      early = λ e. let a = s.early e k h in omega arith;
      held = λ e. let a = held-within g k e in omega arith;
      old = omega arith;
    }

-- ---- what a subframe asks for, all together
pub record May (g : Given) (x pred ltp ar lf gains lags : List ℤ) (k : ℕ) : Type 0 where
  pub fits : Fits (fix_by g lags lf gains k)
  pub room : Room (fix_by g lags lf gains k)
  pub gain : pos 1 ≤ℤ (fix_by g lags lf gains k).Gain_Q16
  pub delay : (fix_by g lags lf gains k).decisionDelay ≤ 2 * (fix_by g lags lf gains k).subfr_length
  pub two : 2 * (fix_by g lags lf gains k).subfr_length ≤ g.nb_subfr * g.subfr_length
  pub within : (fix_by g lags lf gains k).base + (fix_by g lags lf gains k).subfr_length ≤ g.nb_subfr * g.subfr_length
  pub samples : (fix_by g lags lf gains k).base + (fix_by g lags lf gains k).subfr_length ≤ length x
  pub row : row_by g k * 16 + 16 ≤ length pred
  pub five : k * 5 + 5 ≤ length ltp
  pub shape : k * 24 + 24 ≤ length ar

pub may_of : {g : Given} {x pred ltp ar tilt harm lf gains lags : List ℤ} {k : ℕ} → Sound g lags → Stocked g x pred ltp ar tilt harm lf gains lags
    → k < g.nb_subfr → May g x pred ltp ar lf gains lags k
unfolding fix_by
may_of {g} {x} {pred} {ltp} {ar} {tilt} {harm} {lf} {gains} {lags} {k} s w h =
    let l = g.subfr_length in
    let n = g.nb_subfr in
    let one : k * l + l ≤ n * l = subframe-within l h in
    let two : 2 * l ≤ n * l = mul-le-mul_right l s.some in
    let few = s.few in
    record {
      fits = fits_by lf gains s h;
      room = record { room = s.lag_high k h };
      gain = w.each k h;
      delay = let a = s.delay_short in omega arith;
      two = two;
      within = one;
      samples = let a = w.samples in omega arith;
      row = let a = row-few g k (omega arith) in let b = w.pred_rows in omega arith;
      five = let a = w.ltp_rows in omega arith;
      shape = let a = w.ar_rows in omega arith;
    }

-- ---- the same of a call
pub sound-of : (c : Call) {z : Sizes} {gain : ℤ} → Good c.settings z c.state.lagPrev gain c.Gains_Q16 c.pitchL → Sound (given_of c) c.pitchL
sound-of c g = sound-by g.settings g.lag

pub fits-of : (c : Call) {z : Sizes} {gain : ℤ} (k : ℕ) → Good c.settings z c.state.lagPrev gain c.Gains_Q16 c.pitchL → k < count_of c → Fits (fix_of c k)
fits-of c k g h = fits_by c.LF_shp_Q14 c.Gains_Q16 (sound-of c g) h

-- what `given_of` asks for
pub given-may : {s : Settings} {z : Sizes} {p gain : ℤ} {gains lags : List ℤ} → Good s z p gain gains lags
    → (nat_z s.signalType ≤ 2) × ((nat_z s.quantOffsetType ≤ 1) × (nat_z s.nb_subfr ≤ length lags))
given-may g = let e = g.rows.lags in (g.settings.kind.most, (g.settings.offset.most, omega arith))

-- its rows hold what the subframes read
pub stocked-by : {s : Settings} {z : Sizes} {p gain : ℤ} {x pred ltp ar tilt harm lf gains lags : List ℤ} → Good s z p gain gains lags
    → length x ≡ z.samples → length pred ≡ z.pred_coef → length ltp ≡ z.ltp_coef → length ar ≡ z.ar
    → length tilt ≡ z.tilt → length harm ≡ z.harm_gain → length lf ≡ z.lf
    → Stocked (given_by s p lags) x pred ltp ar tilt harm lf gains lags
unfolding given_by
stocked-by {s} {z} g x pred ltp ar tilt harm lf =
    let r = g.rows in
    record {
      samples = let a = r.samples in omega arith;
      pred_rows = let a = r.pred-coef in omega arith;
      ltp_rows = let a = r.ltp-coef in omega arith;
      ar_rows = let a = r.ar in omega arith;
      tilts = let a = r.tilt in omega arith;
      harms = let a = r.harm-gain in omega arith;
      lfs = let a = r.lf in omega arith;
      gain_words = let a = r.gains in omega arith;
      lag_words = let a = r.lags in omega arith;
      each = g.gain.each;
    }
