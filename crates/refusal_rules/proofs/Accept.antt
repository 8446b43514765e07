-- An accepted call has everything that `Good` says. Assumes nothing.
use Prim.Native.Nat.{ℕ, suc, ◌-◌, ◌*◌, ◌%◌, ◌≤◌}
use native.Mathlib.Omega.{arith}
use native.Mathlib.Nat.{mod-lt}
use mathlib.Core.Path.{◌≡◌, refl, ap}
use mathlib.Core.Bool.{Bool, true, false, not, ◌||◌}
use mathlib.Core.List.{List}
use mathlib.Core.Logic.{inl, inr}
use lib.ListN.{get_or, length}
use lib.IntN.{ℤ, pos, negsuc, ◌*ℤ◌}
use lib.Dec.{eqb, ltb}
use lib.Signed.{lt_z, ◌≤ℤ◌}
use borrow.Author.Tests.{eqb-true, eqb-false, not-false, ltb-false}
use Rattle.fixed.specs.Iter.{either}
use Rattle.fixed.proofs.Lin.{lt-false, le-of-lin, neg-lin}
use Rattle.silk.specs.declared.structs.Settings.{Settings}
use Rattle.refusal_rules.specs.declared.answer.Sizes.{Sizes}
use Rattle.refusal_rules.specs.Code.{Accepted, code_of}
use Rattle.limits.specs.Count.{nat_z, same_z}
use Rattle.refusal_rules.specs.Good.{Among, GoodLength, GoodCount, GoodOrder, GoodShaping, GoodLag, QuietLag, GoodSettings, GoodRows, GoodGains, GoodLags, Good}
use Rattle.limits.specs.Tests.{outside, length_allowed, count_allowed, order_for, odd_z, some, lengths_refused, orders_refused, paths_refused, kinds_refused, gain_refused, some_gain, gains_refused, lag_refused, quiet_lag_refused, some_lag, last_of, lags_refused}
use Rattle.refusal_rules.specs.Table.{another, each_refused, rows_refused, table, answer_of}
use Rattle.limits.proofs.Laws.{same_true, or-false, or_elim, inside, some-false}
use Rattle.refusal_rules.proofs.Exactly.{exactly-accepted}

-- ---- one setting
-- a number that is not outside a range
among : (lo hi : ℕ) (z : ℤ) → outside (pos lo) (pos hi) z ≡ false → Among lo hi z
among lo hi z e = let h = inside lo hi z e in record { counts = h.0; least = h.1.0; most = h.1.1 }

-- a number that is one of those named
named : (lo hi v : ℕ) (z : ℤ) → lo ≤ v → v ≤ hi → same_z z (pos v) ≡ true → Among lo hi z × (nat_z z ≡ v)
named lo hi v z l h e = let s : z ≡ pos v = same_true z (pos v) e in rw s (record { counts = refl; least = l; most = h }, refl)

length-good : (l : ℤ) → length_allowed l ≡ true → GoodLength l
unfolding length_allowed
length-good l e = or_elim (or_elim (one 40 (omega arith) (omega arith) refl) (one 60 (omega arith) (omega arith) refl)) (one 80 (omega arith) (omega arith) refl) e
  where
    one : (v : ℕ) → 40 ≤ v → v ≤ 80 → v % 20 ≡ 0 → same_z l (pos v) ≡ true → GoodLength l
    one v lo hi w s = let h = named 40 80 v l lo hi s in record { among = h.0; whole = rw h.1 w }

count-good : (n : ℤ) → count_allowed n ≡ true → GoodCount n
unfolding count_allowed
count-good n e = or_elim (one 2 (omega arith) (omega arith) refl) (one 4 (omega arith) (omega arith) refl) e
  where
    one : (v : ℕ) → 2 ≤ v → v ≤ 4 → v % 2 ≡ 0 → same_z n (pos v) ≡ true → GoodCount n
    one v lo hi w s = let h = named 2 4 v n lo hi s in record { among = h.0; even = rw h.1 w }

-- both of them
pub lengths-good : (l n : ℤ) → lengths_refused l n ≡ false → GoodLength l × GoodCount n
unfolding lengths_refused
lengths-good l n e =
    let h = or-false (not (length_allowed l)) (not (count_allowed n)) e in
    (length-good l (not-false _ h.0), count-good n (not-false _ h.1))

order-good : (l order : ℤ) → GoodLength l → same_z order (order_for l) ≡ true → GoodOrder l order
unfolding order_for
order-good l order g e = way (same_z l (pos 80)) refl (same_true order (order_for l) e)
  where
    way : (t : Bool) → same_z l (pos 80) ≡ t → order ≡ either t (pos 16) (pos 10) → GoodOrder l order
    way true s o =
        let h = named 40 80 80 l (omega arith) (omega arith) s in
        rw o (record { among = record { counts = refl; least = omega arith; most = omega arith }; either = inr refl; room = omega (arith, h.1) })
    way false s o =
        rw o (record { among = record { counts = refl; least = omega arith; most = omega arith }; either = inl refl; room = omega (arith, g.among.least) })

shaping-good : (shaping : ℤ) → outside (pos 2) (pos 24) shaping ≡ false → odd_z shaping ≡ false → GoodShaping shaping
unfolding odd_z
shaping-good z e o =
    let h : nat_z z % 2 ≡ 1 → ⊥ = eqb-false (nat_z z % 2) 1 o in record { among = among 2 24 z e; even = omega (arith, mod-lt (nat_z z) {m = 2} (omega arith)) }

-- ---- the settings
settings-good : (s : Settings)
    → lengths_refused s.subfr_length s.nb_subfr ≡ false
    → orders_refused s.subfr_length s.predictLPCOrder s.shapingLPCOrder ≡ false
    → paths_refused s.nStatesDelayedDecision ≡ false
    → kinds_refused s.signalType s.quantOffsetType s.NLSFInterpCoef_Q2 s.Seed ≡ false
    → GoodSettings s
unfolding orders_refused paths_refused kinds_refused
settings-good s a b c d =
    let l = s.subfr_length in
    let a1 = lengths-good l s.nb_subfr a in
    let b2 = or-false (not (same_z s.predictLPCOrder (order_for l)) || outside (pos 2) (pos 24) s.shapingLPCOrder) (odd_z s.shapingLPCOrder) b in
    let b1 = or-false (not (same_z s.predictLPCOrder (order_for l))) (outside (pos 2) (pos 24) s.shapingLPCOrder) b2.0 in
    let k1 = outside (pos 0) (pos 2) s.signalType in
    let k2 = outside (pos 0) (pos 1) s.quantOffsetType in
    let k3 = outside (pos 0) (pos 4) s.NLSFInterpCoef_Q2 in
    let d3 = or-false (k1 || k2 || k3) (outside (pos 0) (pos 3) s.Seed) d in
    let d2 = or-false (k1 || k2) k3 d3.0 in
    let d1 = or-false k1 k2 d2.0 in
    record {
      l = a1.0;
      n = a1.1;
      order = order-good l s.predictLPCOrder a1.0 (not-false (same_z s.predictLPCOrder (order_for l)) b1.0);
      shaping = shaping-good s.shapingLPCOrder b1.1 b2.1;
      paths = among 1 4 s.nStatesDelayedDecision c;
      kind = among 0 2 s.signalType d1.0;
      offset = among 0 1 s.quantOffsetType d1.1;
      interp = among 0 4 s.NLSFInterpCoef_Q2 d2.1;
      seed = among 0 3 s.Seed d3.1;
    }

-- ---- the rows
-- a length that is not another
want : (have need : ℕ) → another have need ≡ false → have ≡ need
want have need e = eqb-true have need (not-false (eqb have need) e)

rows-good : (l n : ℤ) (z : Sizes) (gains lags : ℕ) → rows_refused l n z gains lags ≡ false → GoodRows (nat_z l) (nat_z n) z gains lags
unfolding rows_refused each_refused
rows-good l n z gains lags e =
    let m = nat_z n in
    let x1 = another z.samples (m * nat_z l) in
    let x2 = another z.pred_coef 32 in
    let x3 = another z.ltp_coef (5 * m) in
    let x4 = another z.ar (24 * m) in
    let x5 = another z.pulses (m * nat_z l) in
    let y1 = another z.harm_gain m in
    let y2 = another z.tilt m in
    let y3 = another z.lf m in
    let y4 = another gains m in
    let y5 = another lags m in
    let e5 = or-false (x1 || x2 || x3 || x4 || x5) (y1 || y2 || y3 || y4 || y5) e in
    let e4 = or-false (x1 || x2 || x3 || x4) x5 e5.0 in
    let e3 = or-false (x1 || x2 || x3) x4 e4.0 in
    let e2 = or-false (x1 || x2) x3 e3.0 in
    let e1 = or-false x1 x2 e2.0 in
    let f4 = or-false (y1 || y2 || y3 || y4) y5 e5.1 in
    let f3 = or-false (y1 || y2 || y3) y4 f4.0 in
    let f2 = or-false (y1 || y2) y3 f3.0 in
    let f1 = or-false y1 y2 f2.0 in
    record {
      samples = want z.samples (m * nat_z l) e1.0;
      pred-coef = want z.pred_coef 32 e1.1;
      ltp-coef = want z.ltp_coef (5 * m) e2.1;
      ar = want z.ar (24 * m) e3.1;
      pulses = want z.pulses (m * nat_z l) e4.1;
      harm-gain = want z.harm_gain m f1.0;
      tilt = want z.tilt m f1.1;
      lf = want z.lf m f2.1;
      gains = want gains m f3.1;
      lags = want lags m f4.1;
    }

-- ---- the gains
gain-good : (g : ℤ) → gain_refused g ≡ false → pos 1 ≤ℤ g
unfolding gain_refused
gain-good g e = le-of-lin (pos 1) g (omega (arith, lt-false g (pos 1) e))

gains-good : (n : ℕ) (g : ℤ) (gains : List ℤ) → length gains ≡ n → gains_refused g gains ≡ false → GoodGains n g gains
unfolding gains_refused some_gain
gains-good n g gains w e =
    let h = or-false (gain_refused g) (some (λ k. gain_refused (get_or gains k (pos 0))) (length gains)) e in
    record {
      prev = gain-good g h.0;
      each = λ k u. gain-good (get_or gains k (pos 0)) (some-false (λ j. gain_refused (get_or gains j (pos 0))) (length gains) h.1 k (omega arith));
    }

-- ---- the lags
lag-good : (l lag : ℤ) → GoodLength l → lag_refused l lag ≡ false → GoodLag l lag
unfolding lag_refused outside
lag-good (pos l) (pos m) g e =
    let h = or-false (ltb (5 * m) (2 * l)) (ltb (18 * l) (5 * m)) e in
    record { counts = refl; least = ltb-false (5 * m) (2 * l) h.0; most = ltb-false (18 * l) (5 * m) h.1 }
lag-good (pos l) (negsuc m) g e =
    let h = or-false (lt_z (pos 5 *ℤ negsuc m) (pos 2 *ℤ pos l)) (lt_z (pos 18 *ℤ pos l) (pos 5 *ℤ negsuc m)) e in
    absurd (omega (arith, lt-false (pos 5 *ℤ negsuc m) (pos 2 *ℤ pos l) h.0, neg-lin (pos (5 * suc m)), g.among.least))
lag-good (negsuc l) m g e = absurd (omega (arith, g.among.least))

quiet-good : (l lag : ℤ) → GoodLength l → quiet_lag_refused l lag ≡ false → QuietLag l lag
unfolding quiet_lag_refused
quiet-good l lag g e = way (same_z lag (pos 0)) refl e
  where
    way : (t : Bool) → same_z lag (pos 0) ≡ t → either t false (lag_refused l lag) ≡ false → QuietLag l lag
    way true s h = inl (same_true lag (pos 0) s)
    way false s h = inr (lag-good l lag g h)

lags-good : (n : ℕ) (l kind lagPrev : ℤ) (lags : List ℤ) → length lags ≡ n → GoodLength l → lags_refused l kind lagPrev lags ≡ false → GoodLags n l kind lagPrev lags
unfolding lags_refused some_lag last_of
lags-good n l kind lagPrev lags w g e =
    record {
      voiced = λ s k u. lag-good l (get_or lags k (pos 0)) g (some-false (λ j. lag_refused l (get_or lags j (pos 0))) (length lags) (rw s at e) k (omega arith));
      prev = λ s. quiet-good l lagPrev g (quiet s).0;
      last = λ s. rw (← w) (quiet-good l (get_or lags (length lags - 1) (pos 0)) g (quiet s).1);
    }
  where
    quiet : same_z kind (pos 2) ≡ false → (quiet_lag_refused l lagPrev ≡ false) × (quiet_lag_refused l (get_or lags (length lags - 1) (pos 0)) ≡ false)
    quiet s = or-false (quiet_lag_refused l lagPrev) (quiet_lag_refused l (get_or lags (length lags - 1) (pos 0))) (rw s at e)

-- ---- all of it
module _ (s : Settings) (z : Sizes) (lagPrev gain : ℤ) (gains lags : List ℤ) where
  pub good : answer_of s z lagPrev gain gains lags ≡ Accepted → Good s z lagPrev gain gains lags
  unfolding table
  good e =
      let none = (exactly-accepted s z lagPrev gain gains lags).0 (ap code_of e) in
      let settings = settings-good s (none 1 (omega arith) (omega arith)) (none 2 (omega arith) (omega arith)) (none 3 (omega arith) (omega arith)) (none 4 (omega arith) (omega arith)) in
      let rows = rows-good s.subfr_length s.nb_subfr z (length gains) (length lags) (none 5 (omega arith) (omega arith)) in
      record {
        settings = settings;
        rows = rows;
        gain = gains-good (nat_z s.nb_subfr) gain gains rows.gains (none 6 (omega arith) (omega arith));
        lag = lags-good (nat_z s.nb_subfr) s.subfr_length s.signalType lagPrev lags rows.lags settings.l (none 7 (omega arith) (omega arith));
      }
