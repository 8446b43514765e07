-- A frame under two rules of replacement. Between its subframes the first 16 LPC words of each path count, and at the end the 16 from L on.
-- Assumes nothing.
use Prim.Native.Nat.{ℕ, ◌+◌, ◌*◌, ◌<◌}
use native.Mathlib.Omega.{arith}
use mathlib.Core.Path.{◌≡◌, refl, sym, ap, ap₂, ◌∙◌}
use mathlib.Core.Bool.{Bool}
use mathlib.Core.List.{List, []}
use lib.ListN.{get_or}
use lib.IntN.{ℤ}
use Rattle.fixed.specs.Iter.{iter}
use Rattle.fixed.proofs.Iters.{iter-same, iter-rel, either-rel}
use Rattle.word_steps.specs.Gains.{gain_adj_Q16}
use Rattle.word_steps.specs.Tail.{words_turn, words_from}
use Rattle.limits.specs.Count.{same_z}
use Rattle.path.specs.declared.structs.Path.{Path}
use Rattle.path.specs.declared.structs.Fix.{Fix}
use Rattle.path.specs.Data.{no_path, Paths, paths, Running, Rows}
use Rattle.path.specs.Scaled.{scale_turn, scaled_words, scaled_path}
use Rattle.steps.specs.Among.{Rule}
use Rattle.steps.specs.Scale.{scale_path_turn, scaled_paths, scaled}
use Rattle.steps.specs.Flush.{best_of, fit_middle, fit_last, Outs, flushed, others_raised}
use Rattle.steps.specs.declared.structs.Given.{Given}
use Rattle.steps.specs.Call.{Call, given_of, count_of, fix_by, rows_by}
use Rattle.steps.specs.Frame.{Framed, start, outs_of, flushed_run, middle_by, rewhitened_at, refilled, Whitened, whitened_of, whitened, regained, flushed_first, whitened_first, before, coded, step, turn_by, subframe_turn, run, left_by, handed_out, ended_by, frame}
use Rattle.steps.proofs.Best.{best-in}
use Rattle.full_copy.specs.Copy.{Copies}
use Rattle.full_copy.proofs.Windows.{set_both, len-both, Win, win-refl, win-set}
use Rattle.full_copy.proofs.Sample.{PathsRel, paths-map}
use Rattle.full_copy.proofs.Subframe.{blank, LpcRel, Ends, subframe-win}

-- ---- the flush: it reads no LPC word
flush-win : (n l d : ℕ) (fit : ℤ → ℤ) (g w : ℕ) {W : List ℤ → List ℤ → Type 0} (t u : Running) → LpcRel n W t u
    → flushed_run l d fit g w t ≡ flushed_run l d fit g w u
unfolding flushed_run
flush-win n l d fit g w t u r =
    ap (λ (z : List (List (List ℤ))). flushed (4 * l) (get_or z w []) fit d g t.core.smpl_buf_idx (outs_of t)) r.ps.rings
    ∙ ap (λ (z : Running). flushed (4 * l) (get_or u.core.ps.rings w []) fit d g z.core.smpl_buf_idx (outs_of z)) r.rest

-- a frame in work but for its paths, with other rows handed out
abbrev with_outs : Running → Outs → Running
with_outs t o = record { core = (blank t).core; xq = o.xq; sLTP_shp_Q14 = o.sLTP_shp_Q14; pulses = o.pulses }

middle-blank : (n l d : ℕ) (gain : ℤ) (t : Running)
    → blank (middle_by n l d gain t) ≡ with_outs (blank t) (flushed_run l d (fit_middle gain) (2 * l) (best_of t.core.ps.owns n) t)
unfolding middle_by
middle-blank n l d gain t = refl

middle-paths : (n l d : ℕ) (gain : ℤ) (t : Running)
    → (middle_by n l d gain t).core.ps ≡ paths (others_raised (best_of t.core.ps.owns n) n t.core.ps.owns) t.core.ps.lpcs t.core.ps.rings
unfolding middle_by
middle-paths n l d gain t = refl

middle-win : (n l d : ℕ) (gain : ℤ) {W : List ℤ → List ℤ → Type 0} (t u : Running) → LpcRel n W t u → LpcRel n W (middle_by n l d gain t) (middle_by n l d gain u)
middle-win n l d gain t u r =
    let b : best_of t.core.ps.owns n ≡ best_of u.core.ps.owns n = ap (λ (z : List Path). best_of z n) r.ps.owns in
    let f : flushed_run l d (fit_middle gain) (2 * l) (best_of t.core.ps.owns n) t ≡ flushed_run l d (fit_middle gain) (2 * l) (best_of u.core.ps.owns n) u =
    ap (λ (w : ℕ). flushed_run l d (fit_middle gain) (2 * l) w t) b ∙ flush-win n l d (fit_middle gain) (2 * l) (best_of u.core.ps.owns n) t u r in
    record {
      ps =
          rw (middle-paths n l d gain t, middle-paths n l d gain u)
          (record { owns = ap (λ (z : List Path). others_raised (best_of z n) n z) r.ps.owns; rings = r.ps.rings; lpcs = r.ps.lpcs });
      rest = middle-blank n l d gain t ∙ ap₂ with_outs r.rest f ∙ sym (middle-blank n l d gain u);
    }

-- ---- the change of gain
win-scaled : (adj : ℤ) (s t : List ℤ) → Win 0 16 s t → Win 0 16 (scaled_words adj 0 16 s) (scaled_words adj 0 16 t)
unfolding scaled_words
win-scaled adj s t r =
    iter-rel (λ j. Win 0 16) (scale_turn adj 0) (scale_turn adj 0) 16 (λ j l a b w. rw (w.at (0 + j) (omega arith) (omega arith)) (win-set w (0 + j) _)) s t r

scale-win : (adj : ℤ) (n k : ℕ) → k < n → (p q : Paths) → PathsRel n (λ k. Win 0 16) p q → PathsRel n (λ k. Win 0 16) (scale_path_turn adj k p) (scale_path_turn adj k q)
unfolding scaled_path
scale-win adj n k h p q w =
    record {
      owns = rw w.owns refl;
      rings = rw w.rings refl;
      lpcs =
          record {
            len = len-both p.lpcs q.lpcs k k _ _ w.lpcs.len;
            at = λ j l.
                set_both (Win 0 16) [] p.lpcs q.lpcs k j _ _ w.lpcs.len (λ z. win-refl 0 16 []) (λ z. win-scaled adj _ _ (w.lpcs.at k h)) (λ z. w.lpcs.at j l);
          };
    }

scaled_paths-win : (adj : ℤ) (n : ℕ) (p q : Paths) → PathsRel n (λ k. Win 0 16) p q → PathsRel n (λ k. Win 0 16) (scaled_paths adj n p) (scaled_paths adj n q)
unfolding scaled_paths
scaled_paths-win adj n p q w =
    iter-rel (λ j. PathsRel n (λ k. Win 0 16)) (scale_path_turn adj) (scale_path_turn adj) n (λ j h a b. scale-win adj n j h a b) p q w

scaled-blank : (f : Fix) (rewhite : Bool) (adj : ℤ) (t : Running) → blank (scaled f rewhite adj t) ≡ blank (scaled f rewhite adj (blank t))
unfolding scaled
scaled-blank f rewhite adj t = refl

scaled-paths : (f : Fix) (rewhite : Bool) (adj : ℤ) (t : Running) → (scaled f rewhite adj t).core.ps ≡ scaled_paths adj f.nStates t.core.ps
unfolding scaled
scaled-paths f rewhite adj t = refl

scaled-win : (f : Fix) (rewhite : Bool) (adj : ℤ) (t u : Running) → LpcRel f.nStates (Win 0 16) t u
    → LpcRel f.nStates (Win 0 16) (scaled f rewhite adj t) (scaled f rewhite adj u)
scaled-win f rewhite adj t u w =
    record {
      ps = rw (scaled-paths f rewhite adj t, scaled-paths f rewhite adj u) (scaled_paths-win adj f.nStates t.core.ps u.core.ps w.ps);
      rest = scaled-blank f rewhite adj t ∙ ap (λ (z : Running). blank (scaled f rewhite adj z)) w.rest ∙ sym (scaled-blank f rewhite adj u);
    }

regained-win : (f : Fix) (rewhite : Bool) (prev : ℤ) (t u : Running) → LpcRel f.nStates (Win 0 16) t u
    → LpcRel f.nStates (Win 0 16) (regained f rewhite prev t) (regained f rewhite prev u)
unfolding regained
regained-win f rewhite prev t u w =
    either-rel (LpcRel f.nStates (Win 0 16)) (same_z f.Gain_Q16 prev) _ _ _ _ (λ e. w)
    (λ e. scaled-win f rewhite (gain_adj_Q16 prev f.Gain_Q16) t u w)

-- ---- the rewhitening: no LPC word
refilled-blank : (f : Fix) (inv : ℤ) (row : List ℤ) (t : Running) → blank (refilled f inv row t) ≡ blank (refilled f inv row (blank t))
unfolding refilled
refilled-blank f inv row t = refl

refilled-paths : (f : Fix) (inv : ℤ) (row : List ℤ) (t : Running) → (refilled f inv row t).core.ps ≡ t.core.ps
unfolding refilled
refilled-paths f inv row t = refl

refilled-win : (n : ℕ) (f : Fix) (inv : ℤ) (row : List ℤ) {W : List ℤ → List ℤ → Type 0} (t u : Running) → LpcRel n W t u
    → LpcRel n W (refilled f inv row t) (refilled f inv row u)
refilled-win n f inv row t u w =
    record {
      ps = rw (refilled-paths f inv row t, refilled-paths f inv row u) w.ps;
      rest = refilled-blank f inv row t ∙ ap (λ (z : Running). blank (refilled f inv row z)) w.rest ∙ sym (refilled-blank f inv row u);
    }

-- with the filtered history beside it
pub record WhiteRel (n : ℕ) (W : List ℤ → List ℤ → Type 0) (t u : Whitened) : Type 0 where
  pub run : LpcRel n W t.run u.run
  pub row : t.sLTP ≡ u.sLTP

whitened-by : (f : Fix) (a : List ℤ) (inv : ℤ) (t : Running) (row new : List ℤ) → rewhitened_at f a t.xq row ≡ new
    → whitened f a inv t row ≡ whitened_of (refilled f inv new t) new
unfolding whitened
whitened-by f a inv t row new e = ap (λ (z : List ℤ). whitened_of (refilled f inv z t) z) e

whitened-win : (n : ℕ) (f : Fix) (a : List ℤ) (inv : ℤ) (row : List ℤ) {W : List ℤ → List ℤ → Type 0} (t u : Running) → LpcRel n W t u
    → WhiteRel n W (whitened f a inv t row) (whitened f a inv u row)
whitened-win n f a inv row t u w =
    let e : rewhitened_at f a t.xq row ≡ rewhitened_at f a u.xq row = ap (λ (z : Running). rewhitened_at f a z.xq row) w.rest in
    rw (whitened-by f a inv t row (rewhitened_at f a u.xq row) e, whitened-by f a inv u row (rewhitened_at f a u.xq row) refl)
    (record { run = refilled-win n f inv (rewhitened_at f a u.xq row) t u w; row = refl })

-- ---- before the samples
flushed_first-win : (again : Bool) (f : Fix) (gain1 : ℤ) {W : List ℤ → List ℤ → Type 0} (t u : Running) → LpcRel f.nStates W t u
    → LpcRel f.nStates W (flushed_first again f gain1 t) (flushed_first again f gain1 u)
unfolding flushed_first
flushed_first-win again f gain1 {W} t u w =
    either-rel (LpcRel f.nStates W) again _ _ _ _ (λ e. middle-win f.nStates f.subfr_length f.decisionDelay gain1 t u w) (λ e. w)

whitened_first-win : (n : ℕ) (rewhite : Bool) (f : Fix) (a : List ℤ) (inv : ℤ) (row : List ℤ) {W : List ℤ → List ℤ → Type 0} (t u : Running) → LpcRel n W t u
    → WhiteRel n W (whitened_first rewhite f a inv t row) (whitened_first rewhite f a inv u row)
unfolding whitened_first
whitened_first-win n rewhite f a inv row {W} t u w =
    either-rel (WhiteRel n W) rewhite _ _ _ _ (λ e. whitened-win n f a inv row t u w) (λ e. record { run = w; row = refl })

before-win : (again rewhite : Bool) (f : Fix) (a : List ℤ) (gain1 inv prev : ℤ) (row : List ℤ) (t u : Running) → LpcRel f.nStates (Win 0 16) t u
    → WhiteRel f.nStates (Win 0 16) (before again rewhite f a gain1 inv prev t row) (before again rewhite f a gain1 inv prev u row)
unfolding before
before-win again rewhite f a gain1 inv prev row t u w =
    let z = whitened_first-win f.nStates rewhite f a inv row _ _ (flushed_first-win again f gain1 t u w) in
    record { run = regained-win f rewhite prev _ _ z.run; row = z.row }

-- ---- a subframe, all subframes
pub record FramedRel (n : ℕ) (W : List ℤ → List ℤ → Type 0) (t u : Framed) : Type 0 where
  pub run : LpcRel n W t.run u.run
  pub row : t.sLTP ≡ u.sLTP
  pub gain : t.prev_gain_Q16 ≡ u.prev_gain_Q16

coded-win : (r r' : Rule) → Copies r → Copies r' → (f : Fix) (v : Rows) (x : List ℤ) → 0 < f.nStates → (t u : Whitened) → WhiteRel f.nStates (Win 0 16) t u
    → FramedRel f.nStates (Ends f.subfr_length) (coded r f v x t) (coded r' f v x u)
unfolding coded
coded-win r r' g g' f v x n0 t u w =
    record { run = subframe-win r r' g g' f v x n0 t.run u.run w.run; row = w.row; gain = refl }

first-16 : (n l : ℕ) (t u : Running) → LpcRel n (Ends l) t u → LpcRel n (Win 0 16) t u
first-16 n l t u w = record { ps = paths-map (λ k h s t z. z.0) w.ps; rest = w.rest }

-- what comes before the samples, of two frames in work
pub prior-win : (again rewhite : Bool) (f : Fix) (a : List ℤ) (gain1 inv : ℤ) (t u : Framed) → FramedRel f.nStates (Ends f.subfr_length) t u
    → WhiteRel f.nStates (Win 0 16) (before again rewhite f a gain1 inv t.prev_gain_Q16 t.run t.sLTP)
    (before again rewhite f a gain1 inv u.prev_gain_Q16 u.run u.sLTP)
prior-win again rewhite f a gain1 inv t u w =
    rw (w.row, w.gain)
    (before-win again rewhite f a gain1 inv u.prev_gain_Q16 u.sLTP t.run u.run (first-16 f.nStates f.subfr_length t.run u.run w.run))

step-win : (r r' : Rule) → Copies r → Copies r' → (f : Fix) (v : Rows) (x : List ℤ) (again rewhite : Bool) (gain1 inv : ℤ) → 0 < f.nStates → (t u : Framed)
    → FramedRel f.nStates (Ends f.subfr_length) t u
    → FramedRel f.nStates (Ends f.subfr_length) (step r f v x again rewhite gain1 inv t) (step r' f v x again rewhite gain1 inv u)
unfolding step
step-win r r' g g' f v x again rewhite gain1 inv n0 t u w =
    coded-win r r' g g' f v x n0 _ _ (prior-win again rewhite f v.a gain1 inv t u w)

turn-win : (r r' : Rule) → Copies r → Copies r' → (g : Given) (x pred ltp ar tilt harm lf gains lags : List ℤ) (k : ℕ) → 0 < g.nStates → (t u : Framed)
    → FramedRel g.nStates (Ends g.subfr_length) t u
    → FramedRel g.nStates (Ends g.subfr_length) (turn_by r g x pred ltp ar tilt harm lf gains lags k t) (turn_by r' g x pred ltp ar tilt harm lf gains lags k u)
unfolding turn_by fix_by
turn-win r r' c c' g x pred ltp ar tilt harm lf gains lags k n0 t u w =
    step-win r r' c c' (fix_by g lags lf gains k) (rows_by g pred ltp ar tilt harm k) x _ _ _ _ n0 t u w

-- n subframes of a call
pub runs-win : (r r' : Rule) → Copies r → Copies r' → (c : Call) (x out : List ℤ) → 0 < (given_of c).nStates → (n : ℕ)
    → FramedRel (given_of c).nStates (Ends (given_of c).subfr_length) (iter (subframe_turn r c x) n (start c out)) (iter (subframe_turn r' c x) n (start c out))
runs-win r r' g g' c x out n0 n =
    iter-rel (λ k. FramedRel (given_of c).nStates (Ends (given_of c).subfr_length)) (subframe_turn r c x) (subframe_turn r' c x) n
    (λ k h t u. turn-win r r' g g' (given_of c) x c.PredCoef_Q12 c.LTPCoef_Q14 c.AR_Q13 c.Tilt_Q14 c.HarmShapeGain_Q14 c.LF_shp_Q14 c.Gains_Q16 c.pitchL k n0 t u)
    (start c out) (start c out)
    (record {
      run =
          record {
            ps = record { owns = refl; rings = refl; lpcs = record { len = refl; at = λ k h. (win-refl 0 16 _, win-refl (given_of c).subfr_length (16 + (given_of c).subfr_length) _) } };
            rest = refl;
          };
      row = refl;
      gain = refl;
    })

-- all of them
pub run-win : (r r' : Rule) → Copies r → Copies r' → (c : Call) (x out : List ℤ) → 0 < (given_of c).nStates
    → FramedRel (given_of c).nStates (Ends (given_of c).subfr_length) (run r c x out) (run r' c x out)
unfolding run
run-win r r' g g' c x out n0 = runs-win r r' g g' c x out n0 (count_of c)

-- ---- the end
words-win : (s t l : List ℤ) (a : ℕ) → Win a (16 + a) s t → words_from s a 16 l ≡ words_from t a 16 l
unfolding words_from
words-win s t l a r = iter-same (words_turn s a) (words_turn t a) 16 l (λ j h z. rw (r.at (a + j) (omega arith) (omega arith)) refl)

left-win : (g : Given) (lag : ℤ) (words : List ℤ) (gain : ℤ) (p : Path) (s t xq shp : List ℤ) → Win g.subfr_length (16 + g.subfr_length) s t
    → left_by g lag words gain p s xq shp ≡ left_by g lag words gain p t xq shp
unfolding left_by
left-win g lag words gain p s t xq shp w = rw (words-win s t words g.subfr_length w) refl

handed-win : (g : Given) (lag : ℤ) (words : List ℤ) (gain : ℤ) (p : Path) (s t : List ℤ) (o : Outs) → Win g.subfr_length (16 + g.subfr_length) s t
    → handed_out g lag words gain p s o ≡ handed_out g lag words gain p t o
handed-win g lag words gain p s t o w = rw (left-win g lag words gain p s t o.xq o.sLTP_shp_Q14 w) refl

ended-by : (g : Given) (last lag : ℤ) (words : List ℤ) (t : Framed) (owns : List Path) (w : ℕ) (gain : ℤ) (o : Outs)
    → t.run.core.ps.owns ≡ owns → best_of owns g.nStates ≡ w → t.prev_gain_Q16 ≡ gain
    → flushed_run g.subfr_length g.delay (fit_last last) (g.nb_subfr * g.subfr_length) w t.run ≡ o
    → ended_by g last lag words t ≡ handed_out g lag words gain (get_or owns w no_path) (get_or t.run.core.ps.lpcs w []) o
unfolding ended_by
ended-by g last lag words t owns w gain o e b k f =
    ap (λ (z : List Path).
    handed_out g lag words t.prev_gain_Q16 (get_or z (best_of z g.nStates) no_path) (get_or t.run.core.ps.lpcs (best_of z g.nStates) [])
    (flushed_run g.subfr_length g.delay (fit_last last) (g.nb_subfr * g.subfr_length) (best_of z g.nStates) t.run)) e
    ∙ ap (λ (z : ℕ).
    handed_out g lag words t.prev_gain_Q16 (get_or owns z no_path) (get_or t.run.core.ps.lpcs z [])
    (flushed_run g.subfr_length g.delay (fit_last last) (g.nb_subfr * g.subfr_length) z t.run)) b
    ∙ ap₂ (λ (y : ℤ) (z : Outs). handed_out g lag words y (get_or owns w no_path) (get_or t.run.core.ps.lpcs w []) z) k f

ended-win : (g : Given) (last lag : ℤ) (words : List ℤ) (t u : Framed) → 0 < g.nStates → FramedRel g.nStates (Ends g.subfr_length) t u
    → ended_by g last lag words t ≡ ended_by g last lag words u
ended-win g last lag words t u n0 r =
    let owns = u.run.core.ps.owns in
    let w = best_of owns g.nStates in
    let o = flushed_run g.subfr_length g.delay (fit_last last) (g.nb_subfr * g.subfr_length) w u.run in
    ended-by g last lag words t owns w u.prev_gain_Q16 o r.run.ps.owns refl r.gain
    (flush-win g.nStates g.subfr_length g.delay (fit_last last) (g.nb_subfr * g.subfr_length) w t.run u.run r.run)
    ∙ handed-win g lag words u.prev_gain_Q16 (get_or owns w no_path) _ _ o (r.run.ps.lpcs.at w (best-in owns g.nStates n0)).1
    ∙ sym (ended-by g last lag words u owns w u.prev_gain_Q16 o refl refl refl refl)

-- ---- the whole frame
pub frame-win : (r r' : Rule) → Copies r → Copies r' → (c : Call) (x out : List ℤ) → 0 < (given_of c).nStates → frame r c x out ≡ frame r' c x out
unfolding frame
frame-win r r' g g' c x out n0 = ended-win (given_of c) _ _ _ _ _ n0 (run-win r r' g g' c x out n0)
