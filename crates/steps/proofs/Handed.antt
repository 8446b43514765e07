-- What an accepted call hands out: as many pulses as the lent row has words, each of them and the seed within a byte, for every call whose lent row
-- holds bytes. Assumes nothing.
use Prim.Native.Nat.{ℕ, zero, suc, ◌+◌, ◌-◌, ◌*◌}
use native.Mathlib.Omega.{arith}
use native.Mathlib.Nat.{mod-lt}
use mathlib.Core.Path.{◌≡◌, refl, ◌∙◌}
use mathlib.Core.Bool.{Bool}
use mathlib.Core.List.{List, [], ◌∷◌}
use lib.ListN.{length, get_or, set, replicate, length-set}
use lib.IntN.{ℤ, pos}
use lib.Dec.{eqb}
use mir.Syntax.{w8}
use mir.Val.{SFits}
use mir.Facts.{sfits_lit}
use Rattle.fixed.specs.Row.{word}
use Rattle.fixed.proofs.Iters.{iter-keeps, either-all}
use Rattle.fixed.proofs.Wraps.{wrap8-fits}
use Rattle.noise.specs.Output.{pulse_of}
use Rattle.limits.specs.Count.{nat_z, same_z}
use Rattle.word_steps.specs.Gains.{gain_adj_Q16}
use Rattle.path.specs.declared.structs.Path.{Path}
use Rattle.path.specs.declared.structs.Candidate.{Candidate}
use Rattle.path.specs.declared.structs.Fix.{Fix}
use Rattle.path.specs.declared.structs.Halves.{Halves}
use Rattle.path.specs.declared.structs.Moves.{Moves}
use Rattle.path.specs.Data.{no_path, Paths, paths, Running, Rows}
use Rattle.path.specs.Path.{moved}
use Rattle.path.specs.Taken.{taken, taken_own}
use Rattle.path.specs.Scaled.{scaled_path, scaled_own}
use Rattle.refusal_rules.specs.Code.{code_of}
use Rattle.steps.specs.Among.{Rule, swap_of, copied, replaced}
use Rattle.steps.specs.Each.{move_turn, unmoved, moves, take_turn, taken_all}
use Rattle.steps.specs.Settled.{leaving, replacing, settled}
use Rattle.steps.specs.Sample.{tried, sample}
use Rattle.steps.specs.Leaving.{leaves, emit}
use Rattle.steps.specs.Turn.{took_from, took, put_at, put, turn}
use Rattle.steps.specs.Subframe.{move_back, subframe}
use Rattle.steps.specs.Scale.{scale_path_turn, scaled_paths, scaled}
use Rattle.steps.specs.Call.{Call, length_of, count_of, paths_of}
use Rattle.steps.specs.Begin.{zero_path, zero_lpcs, zero_rings, own_from, start_lpc, start_rings, begin_turn, begun}
use Rattle.steps.specs.Flush.{Outs, flush_at, flush_turn, flushed, raised_path, other_path, others_turn, others_raised}
use Rattle.steps.specs.Frame.{Framed, start_paths, start, flushed_run, middle_by, refilled, Whitened, whitened_of, whitened, regained, flushed_first, whitened_first, before, coded, step, turn_by, subframe_turn, run, ended_by, frame}
use Rattle.steps.specs.Entry.{outcome, answered}
use Rattle.steps.proofs.Outcomes.{outcome-is, accepted-by}

-- ---- a row of which Q holds at each place, and one word more
set_all : {A : Type 0} (Q : A → Type 0) (l : List A) (p : ℕ) (a d : A) → ((i : ℕ) → Q (get_or l i d)) → Q a → (i : ℕ) → Q (get_or (set l p a) i d)
set_all Q [] p a d h q i = h i
set_all Q (x ∷ l) zero a d h q zero = q
set_all Q (x ∷ l) zero a d h q (suc i) = h (suc i)
set_all Q (x ∷ l) (suc p) a d h q zero = h zero
set_all Q (x ∷ l) (suc p) a d h q (suc i) = set_all Q l p a d (λ j. h (suc j)) q i

-- ---- the pulses: n of them, each a byte
pub record Pulses (n : ℕ) (l : List ℤ) : Type 0 where
  pub long : length l ≡ n
  pub bytes : (i : ℕ) → SFits w8 (word l i)

pulse-fits : (q : ℤ) → SFits w8 (pulse_of q)
unfolding pulse_of
pulse-fits q = wrap8-fits _

pulse-set : (n : ℕ) (l : List ℤ) (p : ℕ) (q : ℤ) → Pulses n l → Pulses n (set l p (pulse_of q))
pulse-set n l p q h =
    record { long = length-set l p (pulse_of q) ∙ h.long; bytes = set_all (SFits w8) l p (pulse_of q) (pos 0) h.bytes (pulse-fits q) }

emit-pulses : (n : ℕ) (now : Bool) (l : List ℤ) (p : ℕ) (q : ℤ) → Pulses n l → Pulses n (emit now l p (pulse_of q))
emit-pulses n now l p q h = either-all (Pulses n) now (set l p (pulse_of q)) l (λ e. pulse-set n l p q h) (λ e. h)

-- ---- the seeds that the paths started from: each a byte
abbrev Seed : Path → Type 0
Seed p = SFits w8 p.«SeedInit»

abbrev Seeds : List Path → Type 0
Seeds o = (k : ℕ) → Seed (get_or o k no_path)

seed-set : (o : List Path) (k : ℕ) (p : Path) → Seeds o → Seed p → Seeds (set o k p)
seed-set o k p h s = set_all Seed o k p no_path h s

begin-seed : (ar2 : List ℤ) (lf diff : ℤ) (seed k : ℕ) → Seed (own_from ar2 lf diff seed k)
unfolding own_from
begin-seed ar2 lf diff seed k = record { sfits = let h = mod-lt (k + seed) {m = 4} (omega arith) in omega arith }

zero-seeds : (n : ℕ) → Seeds (replicate n zero_path)
unfolding zero_path
zero-seeds zero k = sfits_lit tt
zero-seeds (suc n) zero = sfits_lit tt
zero-seeds (suc n) (suc k) = zero-seeds n k

start-seeds : (c : Call) → Seeds (start_paths c).owns
unfolding start_paths begun
start-seeds c =
    let s = c.state in
    let seed = nat_z c.settings.Seed in
    let turn =
    begin_turn s.sAR2_Q14 s.sLF_AR_shp_Q14 s.sDiff_shp_Q14 seed (start_lpc s.sLPC_Q14) (start_rings (word s.sLTP_shp_Q14 (4 * length_of c - 1))) in
    iter-keeps
    (λ j (p : Paths). Seeds p.owns)
    turn
    (paths_of c)
    (λ j l p h.
    seed-set p.owns j (own_from s.sAR2_Q14 s.sLF_AR_shp_Q14 s.sDiff_shp_Q14 seed j) h (begin-seed s.sAR2_Q14 s.sLF_AR_shp_Q14 s.sDiff_shp_Q14 seed j))
    (paths (replicate 4 zero_path) zero_lpcs zero_rings)
    (zero-seeds 4)

move-seeds : (f : Fix) (h : Halves) (ar : List ℤ) (o : List Path) → Seeds o → Seeds (moves f h ar o).owns
unfolding moves moved
move-seeds f h ar o s =
    iter-keeps (λ j (m : Moves). Seeds m.owns) (move_turn f h ar) f.nStates (λ j l m q. seed-set m.owns j _ q (q j)) (unmoved o) s

taken-seeds : (c : List (List Candidate)) (n i r : ℕ) (p : Paths) → Seeds p.owns → Seeds (taken_all c n i r p).owns
unfolding taken_all taken taken_own
taken-seeds c n i r p s = iter-keeps (λ j (q : Paths). Seeds q.owns) (take_turn c i r) n (λ j l q h. seed-set q.owns j _ h (h j)) p s

replaced-seeds : (rule : Rule) (d : List (List Candidate)) (n i : ℕ) (p : Paths) → Seeds p.owns → Seeds (replaced rule (swap_of d n) i p).owns
unfolding replaced copied
replaced-seeds rule d n i p s =
    let w = swap_of d n in
    either-all (λ (q : Paths). Seeds q.owns) w.yes (copied rule w.to w.by i p) p (λ e. seed-set p.owns w.to _ s (s w.by)) (λ e. s)

sample-seeds : (rule : Rule) (f : Fix) (v : Rows) (x : List ℤ) (i : ℕ) (t : Running) → Seeds t.core.ps.owns → Seeds (took rule f v x i t).ps.owns
unfolding took took_from sample tried settled replacing leaving
sample-seeds rule f v x i t s = taken-seeds _ _ _ _ _ (replaced-seeds rule _ _ i _ (move-seeds f v.half v.ar t.core.ps.owns s))

other-seed : (w k : ℕ) (p : Path) → Seed p → Seed (other_path w k p)
unfolding other_path raised_path
other-seed w k p s = either-all Seed (eqb k w) p (raised_path p) (λ e. s) (λ e. s)

raised-seeds : (w n : ℕ) (o : List Path) → Seeds o → Seeds (others_raised w n o)
unfolding others_raised
raised-seeds w n o s =
    iter-keeps (λ j (l : List Path). Seeds l) (others_turn w) n (λ j q l h. seed-set l j (other_path w j (get_or l j no_path)) h (other-seed w j (get_or l j no_path) (h j))) o s

scaled-seeds : (adj : ℤ) (n : ℕ) (p : Paths) → Seeds p.owns → Seeds (scaled_paths adj n p).owns
unfolding scaled_paths scaled_path scaled_own
scaled-seeds adj n p s = iter-keeps (λ j (q : Paths). Seeds q.owns) (scale_path_turn adj) n (λ j l q h. seed-set q.owns j _ h (h j)) p s

-- ---- a frame in work
record Bytes (n : ℕ) (t : Running) : Type 0 where
  pulses : Pulses n t.pulses
  seeds : Seeds t.core.ps.owns

turn-bytes : (rule : Rule) (f : Fix) (v : Rows) (x : List ℤ) (i n : ℕ) (t : Running) → Bytes n t → Bytes n (turn rule f v x i t)
unfolding turn put put_at
turn-bytes rule f v x i n t b =
    record {
      pulses = emit-pulses n (leaves f i) t.pulses _ _ b.pulses;
      seeds = sample-seeds rule f v x i t b.seeds;
    }

subframe-bytes : (rule : Rule) (f : Fix) (v : Rows) (x : List ℤ) (n : ℕ) (t : Running) → Bytes n t → Bytes n (subframe rule f v x t)
unfolding subframe move_back
subframe-bytes rule f v x n t b =
    let h = iter-keeps (λ j (u : Running). Bytes n u) (turn rule f v x) f.subfr_length (λ j l u q. turn-bytes rule f v x j n u q) t b in
    record { pulses = h.pulses; seeds = h.seeds }

flushed-pulses : (h : ℕ) (ring : List (List ℤ)) (fit : ℤ → ℤ) (d g r n : ℕ) (o : Outs) → Pulses n o.pulses → Pulses n (flushed h ring fit d g r o).pulses
unfolding flushed flush_at
flushed-pulses h ring fit d g r n o b =
    iter-keeps (λ j (u : Outs). Pulses n u.pulses) (flush_turn h ring fit d g r) d (λ j l u q. pulse-set n u.pulses _ _ q) o b

middle-bytes : (again : Bool) (f : Fix) (gain : ℤ) (n : ℕ) (t : Running) → Bytes n t → Bytes n (flushed_first again f gain t)
unfolding flushed_first middle_by flushed_run
middle-bytes again f gain n t b =
    either-all (Bytes n) again (middle_by f.nStates f.subfr_length f.decisionDelay gain t) t
    (λ e. record { pulses = flushed-pulses _ _ _ _ _ _ n _ b.pulses; seeds = raised-seeds _ f.nStates t.core.ps.owns b.seeds })
    (λ e. b)

white-bytes : (rewhite : Bool) (f : Fix) (a : List ℤ) (inv : ℤ) (n : ℕ) (t : Running) (sltp : List ℤ) → Bytes n t → Bytes n (whitened_first rewhite f a inv t sltp).run
unfolding whitened_first whitened refilled
white-bytes rewhite f a inv n t sltp b =
    either-all (λ (u : Whitened). Bytes n u.run) rewhite (whitened f a inv t sltp) (whitened_of t sltp) (λ e. record { pulses = b.pulses; seeds = b.seeds }) (λ e. b)

gain-bytes : (f : Fix) (rewhite : Bool) (prev : ℤ) (n : ℕ) (t : Running) → Bytes n t → Bytes n (regained f rewhite prev t)
unfolding regained scaled
gain-bytes f rewhite prev n t b =
    either-all (Bytes n) (same_z f.Gain_Q16 prev) t (scaled f rewhite (gain_adj_Q16 prev f.Gain_Q16) t) (λ e. b)
    (λ e. record { pulses = b.pulses; seeds = scaled-seeds _ f.nStates t.core.ps b.seeds })

step-bytes : (rule : Rule) (c : Call) (x : List ℤ) (k n : ℕ) (t : Framed) → Bytes n t.run → Bytes n (subframe_turn rule c x k t).run
unfolding turn_by step coded before
step-bytes rule c x k n t b =
    subframe-bytes rule _ _ x n _ (gain-bytes _ _ _ n _ (white-bytes _ _ _ _ n _ _ (middle-bytes _ _ _ n t.run b)))

run-bytes : (rule : Rule) (c : Call) (x out : List ℤ) → ((i : ℕ) → SFits w8 (word out i)) → Bytes (length out) (run rule c x out).run
unfolding run start
run-bytes rule c x out h =
    iter-keeps (λ j (t : Framed). Bytes (length out) t.run) (subframe_turn rule c x) (count_of c) (λ j l t b. step-bytes rule c x j (length out) t b) (start c out)
    (record { pulses = record { long = refl; bytes = h }; seeds = start-seeds c })

-- ---- what is handed out
pub record Handed (n : ℕ) (seed : ℤ) (pulses : List ℤ) : Type 0 where
  pub row : Pulses n pulses
  pub seed-fits : SFits w8 seed

frame-bytes : (rule : Rule) (c : Call) (x out : List ℤ) → ((i : ℕ) → SFits w8 (word out i)) → Handed (length out) (frame rule c x out).seed (frame rule c x out).pulses
unfolding frame ended_by flushed_run
frame-bytes rule c x out h =
    let b = run-bytes rule c x out h in
    record { row = flushed-pulses _ _ _ _ _ _ (length out) _ b.pulses; seed-fits = b.seeds _ }

-- number 0: pulses and seed
pub accepted-bytes : (rule : Rule) (c : Call) (x out : List ℤ) → ((i : ℕ) → SFits w8 (word out i)) → code_of (answered c x out) ≡ 0
    → Handed (length out) (outcome rule c x out).seed (outcome rule c x out).pulses
accepted-bytes rule c x out h e =
    rw (outcome-is rule c x out, accepted-by rule c x out (answered c x out) e) (frame-bytes rule c x out h)
