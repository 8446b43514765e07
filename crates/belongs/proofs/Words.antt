-- Words RandState and the pulses behind them: from the same words come the same pulses. Assumes nothing.
use Prim.Native.Nat.{ℕ, zero, suc, ◌+◌, ◌-◌, ◌*◌, ◌^◌, ◌<◌}
use native.Mathlib.Omega.{arith}
use mathlib.Core.Path.{◌≡◌, refl, sym, ap, ◌∙◌, subst}
use lib.IntN.{ℤ, pos, negsuc, ◌+ℤ◌, ◌*ℤ◌}
use lib.Signed.{◌≤ℤ◌}
use lib.Dec.{lit<}
use mir.Syntax.{w32}
use mir.Val.{SFits}
use Rattle.fixed.specs.Iter.{iter}
use Rattle.fixed.specs.Wrap.{wrap32}
use Rattle.fixed.proofs.Lin.{P, N, eq_of, add-lin, le-lin, sfits-of-lin}
use Rattle.fixed.proofs.Wraps.{near, turns, wrap-lin, wrap32-id, wrap32-fits}
use Rattle.seeds.specs.Generator.{rand}
use Rattle.choice.proofs.Near.{times-lin}

-- ---- one word
-- a pulse from -32 to 30
pub record Small (p : ℤ) : Type 0 where
  pub low : negsuc 31 ≤ℤ p
  pub high : p ≤ℤ pos 30

-- two pulses on one seed
same-seed : (r p q : ℤ) → Small p → Small q → wrap32 (r +ℤ p) ≡ wrap32 (r +ℤ q) → p ≡ q
unfolding wrap32
same-seed r p q a b e =
    let a1 = le-lin a.low in
    let a2 = le-lin a.high in
    let b1 = le-lin b.low in
    let b2 = le-lin b.high in
    let x = add-lin r p in
    let y = add-lin r q in
    let l = wrap-lin (2 ^ 31) (r +ℤ p) (lit< tt) in
    let m = wrap-lin (2 ^ 31) (r +ℤ q) (lit< tt) in
    let ep = ap P e in
    let en = ap N e in
    let t1 = turns (2 ^ 31) (r +ℤ p) in
    let t2 = turns (2 ^ 31) (r +ℤ q) in
    let k = near (2 ^ 32) (32 + P p - N p) (32 + P q - N q) (N t1 + P t2) (P t1 + N t2) (omega arith) (omega arith) (omega arith) in
    eq_of p q (omega arith)

-- the first word: the seed is one of four, which are far apart after one step
rand-4 : (j : ℕ) → j < 4 → rand (pos j) ≡ pos (907633515 + 196314165 * j)
unfolding rand
rand-4 j h =
    let m = times-lin 196314165 (pos j) in
    let a = add-lin (pos j *ℤ pos 196314165) (pos 907633515) in
    wrap32-id (sfits-of-lin w32 (pos j *ℤ pos 196314165 +ℤ pos 907633515) (omega arith) (omega arith))
    ∙ eq_of (pos j *ℤ pos 196314165 +ℤ pos 907633515) (pos (907633515 + 196314165 * j)) (omega arith)

first_word : (i j : ℕ) (p q : ℤ) → i < 4 → j < 4 → Small p → Small q → wrap32 (rand (pos i) +ℤ p) ≡ wrap32 (rand (pos j) +ℤ q) → p ≡ q
first_word i j p q hi hj a b e =
    let a1 = le-lin a.low in
    let a2 = le-lin a.high in
    let b1 = le-lin b.low in
    let b2 = le-lin b.high in
    let ri = pos (907633515 + 196314165 * i) in
    let rj = pos (907633515 + 196314165 * j) in
    let x = add-lin ri p in
    let y = add-lin rj q in
    let z : ri +ℤ p ≡ rj +ℤ q =
    sym (wrap32-id (sfits-of-lin w32 (ri +ℤ p) (omega arith) (omega arith)))
    ∙ ap (λ (r : ℤ). wrap32 (r +ℤ p)) (sym (rand-4 i hi)) ∙ e ∙ ap (λ (r : ℤ). wrap32 (r +ℤ q)) (rand-4 j hj)
    ∙ wrap32-id (sfits-of-lin w32 (rj +ℤ q) (omega arith) (omega arith)) in
    let zp = ap P z in
    let zn = ap N z in
    eq_of p q (omega arith)

-- ---- all words: RandState before sample g, from the seed s0 and the pulses
pub trail : ℤ → (ℕ → ℤ) → ℕ → ℤ
trail s0 own g = iter (λ h s. wrap32 (rand s +ℤ own h)) g s0

pub trail-0 : (s0 : ℤ) (own : ℕ → ℤ) → trail s0 own 0 ≡ s0
unfolding trail
trail-0 s0 own = refl

pub trail-next : (s0 : ℤ) (own : ℕ → ℤ) (g : ℕ) → trail s0 own (suc g) ≡ wrap32 (rand (trail s0 own g) +ℤ own g)
unfolding trail
trail-next s0 own g = refl

pub trail-fits : (s0 : ℤ) (own : ℕ → ℤ) (g : ℕ) → SFits w32 (trail s0 own (suc g))
trail-fits s0 own g = subst (SFits w32) (sym (trail-next s0 own g)) (wrap32-fits (rand (trail s0 own g) +ℤ own g))

-- it goes by the pulses before
pub trail-same : (s0 : ℤ) (own own' : ℕ → ℤ) (g : ℕ) → ((h : ℕ) → h < g → own h ≡ own' h) → trail s0 own g ≡ trail s0 own' g
trail-same s0 own own' zero f = trail-0 s0 own ∙ sym (trail-0 s0 own')
trail-same s0 own own' (suc g) f =
    trail-next s0 own g
    ∙ ap (λ (z : ℤ). wrap32 (rand z +ℤ own g)) (trail-same s0 own own' g (λ h k. f h (omega arith)))
    ∙ ap (λ (z : ℤ). wrap32 (rand (trail s0 own' g) +ℤ z)) (f g (omega arith))
    ∙ sym (trail-next s0 own' g)

-- two paths that agree in these words, from seeds of 0 to 3, have chosen the same pulses
pub same-own : (i j : ℕ) → i < 4 → j < 4 → (own own' : ℕ → ℤ) (e : ℕ) → Small (own e) → Small (own' e)
    → ((h : ℕ) → h < suc e → trail (pos i) own (suc h) ≡ trail (pos j) own' (suc h)) → own e ≡ own' e
same-own i j hi hj own own' zero a b f =
    first_word i j (own 0) (own' 0) hi hj a b (step (pos i) own ∙ f 0 (omega arith) ∙ sym (step (pos j) own'))
  where
    step : (s : ℤ) (own : ℕ → ℤ) → wrap32 (rand s +ℤ own 0) ≡ trail s own 1
    step s own = ap (λ (z : ℤ). wrap32 (rand z +ℤ own 0)) (sym (trail-0 s own)) ∙ sym (trail-next s own 0)
same-own i j hi hj own own' (suc e) a b f =
    same-seed (rand (trail (pos i) own (suc e))) (own (suc e)) (own' (suc e)) a b
    (sym (trail-next (pos i) own (suc e))
    ∙ f (suc e) (omega arith)
    ∙ trail-next (pos j) own' (suc e)
    ∙ ap (λ (z : ℤ). wrap32 (rand z +ℤ own' (suc e))) (sym (f e (omega arith))))
