-- What the paths cost, as numbers, and how one sample changes it. Costs are counted from the least that a sample can have, so that each sample adds from
-- 0 to `range`. A path is alive while it agrees with what was handed out; a dead one was fined, by F. At each sample of a run some path is dead, and a dead
-- path is the one that is replaced. So the living stay near the cheapest and the dead far from it, for any F of at least `least_penalty`.
-- Assumes nothing.
use Prim.Native.Nat.{ℕ, suc, ◌+◌, ◌*◌, ◌<◌, ◌≤◌, min}
use native.Mathlib.Omega.{arith}
use native.Mathlib.Nat.{suc-mul, add-suc}
use mathlib.Core.Path.{◌≡◌, refl, sym, ap, ◌∙◌, subst}
use mathlib.Core.Logic.{◌≢◌, ◌⊎◌, inl, inr}
use mathlib.Core.Bool.{Bool, true, false, ◌&&◌}
use lib.Dec.{ltb, eqb}
use borrow.Author.Tests.{ltb-true, ltb-false, eqb-true, eqb-false, lt-ltb}
use Rattle.fixed.specs.Iter.{either}
use Rattle.fixed.proofs.Iters.{cases, not-both}
use Rattle.belongs.specs.Costs.{range, least_penalty, extra}
use Rattle.belongs.proofs.Four.{one_of}

-- ---- what holds between two samples: t are done, the present run has lasted ρ, φ fines may be from before the flush in the middle, w costs least
pub record Costing (F n t ρ φ : ℕ) (u : ℕ → ℕ) (alive : ℕ → Bool) (w : ℕ) : Type 0 where
  pub in-n : w < n
  pub lives : alive w ≡ true
  pub least : (k : ℕ) → k < n → u w ≤ u k
  -- of three that live one is near the least, of two one is not far, and none is very far
  pub three : (i j k : ℕ) → i < n → j < n → k < n → i ≢ j → j ≢ k → i ≢ k → alive i ≡ true → alive j ≡ true → alive k ≡ true
      → min (min (u i) (u j)) (u k) ≤ u w + range
  pub two : (j k : ℕ) → j < n → k < n → j ≢ k → alive j ≡ true → alive k ≡ true → min (u j) (u k) ≤ u w + (2 + ρ) * range
  pub one : (k : ℕ) → k < n → alive k ≡ true → u k ≤ u w + (12 + ρ) * range
  -- the dead are dear
  pub dear : (k : ℕ) → k < n → alive k ≡ false → u w + F ≤ u k + ρ * range
  -- and nothing is too large
  pub small : (k : ℕ) → k < n → alive k ≡ true → u k ≤ t * range
  pub large : (k : ℕ) → k < n → u k ≤ t * range + (φ + ρ) * F

-- ---- one sample
-- the total of a candidate: the cost so far, its own, and the fine
abbrev pub total : ℕ → (ℕ → ℕ) → (ℕ → ℕ) → (ℕ → Bool) → ℕ → ℕ
total F u a pen k = u k + a k + extra F (pen k)

-- what is chosen: a and b are the costs of the two candidates, pen says who is fined, v wins, `to` is replaced by the second candidate of `by` where sw
pub record Chose (F n : ℕ) (u a b : ℕ → ℕ) (pen : ℕ → Bool) (v to by : ℕ) (sw : Bool) : Type 0 where
  pub order : (k : ℕ) → k < n → a k ≤ b k
  pub most : (k : ℕ) → k < n → b k ≤ range
  pub v-in : v < n
  pub v-free : pen v ≡ false
  pub v-least : (k : ℕ) → k < n → u v + a v ≤ u k + a k
  pub to_in : to < n
  pub to-most : (k : ℕ) → k < n → total F u a pen k ≤ total F u a pen to
  pub by_in : by < n
  pub by-least : (k : ℕ) → k < n → total F u b pen by ≤ total F u b pen k
  pub sw-is : sw ≡ ltb (total F u b pen by) (total F u a pen to)

-- who lives once the fines are out, and after the replacement
abbrev pub still : (ℕ → Bool) → (ℕ → Bool) → ℕ → Bool
still alive pen k = either (pen k) false (alive k)

abbrev pub next : Bool → ℕ → (ℕ → Bool) → ℕ → Bool
next sw to a k = either (sw && eqb k to) true (a k)

-- the costs after it
abbrev pub costs : ℕ → (ℕ → ℕ) → (ℕ → ℕ) → (ℕ → ℕ) → (ℕ → Bool) → Bool → ℕ → ℕ → ℕ → ℕ
costs F u a b pen sw to by k = either (sw && eqb k to) (total F u b pen by) (total F u a pen k)

-- ---- by cases
extra-free : (F : ℕ) {b : Bool} → b ≡ false → extra F b ≡ 0
extra-free F e = ap (extra F) e

extra-fined : (F : ℕ) {b : Bool} → b ≡ true → extra F b ≡ F
extra-fined F e = ap (extra F) e

pub extra-most : (F : ℕ) (b : Bool) → extra F b ≤ F
extra-most F true = omega arith
extra-most F false = omega arith

-- still alive: was alive, and is not fined
pub still-true : (alive pen : ℕ → Bool) (k : ℕ) → still alive pen k ≡ true → (alive k ≡ true) × (pen k ≡ false)
still-true alive pen k e = go (pen k) refl e
  where
    go : (b : Bool) → pen k ≡ b → either b false (alive k) ≡ true → (alive k ≡ true) × (b ≡ false)
    go true p q = not-both false q refl
    go false p q = (q, refl)

still_false : (alive pen : ℕ → Bool) (k : ℕ) → still alive pen k ≡ false → (pen k ≡ true) ⊎ (alive k ≡ false)
still_false alive pen k e = cases (pen k) (λ p. inl p) (λ p. inr (ap (λ (z : Bool). either z false (alive k)) (sym p) ∙ e))

-- one fine more
fine_more : (F φ ρ : ℕ) → (φ + suc ρ) * F ≡ (φ + ρ) * F + F
fine_more F φ ρ = ap (λ (m : ℕ). m * F) (add-suc φ ρ) ∙ suc-mul (φ + ρ) F

module _ {F n t ρ φ : ℕ} {u : ℕ → ℕ} {alive : ℕ → Bool} {w : ℕ} (enough : least_penalty ≤ F) (g : Costing F n t ρ φ u alive w)
    {a b : ℕ → ℕ} {pen : ℕ → Bool} {v to by : ℕ} {sw : Bool} (c : Chose F n u a b pen v to by sw) (ρ9 : ρ ≤ 9) (n4 : n ≤ 4) where
  -- ---- who wins, and who is replaced
  -- the winner's first total is near the least cost before
  v-near : u v + a v ≤ u w + range
  v-near = omega (arith, c.v-least w g.in-n, c.order w g.in-n, c.most w g.in-n)

  -- the winner lives
  pub v-lives : alive v ≡ true
  v-lives = cases (alive v) (λ e. e) (λ e. absurd (omega (arith, g.dear v c.v-in e, v-near)))

  pub v-still : still alive pen v ≡ true
  v-still = ap (λ (z : Bool). either z false (alive v)) c.v-free ∙ v-lives

  -- the totals of a path that is dead, once the fines are out, are dear
  dead-first : (k : ℕ) → k < n → still alive pen k ≡ false → u w + F ≤ total F u a pen k + ρ * range
  dead-first k h e = go (still_false alive pen k e)
    where
      go : (pen k ≡ true) ⊎ (alive k ≡ false) → u w + F ≤ total F u a pen k + ρ * range
      go (inl p) = omega (arith, extra-fined F p, g.least k h)
      go (inr q) = omega (arith, g.dear k h q)

  -- the cheapest second total is cheap
  by-cheap : total F u b pen by ≤ u v + a v + range
  by-cheap = omega (arith, c.by-least v c.v-in, extra-free F c.v-free, c.most v c.v-in)

  -- so it is that of one that lives
  pub by-still : still alive pen by ≡ true
  by-still =
      cases (still alive pen by) (λ e. e)
      (λ e. absurd (omega (arith, dead-first by c.by_in e, c.order by c.by_in, by-cheap, v-near)))

  -- where one is dead there is a replacement
  pub dead-swaps : (k : ℕ) → k < n → still alive pen k ≡ false → sw ≡ true
  dead-swaps k h e =
      let z : total F u b pen by < total F u a pen to = omega (arith, dead-first k h e, c.to-most k h, by-cheap, v-near) in
      c.sw-is ∙ lt-ltb _ _ z

  -- and a dead one is replaced: a living one's first total is at most 13 + ρ ranges above the least, a dead one's at least F but for ρ ranges. Here the
  -- penalty must be above 31 ranges
  pub dead_goes : (k : ℕ) → k < n → still alive pen k ≡ false → still alive pen to ≡ false
  dead_goes k h e =
      cases (still alive pen to)
      (λ q.
      let z = still-true alive pen to q in
      absurd (omega (arith, g.one to c.to_in z.0, extra-free F z.1, dead-first k h e, c.to-most k h, c.order to c.to_in, c.most to c.to_in)))
      (λ q. q)

  -- the winner is not replaced
  pub v-stays : sw ≡ true → to ≢ v
  v-stays e =
      λ z.
      let q : total F u b pen by < total F u a pen to = ltb-true _ _ (sym c.sw-is ∙ e) in
      let r : total F u a pen to ≡ u v + a v = ap (total F u a pen) z ∙ (let y = extra-free F c.v-free in omega arith) in
      omega (arith, c.v-least by c.by_in, c.order by c.by_in)

  -- ---- after it
  new : ℕ → ℕ
  new = costs F u a b pen sw to by

  lives : ℕ → Bool
  lives = next sw to (still alive pen)

  -- a path after the sample: replaced, or as it was
  after : (Q : ℕ → Bool → Type 0) (k : ℕ) → (sw ≡ true → k ≡ to → Q (total F u b pen by) true)
      → ((sw ≡ true → k ≢ to) → Q (total F u a pen k) (still alive pen k)) → Q (new k) (lives k)
  unfolding new lives
  after Q k f h =
      cases sw
      (λ s.
      cases (eqb k to)
      (λ e. rw (s, e) (f s (eqb-true k to e)))
      (λ e. rw (s, e) (h (λ z. eqb-false k to e))))
      (λ s. rw s (h (λ z. not-both sw z s)))

  v-new : new v ≡ u v + a v
  v-new = after (λ x y. x ≡ u v + a v) v (λ e z. absurd (v-stays e (sym z))) (λ z. omega (arith, extra-free F c.v-free))

  v-new-lives : lives v ≡ true
  v-new-lives = after (λ x y. y ≡ true) v (λ e z. refl) (λ z. v-still)

  new-least : (k : ℕ) → k < n → new v ≤ new k
  new-least k h =
      rw v-new (after (λ x y. u v + a v ≤ x) k (λ e z. omega (arith, c.v-least by c.by_in, c.order by c.by_in)) (λ z. omega (arith, c.v-least k h)))

  -- the replaced one is near the least
  by-new : total F u b pen by ≤ new v + range
  by-new = rw v-new by-cheap

  -- one that lives on, not replaced, rose by a sample's cost
  still-new : (k : ℕ) → k < n → still alive pen k ≡ true → (alive k ≡ true) × ((total F u a pen k ≡ u k + a k) × (a k ≤ range))
  still-new k h e =
      let z = still-true alive pen k e in
      let y = extra-free F z.1 in
      (z.0, (omega arith, omega (arith, c.order k h, c.most k h)))

  -- and the least didn't fall
  w-new : u w ≤ new v
  w-new = rw v-new (omega (arith, g.least v c.v-in))

  -- what lives now is small
  small-new : (k : ℕ) → k < n → lives k ≡ true → new k ≤ suc t * range
  small-new k h = after (λ x y. y ≡ true → x ≤ suc t * range) k (λ e z q. by-small) (λ z q. let s = still-new k h q in omega (arith, g.small k h s.0, s.1))
    where
      by-small : total F u b pen by ≤ suc t * range
      by-small =
          let s = still-true alive pen by by-still in
          omega (arith, g.small by c.by_in s.0, c.most by c.by_in, extra-free F s.1)

  -- of three one is near: one of them is the winner or the replaced one
  three-new : (i j k : ℕ) → i < n → j < n → k < n → i ≢ j → j ≢ k → i ≢ k → sw ≡ true → min (min (new i) (new j)) (new k) ≤ new v + range
  three-new i j k a1 a2 a3 p q r e = one_of i j k to v n n4 a1 a2 a3 c.to_in c.v-in p q r (v-stays e) found
    where
      to-new : new to ≤ new v + range
      to-new = after (λ x y. x ≤ new v + range) to (λ s z. by-new) (λ z. absurd (z e refl))

      near : (z : ℕ) → (z ≡ to) ⊎ (z ≡ v) → new z ≤ new v + range
      near z (inl s) = subst (λ (y : ℕ). new y ≤ new v + range) (sym s) to-new
      near z (inr s) = subst (λ (y : ℕ). new y ≤ new v + range) (sym s) (omega arith)

      found : (z : ℕ) → (z ≡ i) ⊎ ((z ≡ j) ⊎ (z ≡ k)) → (z ≡ to) ⊎ (z ≡ v) → min (min (new i) (new j)) (new k) ≤ new v + range
      found z (inl s) o = let y : new i ≤ new v + range = subst (λ (y : ℕ). new y ≤ new v + range) s (near z o) in omega arith
      found z (inr (inl s)) o = let y : new j ≤ new v + range = subst (λ (y : ℕ). new y ≤ new v + range) s (near z o) in omega arith
      found z (inr (inr s)) o = let y : new k ≤ new v + range = subst (λ (y : ℕ). new y ≤ new v + range) s (near z o) in omega arith

  -- ---- a sample with a dead path: the run goes on, and each distance grows by a range
  module _ (d : ℕ) (d-in : d < n) (dead : still alive pen d ≡ false) where
    one-d : (k : ℕ) → k < n → lives k ≡ true → new k ≤ new v + (12 + suc ρ) * range
    one-d k h =
        after (λ x y. y ≡ true → x ≤ new v + (12 + suc ρ) * range) k
        (λ e z q. omega (arith, by-new))
        (λ z q. let s = still-new k h q in omega (arith, g.one k h s.0, s.1, w-new))

    two-d : (j k : ℕ) → j < n → k < n → j ≢ k → lives j ≡ true → lives k ≡ true → min (new j) (new k) ≤ new v + (2 + suc ρ) * range
    two-d j k hj hk p =
        after (λ x y. y ≡ true → lives k ≡ true → min x (new k) ≤ new v + (2 + suc ρ) * range) j
        (λ e z q l. omega (arith, by-new))
        (λ z q.
        after (λ x y. y ≡ true → min (total F u a pen j) x ≤ new v + (2 + suc ρ) * range) k
        (λ e y r. omega (arith, by-new))
        (λ y r.
        let s = still-new j hj q in
        let s' = still-new k hk r in
        omega (arith, g.two j k hj hk p s.0 s'.0, s.1, s'.1, w-new)))

    dear-d : (k : ℕ) → k < n → lives k ≡ false → new v + F ≤ new k + suc ρ * range
    dear-d k h =
        after (λ x y. y ≡ false → new v + F ≤ x + suc ρ * range) k
        (λ e z q. not-both true refl q)
        (λ z q. rw v-new (omega (arith, dead-first k h q, v-near)))

    large-d : (k : ℕ) → k < n → new k ≤ suc t * range + (φ + suc ρ) * F
    large-d k h =
        rw (fine_more F φ ρ)
        (after (λ x y. x ≤ suc t * range + ((φ + ρ) * F + F)) k
        (λ e z. omega (arith, v-near, by-cheap, g.small w g.in-n g.lives, c.by-least v c.v-in))
        (λ z. omega (arith, g.large k h, c.order k h, c.most k h, extra-most F (pen k))))

    pub costing-dead : Costing F n (suc t) (suc ρ) φ (costs F u a b pen sw to by) (next sw to (still alive pen)) v
    unfolding new lives
    costing-dead =
        record {
          in-n = c.v-in;
          lives = v-new-lives;
          least = new-least;
          three = λ i j k a1 a2 a3 p q r e1 e2 e3. three-new i j k a1 a2 a3 p q r (dead-swaps d d-in dead);
          two = two-d;
          one = one-d;
          dear = dear-d;
          small = small-new;
          large = large-d;
        }

  -- ---- a sample without one: the dearest goes, where it is dear at all, and the run is over
  module _ (free : (k : ℕ) → k < n → still alive pen k ≡ true) where
    -- where none is replaced all are near
    no-swap : sw ≡ false → (k : ℕ) → k < n → total F u a pen k ≤ new v + range
    no-swap e k h =
        let z : total F u a pen to ≤ total F u b pen by = ltb-false _ _ (sym c.sw-is ∙ e) in
        omega (arith, c.to-most k h, by-new)

    one-f : (k : ℕ) → k < n → lives k ≡ true → new k ≤ new v + (12 + 0) * range
    one-f k h =
        after (λ x y. y ≡ true → x ≤ new v + (12 + 0) * range) k
        (λ e z q. omega (arith, by-new))
        (λ z q. cases sw (λ e. far (z e) q) (λ e. omega (arith, no-swap e k h)))
      where
        far : k ≢ to → still alive pen k ≡ true → total F u a pen k ≤ new v + (12 + 0) * range
        far z q =
            let s = still-new k h q in
            let s' = still-new to c.to_in (free to c.to_in) in
            omega (arith, g.two k to h c.to_in z s.0 s'.0, s.1, s'.1, c.to-most k h, w-new)

    two-f : (j k : ℕ) → j < n → k < n → j ≢ k → lives j ≡ true → lives k ≡ true → min (new j) (new k) ≤ new v + (2 + 0) * range
    two-f j k hj hk p =
        after (λ x y. y ≡ true → lives k ≡ true → min x (new k) ≤ new v + (2 + 0) * range) j
        (λ e z q l. omega (arith, by-new))
        (λ z q.
        after (λ x y. y ≡ true → min (total F u a pen j) x ≤ new v + (2 + 0) * range) k
        (λ e y r. omega (arith, by-new))
        (λ y r. cases sw (λ e. far (z e) (y e) q r) (λ e. omega (arith, no-swap e j hj))))
      where
        far : j ≢ to → k ≢ to → still alive pen j ≡ true → still alive pen k ≡ true → min (total F u a pen j) (total F u a pen k) ≤ new v + (2 + 0) * range
        far z y q r =
            let s = still-new j hj q in
            let s' = still-new k hk r in
            let s'' = still-new to c.to_in (free to c.to_in) in
            least-of (u j) (u k) (u to) _ _ _ (u w) (new v) (g.three j k to hj hk c.to_in p y z s.0 s'.0 s''.0)
            (omega (arith, s.1)) (omega (arith, s'.1)) (omega (arith, s''.1)) (c.to-most j hj) (c.to-most k hk) w-new
          where
            least-of : (uj uk ut fj fk ft m m' : ℕ) → min (min uj uk) ut ≤ m + range → fj ≤ uj + range → fk ≤ uk + range → ft ≤ ut + range → fj ≤ ft → fk ≤ ft
                → m ≤ m' → min fj fk ≤ m' + (2 + 0) * range
            least-of uj uk ut fj fk ft m m' h1 h2 h3 h4 h5 h6 h7 = omega arith

    three-f : (i j k : ℕ) → i < n → j < n → k < n → i ≢ j → j ≢ k → i ≢ k → min (min (new i) (new j)) (new k) ≤ new v + range
    three-f i j k a1 a2 a3 p q r = cases sw (λ e. three-new i j k a1 a2 a3 p q r e) (λ e. let z = near e in omega arith)
      where
        near : sw ≡ false → new i ≤ new v + range
        near e = after (λ x y. x ≤ new v + range) i (λ s z. by-new) (λ z. no-swap e i a1)

    lives-f : (k : ℕ) → k < n → lives k ≡ true
    lives-f k h = after (λ x y. y ≡ true) k (λ e z. refl) (λ z. free k h)

    pub costing-free : Costing F n (suc t) 0 0 (costs F u a b pen sw to by) (next sw to (still alive pen)) v
    unfolding new lives
    costing-free =
        record {
          in-n = c.v-in;
          lives = v-new-lives;
          least = new-least;
          three = λ i j k a1 a2 a3 p q r e1 e2 e3. three-f i j k a1 a2 a3 p q r;
          two = two-f;
          one = one-f;
          dear = λ k h e. not-both (lives k) (lives-f k h) e;
          small = small-new;
          large = λ k h. omega (arith, small-new k h (lives-f k h));
        }
