-- The walk of rules 6 to 9, once, over any order and with any test to stop; then what each rule gives.
--
-- A walk runs against a chosen part of the same order (the courses that a plan puts into the term; or those that another walk counts).
-- `Against` says what is asked of the two: at every point the walk has taken d more courses than were chosen, and d is no negative number.
use mathlib.Core.Path.{◌≡◌, refl, sym, ap}
use mathlib.Core.Bool.{Bool, true, false, true≢false}
use mathlib.Core.List.{List, [], ◌∷◌}
use Prim.Native.Nat.{ℕ, suc, ◌+◌, ◌*◌, ◌≤◌, ◌<◌}
use native.Mathlib.Nat.{le_refl, mul-le-mul_left, mul-le-mul_right}
use native.Mathlib.Omega.{arith}
use native.Mathlib.Decide.{dec_lt}
use lib.Dec.{leb, ltb}
use borrow.Author.Tests.{leb-true, leb-false, ltb-true}
use Rattle.theory.specs.Sum.{pick}
use Rattle.theory.specs.Walk.{Reached, Table, walk}

-- the walk keeps P, and where it ends P gives Q
module _ {S : Type 0} (T : Table S) (w : ℕ → ℕ) (stop : ℕ → ℕ → ℕ → Bool) (P : List ℕ → S → ℕ → ℕ → Type 0) (Q : Reached → Type 0)
    (skip : (g : ℕ) (L : List ℕ) (s : S) (c n : ℕ) → stop c n (w g) ≡ false → T.blocked s g ≡ true → P (g ∷ L) s c n → P L s c n)
    (take : (g : ℕ) (L : List ℕ) (s : S) (c n : ℕ) → stop c n (w g) ≡ false → T.blocked s g ≡ false → P (g ∷ L) s c n → P L (T.charge s g) (c + w g) (suc n))
    (end : (s : S) (c n : ℕ) → P [] s c n → Q (record { credits = c; count = n }))
    (halt : (g : ℕ) (L : List ℕ) (s : S) (c n : ℕ) → stop c n (w g) ≡ true → P (g ∷ L) s c n → Q (record { credits = c; count = n })) where
  pub walk_ind : (L : List ℕ) (s : S) (c n : ℕ) → P L s c n → Q (walk T w stop L s c n)
  unfolding walk
  walk_ind [] s c n p = end s c n p
  walk_ind (g ∷ L) s c n p = go (λ s' c' n' q. walk_ind L s' c' n' q) (stop c n (w g)) (T.blocked s g) refl refl
    where
      go : ((s' : S) (c' n' : ℕ) → P L s' c' n' → Q (walk T w stop L s' c' n')) → (x y : Bool) → stop c n (w g) ≡ x → T.blocked s g ≡ y
          → Q (elim x [
            | true ↦ record { credits = c; count = n }
            | false ↦ elim y [ true ↦ walk T w stop L s c n | false ↦ walk T w stop L (T.charge s g) (c + w g) (suc n) ]
          ])
      go ih true y e f = halt g L s c n e p
      go ih false true e f = ih s c n (skip g L s c n e f p)
      go ih false false e f = ih (T.charge s g) (c + w g) (suc n) (take g L s c n e f p)

-- ---- a part of a list, marked by Booleans; past the marks nothing is marked

abbrev pub hd : List Bool → Bool
hd [] = false
hd (a ∷ ms) = a

abbrev pub tl : List Bool → List Bool
tl [] = []
tl (a ∷ ms) = ms

abbrev pub dot : (ℕ → ℕ) → List ℕ → List Bool → ℕ
dot f [] ms = 0
dot f (g ∷ L) ms = pick (hd ms) (f g) + dot f L (tl ms)

abbrev pub one : ℕ → ℕ
one g = 1

-- `Keeps L ms s d`: the walk, d courses ahead, stays ahead on L with the spares s of what is marked there
pub record Against {S : Type 0} (T : Table S) : Type 1 where
  pub Keeps : List ℕ → List Bool → S → ℕ → Type 0
  pub take : (g : ℕ) (L : List ℕ) (ms : List Bool) (s : S) (d : ℕ) → T.blocked s g ≡ false → Keeps (g ∷ L) ms s d
      → (e : ℕ) × (d + 1 ≡ pick (hd ms) 1 + e) × Keeps L (tl ms) (T.charge s g) e
  pub skip : (g : ℕ) (L : List ℕ) (ms : List Bool) (s : S) (d : ℕ) → T.blocked s g ≡ true → Keeps (g ∷ L) ms s d
      → (e : ℕ) × (d + 0 ≡ pick (hd ms) 1 + e) × Keeps L (tl ms) s e

-- a walk that does not stop counts no fewer than are marked, in whichever order the courses stand
pub dominates : {S : Type 0} (T : Table S) (A : Against T) (w : ℕ → ℕ) (L : List ℕ) (ms : List Bool) (s : S) → A.Keeps L ms s 0
    → dot one L ms ≤ (walk T w (λ c n x. false) L s 0 0).count
dominates {S} T A w L ms s h =
    walk_ind T w (λ c n x. false) Ahead (λ r. dot one L ms ≤ r.count)
    (λ g L s c n e f p. let r = A.skip g L p.0 s p.1 f p.2 in (tl p.0, r.0, r.2, omega (arith, p.3, r.1)))
    (λ g L s c n e f p. let r = A.take g L p.0 s p.1 f p.2 in (tl p.0, r.0, r.2, omega (arith, p.3, r.1)))
    (λ s c n p. omega (arith, p.3))
    (λ g L s c n e p. absurd (true≢false (sym e)))
    L s 0 0 (ms, 0, h, omega arith)
  where
    Ahead : List ℕ → S → ℕ → ℕ → Type 0
    Ahead R s c n = (rs : List Bool) × (d : ℕ) × A.Keeps R rs s d × (n + dot one R rs ≡ dot one L ms + d)

-- ---- orders by weight: each course's weight is at most (at least) the one before, U at the front

abbrev pub Down : (w : ℕ → ℕ) → ℕ → List ℕ → Type 0
Down w U [] = Unit {0}
Down w U (g ∷ L) = (w g ≤ U) × Down w (w g) L

abbrev pub Up : (w : ℕ → ℕ) → ℕ → List ℕ → Type 0
Up w U [] = Unit {0}
Up w U (g ∷ L) = (U ≤ w g) × Up w (w g) L

-- a step's effect on the credits: a, the course is marked; y, it is taken; v its weight, U the one before; d ahead before, e after
down_step : (a y : Bool) (C c x d e U v : ℕ) → v ≤ U → d + pick y 1 ≡ pick a 1 + e → C + d * U ≤ c + (pick a v + x) → C + e * v ≤ c + pick y v + x
down_step true true C c x d e U v l q h = omega (arith, mul-le-mul_left d l, ap (λ z. z * v) q)
down_step true false C c x d e U v l q h = omega (arith, mul-le-mul_left d l, ap (λ z. z * v) q)
down_step false true C c x d e U v l q h = omega (arith, mul-le-mul_left d l, ap (λ z. z * v) q)
down_step false false C c x d e U v l q h = omega (arith, mul-le-mul_left d l, ap (λ z. z * v) q)

up_step : (a y : Bool) (C c x d e U v : ℕ) → U ≤ v → d + pick y 1 ≡ pick a 1 + e → c + (pick a v + x) ≤ C + d * U → c + pick y v + x ≤ C + e * v
up_step true true C c x d e U v l q h = omega (arith, mul-le-mul_left d l, ap (λ z. z * v) q)
up_step true false C c x d e U v l q h = omega (arith, mul-le-mul_left d l, ap (λ z. z * v) q)
up_step false true C c x d e U v l q h = omega (arith, mul-le-mul_left d l, ap (λ z. z * v) q)
up_step false false C c x d e U v l q h = omega (arith, mul-le-mul_left d l, ap (λ z. z * v) q)

down_head : (a : Bool) (v U x y : ℕ) → v ≤ U → x ≤ y * v → pick a v + x ≤ (pick a 1 + y) * U
down_head true v U x y l h = omega (arith, mul-le-mul_left y l)
down_head false v U x y l h = omega (arith, mul-le-mul_left y l)

up_head : (a : Bool) (v U x y : ℕ) → U ≤ v → y * v ≤ x → (pick a 1 + y) * U ≤ pick a v + x
up_head true v U x y l h = omega (arith, mul-le-mul_left y l)
up_head false v U x y l h = omega (arith, mul-le-mul_left y l)

pub down_bound : (w : ℕ → ℕ) (L : List ℕ) (ms : List Bool) (U : ℕ) → Down w U L → dot w L ms ≤ dot one L ms * U
down_bound w [] ms U h = omega arith
down_bound w (g ∷ L) ms U h = down_head (hd ms) (w g) U (dot w L (tl ms)) (dot one L (tl ms)) h.0 (down_bound w L (tl ms) (w g) h.1)

pub up_bound : (w : ℕ → ℕ) (L : List ℕ) (ms : List Bool) (U : ℕ) → Up w U L → dot one L ms * U ≤ dot w L ms
up_bound w [] ms U h = omega arith
up_bound w (g ∷ L) ms U h = up_head (hd ms) (w g) U (dot w L (tl ms)) (dot one L (tl ms)) h.0 (up_bound w L (tl ms) (w g) h.1)

-- ---- the walk against what is marked, N courses of C credits in all, fixed courses included

module _ {S : Type 0} (T : Table S) (A : Against T) (w : ℕ → ℕ) (N C : ℕ) where
  pub record Falling (L : List ℕ) (s : S) (c n : ℕ) : Type 0 where
    pub ms : List Bool
    pub d : ℕ
    pub U : ℕ
    pub keeps : A.Keeps L ms s d
    pub counts : n + dot one L ms ≡ N + d
    pub order : Down w U L
    pub loads : C + d * U ≤ c + dot w L ms

  fall_take : (g : ℕ) (L : List ℕ) (s : S) (c n : ℕ) → T.blocked s g ≡ false → Falling (g ∷ L) s c n → Falling L (T.charge s g) (c + w g) (suc n)
  fall_take g L s c n f h =
      let r = A.take g L h.ms s h.d f h.keeps in
      record {
        ms = tl h.ms;
        d = r.0;
        U = w g;
        keeps = r.2;
        counts = omega (arith, h.counts, r.1);
        order = h.order.1;
        loads = down_step (hd h.ms) true C c (dot w L (tl h.ms)) h.d r.0 h.U (w g) h.order.0 r.1 h.loads;
      }

  fall_skip : (g : ℕ) (L : List ℕ) (s : S) (c n : ℕ) → T.blocked s g ≡ true → Falling (g ∷ L) s c n → Falling L s c n
  fall_skip g L s c n f h =
      let r = A.skip g L h.ms s h.d f h.keeps in
      record {
        ms = tl h.ms;
        d = r.0;
        U = w g;
        keeps = r.2;
        counts = omega (arith, h.counts, r.1);
        order = h.order.1;
        loads = omega (arith, down_step (hd h.ms) false C c (dot w L (tl h.ms)) h.d r.0 h.U (w g) h.order.0 r.1 h.loads);
      }

  -- a walk that counts no fewer than N has no fewer credits than C
  fall_enough : (L : List ℕ) (s : S) (c n : ℕ) → Falling L s c n → N ≤ n → C ≤ c
  fall_enough L s c n h l =
      let k : dot one L h.ms ≤ h.d = omega (arith, h.counts) in
      omega (arith, h.loads, down_bound w L h.ms h.U h.order, mul-le-mul_right h.U k)

  pub record Rising (L : List ℕ) (s : S) (c n : ℕ) : Type 0 where
    pub ms : List Bool
    pub d : ℕ
    pub U : ℕ
    pub keeps : A.Keeps L ms s d
    pub counts : n + dot one L ms ≡ N + d
    pub order : Up w U L
    pub loads : c + dot w L ms ≤ C + d * U

  rise_take : (g : ℕ) (L : List ℕ) (s : S) (c n : ℕ) → T.blocked s g ≡ false → Rising (g ∷ L) s c n → Rising L (T.charge s g) (c + w g) (suc n)
  rise_take g L s c n f h =
      let r = A.take g L h.ms s h.d f h.keeps in
      record {
        ms = tl h.ms;
        d = r.0;
        U = w g;
        keeps = r.2;
        counts = omega (arith, h.counts, r.1);
        order = h.order.1;
        loads = up_step (hd h.ms) true C c (dot w L (tl h.ms)) h.d r.0 h.U (w g) h.order.0 r.1 h.loads;
      }

  rise_skip : (g : ℕ) (L : List ℕ) (s : S) (c n : ℕ) → T.blocked s g ≡ true → Rising (g ∷ L) s c n → Rising L s c n
  rise_skip g L s c n f h =
      let r = A.skip g L h.ms s h.d f h.keeps in
      record {
        ms = tl h.ms;
        d = r.0;
        U = w g;
        keeps = r.2;
        counts = omega (arith, h.counts, r.1);
        order = h.order.1;
        loads = omega (arith, up_step (hd h.ms) false C c (dot w L (tl h.ms)) h.d r.0 h.U (w g) h.order.0 r.1 h.loads);
      }

  -- a walk that counts no more than N has no more credits than C; one that counts fewer has room for the next course
  rise_enough : (L : List ℕ) (s : S) (c n : ℕ) → Rising L s c n → n ≤ N → c ≤ C
  rise_enough L s c n h l =
      let k : h.d ≤ dot one L h.ms = omega (arith, h.counts) in
      omega (arith, h.loads, up_bound w L h.ms h.U h.order, mul-le-mul_right h.U k)

  rise_more : (g : ℕ) (L : List ℕ) (s : S) (c n : ℕ) → Rising (g ∷ L) s c n → n < N → c + w g ≤ C
  rise_more g L s c n h l =
      let k : h.d + 1 ≤ dot one (g ∷ L) h.ms = omega (arith, h.counts) in
      omega (arith, h.loads, up_bound w (g ∷ L) h.ms (w g) (le_refl (w g), h.order.1), mul-le-mul_right (w g) k, mul-le-mul_left h.d h.order.0)

  -- ---- the four rules

  -- rule 9: at most `top` courses. The walk has no fewer credits
  pub rule_9 : (top : ℕ) (L : List ℕ) (s : S) (c n : ℕ) → N ≤ top → Falling L s c n → C ≤ (walk T w (λ c n x. leb top n) L s c n).credits
  rule_9 top L s c n l h =
      walk_ind T w (λ c n x. leb top n) Falling (λ r. C ≤ r.credits)
      (λ g L s c n e f p. fall_skip g L s c n f p)
      (λ g L s c n e f p. fall_take g L s c n f p)
      (λ s c n p. fall_enough [] s c n p (omega (arith, p.counts)))
      (λ g L s c n e p. fall_enough (g ∷ L) s c n p (omega (arith, leb-true top n e)))
      L s c n h

  -- rule 6: at least `low` credits. The walk reaches them, and counts no more
  pub rule_6 : (low : ℕ) (L : List ℕ) (s : S) (c n : ℕ) → low ≤ C → n ≤ N → Falling L s c n
      → let r = walk T w (λ c n x. leb low c) L s c n in (r.count ≤ N) × (low ≤ r.credits)
  rule_6 low L s c n l b h =
      walk_ind T w (λ c n x. leb low c) (λ L s c n. Falling L s c n × (n ≤ N)) (λ r. (r.count ≤ N) × (low ≤ r.credits))
      (λ g L s c n e f p. (fall_skip g L s c n f p.0, p.1))
      (λ g L s c n e f p. (fall_take g L s c n f p.0, more g L s c n (leb-false low c e) p.0))
      (λ s c n p. (p.1, omega (arith, fall_enough [] s c n p.0 (omega (arith, p.0.counts)))))
      (λ g L s c n e p. (p.1, leb-true low c e))
      L s c n (h, b)
    where
      more : (g : ℕ) (L : List ℕ) (s : S) (c n : ℕ) → c < low → Falling (g ∷ L) s c n → suc n ≤ N
      more g L s c n k p = go (dec_lt n N)
        where
          go : Dec (n < N) → suc n ≤ N
          go (yes q) = q
          go (no q) = omega (arith, fall_enough (g ∷ L) s c n p (omega arith))

  -- rule 8: at least `low` courses. The walk reaches them, and has no more credits
  pub rule_8 : (low : ℕ) (L : List ℕ) (s : S) (c n : ℕ) → low ≤ N → n ≤ N → Rising L s c n
      → let r = walk T w (λ c n x. leb low n) L s c n in (r.credits ≤ C) × (low ≤ r.count)
  rule_8 low L s c n l b h =
      walk_ind T w (λ c n x. leb low n) (λ L s c n. Rising L s c n × (n ≤ N)) (λ r. (r.credits ≤ C) × (low ≤ r.count))
      (λ g L s c n e f p. (rise_skip g L s c n f p.0, p.1))
      (λ g L s c n e f p. (rise_take g L s c n f p.0, omega (arith, leb-false low n e)))
      (λ s c n p. (rise_enough [] s c n p.0 p.1, omega (arith, p.0.counts)))
      (λ g L s c n e p. (rise_enough (g ∷ L) s c n p.0 p.1, leb-true low n e))
      L s c n (h, b)

  -- rule 7: at most `high` credits. The walk counts no fewer
  pub rule_7 : (high : ℕ) (L : List ℕ) (s : S) (c n : ℕ) → C ≤ high → Rising L s c n → N ≤ (walk T w (λ c n x. ltb high (c + x)) L s c n).count
  rule_7 high L s c n l h =
      walk_ind T w (λ c n x. ltb high (c + x)) Rising (λ r. N ≤ r.count)
      (λ g L s c n e f p. rise_skip g L s c n f p)
      (λ g L s c n e f p. rise_take g L s c n f p)
      (λ s c n p. omega (arith, p.counts))
      (λ g L s c n e p. last g L s c n (ltb-true high (c + w g) e) p)
      L s c n h
    where
      last : (g : ℕ) (L : List ℕ) (s : S) (c n : ℕ) → high < c + w g → Rising (g ∷ L) s c n → N ≤ n
      last g L s c n k p = go (dec_lt n N)
        where
          go : Dec (n < N) → N ≤ n
          go (yes q) = omega (arith, rise_more g L s c n p q)
          go (no q) = omega arith
