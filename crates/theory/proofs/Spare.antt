-- The spare lemma, over any order of courses: the walk of a term j stays ahead of every plan.
--
-- The order is a list of courses. A plan t puts course g into the term t g; it has A = the g with t g = j. `other g k` says that k is
-- another term than j and course g lists it. The plan needs, of a list L, `need k L`: the courses of L that list k and are not put into k.
-- What the plan needs beyond the spares, over all terms, is `over s L`. One step of the walk changes it so:
--     g taken:   over s' L + [g in A] ≤ over s (g ∷ L) + 1
--     g skipped: over s L + [g in A] ≤ over s (g ∷ L)
-- So at every point the walk has taken at least `over` more courses than A has, if `over` is 0 at the start: prefix dominance.
use mathlib.Core.Path.{◌≡◌, refl, sym, ap, ◌∙◌}
use mathlib.Core.Bool.{Bool, true, false, not, ◌&&◌}
use mathlib.Core.List.{List, [], ◌∷◌}
use Prim.Native.Nat.{ℕ, zero, suc, ◌+◌, ◌-◌, ◌≤◌, ◌<◌}
use native.Mathlib.Omega.{arith}
use native.Mathlib.Nat.{le_of_eq}
use lib.ListN.{take}
use native.Mathlib.Decide.{ℕ_discrete}
use lib.Dec.{eqb}
use borrow.Author.Tests.{eqb-true, ne_eqb}
use Rattle.theory.specs.Walk.{Table, walk}
use Rattle.theory.proofs.WalkLaws.{Against, hd, tl, dot, one, dominates}
use Rattle.theory.specs.Sum.{pick, sum, weigh}
use Rattle.theory.proofs.SumLaws.{pick_le, pick_ne, sum_mono, sum_mono_add, sum_zero, sum_strict, sum_point_le}

abbrev pub need : (other : ℕ → ℕ → Bool) (t : ℕ → ℕ) → ℕ → List ℕ → ℕ
need other t k L = weigh (λ g. pick (other g k && not (eqb (t g) k)) 1) L

unfoldable pub over : (m : ℕ) (other : ℕ → ℕ → Bool) (t : ℕ → ℕ) → (ℕ → ℕ) → List ℕ → ℕ
over m other t s L = sum m (λ k. need other t k L - s k)

-- one term, at a course that is taken: o, it lists the term; e, the plan puts it there
take_point : (o e : Bool) (x y z : ℕ) → y ≡ z + pick o 1 → x - z ≤ (pick (o && not e) 1 + x - y) + pick (o && e) 1
take_point true true x y z h = omega arith
take_point true false x y z h = omega arith
take_point false e x y z h = omega arith

skip_point : (o e : Bool) (x y : ℕ) → x - y ≤ pick (o && not e) 1 + x - y
skip_point true true x y = omega arith
skip_point true false x y = omega arith
skip_point false e x y = omega arith

pick_and_le : (a b : Bool) → pick (a && b) 1 ≤ pick b 1
pick_and_le true b = omega arith
pick_and_le false b = omega arith

pick_and_false : (a b : Bool) → (a ≡ true → b ≡ true → ⊥) → pick (a && b) 1 ≡ 0
pick_and_false true true h = absurd (h refl refl)
pick_and_false true false h = refl
pick_and_false false b h = refl

module _ (m j : ℕ) (other : ℕ → ℕ → Bool) (apart : (g k : ℕ) → other g k ≡ true → k ≡ j → ⊥) (t : ℕ → ℕ) where
  -- a course is put into at most one term
  once : (g : ℕ) → sum m (λ k. pick (other g k && eqb (t g) k) 1) + pick (eqb (t g) j) 1 ≤ 1
  once g = go (ℕ_discrete (t g) j)
    where
      go : Dec (t g ≡ j) → sum m (λ k. pick (other g k && eqb (t g) k) 1) + pick (eqb (t g) j) 1 ≤ 1
      go (yes e) =
          omega (
            arith,
            pick_le (eqb (t g) j) 1,
            sum_zero m (λ k. pick (other g k && eqb (t g) k) 1)
                (λ k q. pick_and_false (other g k) (eqb (t g) k) (λ a b. apart g k a (sym (eqb-true (t g) k b) ∙ e))),
          )
      go (no d) =
          omega (
            arith,
            pick_ne (t g) j 1 d,
            sum_point_le m (t g) 1,
            sum_mono m (λ k. pick (other g k && eqb (t g) k) 1) (λ k. pick (eqb (t g) k) 1) (λ k q. pick_and_le (other g k) (eqb (t g) k)),
          )

  pub spare_take : (g : ℕ) (L : List ℕ) (s s' : ℕ → ℕ) → ((k : ℕ) → k < m → s k ≡ s' k + pick (other g k) 1)
      → over m other t s' L + pick (eqb (t g) j) 1 ≤ over m other t s (g ∷ L) + 1
  unfolding over
  spare_take g L s s' h =
      omega (
        arith,
        once g,
        sum_mono_add m (λ k. need other t k L - s' k) (λ k. need other t k (g ∷ L) - s k) (λ k. pick (other g k && eqb (t g) k) 1)
            (λ k q. take_point (other g k) (eqb (t g) k) (need other t k L) (s k) (s' k) (h k q)),
      )

  pub spare_skip : (g : ℕ) (L : List ℕ) (s : ℕ → ℕ) (k : ℕ) → k < m → other g k ≡ true → s k ≡ 0
      → over m other t s L + pick (eqb (t g) j) 1 ≤ over m other t s (g ∷ L)
  unfolding over
  spare_skip g L s k l o z = go (ℕ_discrete (t g) j)
    where
      mono : (i : ℕ) → i < m → need other t i L - s i ≤ need other t i (g ∷ L) - s i
      mono i q = skip_point (other g i) (eqb (t g) i) (need other t i L) (s i)

      go : Dec (t g ≡ j) → sum m (λ i. need other t i L - s i) + pick (eqb (t g) j) 1 ≤ sum m (λ i. need other t i (g ∷ L) - s i)
      go (yes e) =
          omega (
            arith,
            pick_le (eqb (t g) j) 1,
            sum_strict m k (λ i. need other t i L - s i) (λ i. need other t i (g ∷ L) - s i) l mono
                (rw (o, ne_eqb (t g) k (λ r. apart g k o (sym r ∙ e)), z) (omega arith)),
          )
      go (no d) = omega (arith, pick_ne (t g) j 1 d, sum_mono m (λ i. need other t i L - s i) (λ i. need other t i (g ∷ L) - s i) mono)

-- ---- as the walk wants it

-- what a table of spares has to do: `look s k` is the spare of k in the state s
pub record Spares {S : Type 0} (T : Table S) (m j : ℕ) (other : ℕ → ℕ → Bool) : Type 0 where
  pub look : S → ℕ → ℕ
  pub apart : (g k : ℕ) → other g k ≡ true → k ≡ j → ⊥
  pub blocked_by : (s : S) (g : ℕ) → T.blocked s g ≡ true → (k : ℕ) × (k < m) × (other g k ≡ true) × (look s k ≡ 0)
  pub charged : (s : S) (g : ℕ) → T.blocked s g ≡ false → (k : ℕ) → k < m → look s k ≡ look (T.charge s g) k + pick (other g k) 1

-- the courses of L that t puts into j
abbrev pub marks : (t : ℕ → ℕ) (j : ℕ) → List ℕ → List Bool
marks t j [] = []
marks t j (g ∷ L) = eqb (t g) j ∷ marks t j L

pub dot_marks : (f t : ℕ → ℕ) (j : ℕ) (L : List ℕ) → dot f L (marks t j L) ≡ weigh (λ g. pick (eqb (t g) j) (f g)) L
dot_marks f t j [] = refl
dot_marks f t j (g ∷ L) = ap (λ x. pick (eqb (t g) j) (f g) + x) (dot_marks f t j L)

module _ {S : Type 0} (T : Table S) (m j : ℕ) (other : ℕ → ℕ → Bool) (R : Spares T m j other) (t : ℕ → ℕ) where
  abbrev pub Within : List ℕ → List Bool → S → ℕ → Type 0
  Within L ms s d = (ms ≡ marks t j L) × (over m other t (R.look s) L ≤ d)

  within_take : (g : ℕ) (L : List ℕ) (ms : List Bool) (s : S) (d : ℕ) → T.blocked s g ≡ false → Within (g ∷ L) ms s d
      → (e : ℕ) × (d + 1 ≡ pick (hd ms) 1 + e) × Within L (tl ms) (T.charge s g) e
  within_take g L ms s d f h =
      let b : pick (hd ms) 1 ≤ 1 = pick_le (hd ms) 1 in
      let q : pick (hd ms) 1 ≡ pick (eqb (t g) j) 1 = ap (λ z. pick (hd z) 1) h.0 in
      let o = spare_take m j other R.apart t g L (R.look s) (R.look (T.charge s g)) (R.charged s g f) in
      (d + 1 - pick (hd ms) 1, omega arith, (ap tl h.0, omega arith))

  within_skip : (g : ℕ) (L : List ℕ) (ms : List Bool) (s : S) (d : ℕ) → T.blocked s g ≡ true → Within (g ∷ L) ms s d
      → (e : ℕ) × (d + 0 ≡ pick (hd ms) 1 + e) × Within L (tl ms) s e
  within_skip g L ms s d f h =
      let k = R.blocked_by s g f in
      let q : pick (hd ms) 1 ≡ pick (eqb (t g) j) 1 = ap (λ z. pick (hd z) 1) h.0 in
      let o = spare_skip m j other R.apart t g L (R.look s) k.0 k.1 k.2 k.3 in
      (d - pick (hd ms) 1, omega arith, (ap tl h.0, omega arith))

  unfoldable pub against_plan : Against T
  unfolding within_take within_skip
  against_plan = record { Keeps = Within; take = within_take; skip = within_skip }

  -- prefix dominance: of the first r courses of the order, the plan puts no more into j than the walk takes
  need_prefix : (k r : ℕ) (L : List ℕ) → need other t k (take r L) ≤ need other t k L
  need_prefix k zero L = omega arith
  need_prefix k (suc r) [] = omega arith
  need_prefix k (suc r) (g ∷ L) = omega (arith, need_prefix k r L)

  pub prefix_dominance : (w : ℕ → ℕ) (L : List ℕ) (s : S) → ((k : ℕ) → k < m → need other t k L ≤ R.look s k)
      → (r : ℕ) → weigh (λ g. pick (eqb (t g) j) 1) (take r L) ≤ (walk T w (λ c n x. false) (take r L) s 0 0).count
  unfolding over against_plan
  prefix_dominance w L s h r =
      omega (
        arith,
        dot_marks one t j (take r L),
        dominates T against_plan w (take r L) (marks t j (take r L)) s
            (refl, le_of_eq (sum_zero m (λ k. need other t k (take r L) - R.look s k) (λ k l. omega (arith, h k l, need_prefix k r L)))),
      )
