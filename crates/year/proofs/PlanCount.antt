-- The plans of a year by trying all placings are exactly its plans, each once.
use Prim.Native.Nat.{ℕ, zero, suc, ◌≤◌, ◌<◌}
use mathlib.Core.Bool.{Bool, true, false, ◌&&◌, true≢false}
use mathlib.Core.List.{List, [], ◌∷◌, ◌++◌, map, tail-eq_of_cons-eq, head-eq_of_cons-eq}
use mathlib.Core.Logic.{◌⊎◌, inl, inr}
use mathlib.Core.Path.{◌≡◌, refl, ap, sym, subst, ◌∙◌}
use native.Mathlib.Omega.{arith}
use native.Mathlib.Decide.{ℕ_discrete}
use lib.Dec.{eqb, leb, ltb}
use lib.ListN.{length, get_or}
use borrow.Author.Tests.{leb-true, ltb-true, le-leb, lt-ltb}
use Rattle.theory.specs.Choice.{choose}
use Rattle.theory.specs.Sum.{pick}
use Rattle.theory.specs.Tests.{all}
use Rattle.theory.specs.Tab.{tab}
use Rattle.theory.specs.Order.{keep}
use Rattle.theory.proofs.SumLaws.{sum_cong}
use Rattle.theory.proofs.TabLaws.{get_or_tab, tab_get_or}
use Rattle.theory.proofs.TestLaws.{all_at, all_of, and_true, and_of}
use Rattle.year.specs.Year.{course_at, lists, low_credits, high_credits, low_count, high_count}
use Rattle.year.specs.Bound.{bound, Keeps}
use Rattle.year.specs.Plans.{Placing, amount, put_in, Plan, credits_in, count_in, stands, fits_in, is_plan, row_of, placing_of, behind, rows, plans_of, Among, EachPlanOnce}
use Rattle.year.specs.declared.Quantity.{Quantity}
use Rattle.year.specs.declared.Quantity.TheVariants.{Credits, Counts}
use Rattle.year.specs.declared.Side.{Side}
use Rattle.year.specs.declared.Side.TheVariants.{Low, High}
use Rattle.year.specs.declared.Year.{Year}

-- ---- the test is the plan

-- a term's load within its bounds, by the test and by its four facts
fits_of : (a b c n e f : ℕ) → leb a c && leb c b && leb e n && leb n f ≡ true → (a ≤ c) × (c ≤ b) × (e ≤ n) × (n ≤ f)
fits_of a b c n e f h =
    let p = and_true (leb a c && leb c b && leb e n) (leb n f) h in
    let q = and_true (leb a c && leb c b) (leb e n) p.0 in
    let r = and_true (leb a c) (leb c b) q.0 in
    (leb-true _ _ r.0, leb-true _ _ r.1, leb-true _ _ q.1, leb-true _ _ p.1)

pub plan_of_test : (y : Year) (p : Placing) → is_plan y p ≡ true → Plan y p
unfolding is_plan
plan_of_test y p e = record {
  within = λ i l. ltb-true _ _ (of_course_lem i l).0;
  listed = λ i l. (of_course_lem i l).1;
  bounds = each;
}
  where
    parts : (all y.courses (stands y p) ≡ true) × (all y.terms (fits_in y p) ≡ true)
    parts = and_true (all y.courses (stands y p)) (all y.terms (fits_in y p)) e

    of_course_lem : (i : ℕ) → i < y.courses → (ltb (p i) y.terms ≡ true) × (lists (course_at y i) (p i) ≡ true)
    of_course_lem i l = and_true (ltb (p i) y.terms) (lists (course_at y i) (p i)) (all_at y.courses (stands y p) parts.0 i l)

    of_term_lem : (k : ℕ) → k < y.terms → (low_credits y k ≤ credits_in y p k) × (credits_in y p k ≤ high_credits y k) × (low_count y k ≤ count_in y p k) × (count_in y p k ≤ high_count y k)
    of_term_lem k l = fits_of (low_credits y k) (high_credits y k) (credits_in y p k) (count_in y p k) (low_count y k) (high_count y k) (all_at y.terms (fits_in y p) parts.1 k l)

    each : (s : Side) (q : Quantity) (k : ℕ) → k < y.terms → Keeps s (bound s q y k) (put_in q y p k)
    each Low Credits k l = (of_term_lem k l).0
    each High Credits k l = (of_term_lem k l).1
    each Low Counts k l = (of_term_lem k l).2
    each High Counts k l = (of_term_lem k l).3

pub test_of_plan : (y : Year) (p : Placing) → Plan y p → is_plan y p ≡ true
unfolding is_plan
test_of_plan y p h =
    and_of (all y.courses (stands y p)) (all y.terms (fits_in y p))
    (all_of y.courses (stands y p) (λ i l. and_of (ltb (p i) y.terms) (lists (course_at y i) (p i)) (lt-ltb _ _ (h.within i l)) (h.listed i l)))
    (all_of y.terms (fits_in y p) (λ k l. simp (le-leb _ _ (h.bounds Low Credits k l), le-leb _ _ (h.bounds High Credits k l), le-leb _ _ (h.bounds Low Counts k l), le-leb _ _ (h.bounds High Counts k l))))

-- what a placing says of courses past the last is no matter
plan_cong : (y : Year) (p r : Placing) → ((i : ℕ) → i < y.courses → p i ≡ r i) → Plan y p → Plan y r
plan_cong y p r h a = record {
  within = λ i l. rw (sym (h i l)) (a.within i l);
  listed = λ i l. rw (sym (h i l)) (a.listed i l);
  bounds = λ s q k l. subst (Keeps s (bound s q y k)) (same q k) (a.bounds s q k l);
}
  where
    same : (q : Quantity) (k : ℕ) → put_in q y p k ≡ put_in q y r k
    same q k = sum_cong y.courses _ _ (λ i l. ap (λ j. pick (eqb j k) (amount q y.weight i)) (h i l))

-- ---- where a row stands

here : (r s : List ℕ) (rs : List (List ℕ)) → s ≡ r → Among (s ∷ rs) r
here r s rs e = (0, omega arith, e)

there : (r s : List ℕ) (rs : List (List ℕ)) → Among rs r → Among (s ∷ rs) r
there r s rs a = (suc a.0, omega (arith, a.1), a.2)

first_or_later : (r s : List ℕ) (rs : List (List ℕ)) → Among (s ∷ rs) r → (s ≡ r) ⊎ Among rs r
first_or_later r s rs a = go a.0 a.1 a.2
  where
    go : (k : ℕ) → k < length (s ∷ rs) → get_or (s ∷ rs) k [] ≡ r → (s ≡ r) ⊎ Among rs r
    go zero l e = inl e
    go (suc k) l e = inr (k, omega arith, e)

nowhere : (r : List ℕ) → Among [] r → ⊥
nowhere r a = absurd (omega (arith, a.1))

left : (r : List ℕ) (rs ss : List (List ℕ)) → Among rs r → Among (rs ++ ss) r
left r [] ss a = absurd (nowhere r a)
left r (x ∷ rs) ss a = elim (first_or_later r x rs a) [ inl e ↦ here r x (rs ++ ss) e | inr b ↦ there r x (rs ++ ss) (left r rs ss b) ]

right : (r : List ℕ) (rs ss : List (List ℕ)) → Among ss r → Among (rs ++ ss) r
right r [] ss a = a
right r (x ∷ rs) ss a = there r x (rs ++ ss) (right r rs ss a)

either : (r : List ℕ) (rs ss : List (List ℕ)) → Among (rs ++ ss) r → Among rs r ⊎ Among ss r
either r [] ss a = inr a
either r (x ∷ rs) ss a = go (first_or_later r x (rs ++ ss) a) (λ b. either r rs ss b)
  where
    go : (x ≡ r) ⊎ Among (rs ++ ss) r → (Among (rs ++ ss) r → Among rs r ⊎ Among ss r) → Among (x ∷ rs) r ⊎ Among ss r
    go (inl e) ih = inl (here r x rs e)
    go (inr b) ih = elim (ih b) [ inl c ↦ inl (there r x rs c) | inr c ↦ inr c ]

-- the rows with a term before each
mapped : (t : ℕ) (r : List ℕ) (rs : List (List ℕ)) → Among rs r → Among (map (λ s. t ∷ s) rs) (t ∷ r)
mapped t r [] a = absurd (nowhere r a)
mapped t r (x ∷ rs) a =
    elim (first_or_later r x rs a) [
      | inl e ↦ here (t ∷ r) (t ∷ x) (map (λ s. t ∷ s) rs) (ap (λ s. t ∷ s) e)
      | inr b ↦ there (t ∷ r) (t ∷ x) (map (λ s. t ∷ s) rs) (mapped t r rs b)
    ]

unmapped : (t : ℕ) (r : List ℕ) (rs : List (List ℕ)) → Among (map (λ s. t ∷ s) rs) r → (s : List ℕ) × Among rs s × (t ∷ s ≡ r)
unmapped t r [] a = absurd (nowhere r a)
unmapped t r (x ∷ rs) a = go (first_or_later r (t ∷ x) (map (λ s. t ∷ s) rs) a) (λ b. unmapped t r rs b)
  where
    go : (t ∷ x ≡ r) ⊎ Among (map (λ s. t ∷ s) rs) r
        → (Among (map (λ s. t ∷ s) rs) r → (s : List ℕ) × Among rs s × (t ∷ s ≡ r))
        → (s : List ℕ) × Among (x ∷ rs) s × (t ∷ s ≡ r)
    go (inl e) ih = (x, here x x rs refl, e)
    go (inr b) ih = let c = ih b in (c.0, there c.0 x rs c.1, c.2)

-- ---- all rows

behind_of : (t j : ℕ) (r : List ℕ) (rs : List (List ℕ)) → j < t → Among rs r → Among (behind t rs) (j ∷ r)
unfolding behind
behind_of zero j r rs l a = absurd (omega arith)
behind_of (suc t) j r rs l a = go (ℕ_discrete j t) (λ m. behind_of t j r rs m a)
  where
    go : Dec (j ≡ t) → (j < t → Among (behind t rs) (j ∷ r)) → Among (behind t rs ++ map (λ s. t ∷ s) rs) (j ∷ r)
    go (yes e) ih = rw e (right (t ∷ r) (behind t rs) (map (λ s. t ∷ s) rs) (mapped t r rs a))
    go (no d) ih = left (j ∷ r) (behind t rs) (map (λ s. t ∷ s) rs) (ih (omega arith))

behind_from : (t : ℕ) (r : List ℕ) (rs : List (List ℕ)) → Among (behind t rs) r → (j : ℕ) × (j < t) × ((s : List ℕ) × Among rs s × (j ∷ s ≡ r))
unfolding behind
behind_from zero r rs a = absurd (nowhere r a)
behind_from (suc t) r rs a = go (either r (behind t rs) (map (λ s. t ∷ s) rs) a) (λ b. behind_from t r rs b)
  where
    go : Among (behind t rs) r ⊎ Among (map (λ s. t ∷ s) rs) r
        → (Among (behind t rs) r → (j : ℕ) × (j < t) × ((s : List ℕ) × Among rs s × (j ∷ s ≡ r)))
        → (j : ℕ) × (j < suc t) × ((s : List ℕ) × Among rs s × (j ∷ s ≡ r))
    go (inl b) ih = let c = ih b in (c.0, omega (arith, c.1), c.2)
    go (inr b) ih = (t, omega arith, unmapped t r rs b)

row_among : (t n : ℕ) (p : Placing) → ((i : ℕ) → i < n → p i < t) → Among (rows t n) (tab n p)
unfolding rows tab
row_among t zero p h = here [] [] [] refl
row_among t (suc n) p h =
    behind_of t (p 0) (tab n (λ i. p (suc i))) (rows t n) (h 0 (omega arith)) (row_among t n (λ i. p (suc i)) (λ i l. h (suc i) (omega arith)))

row_length : (t n : ℕ) (r : List ℕ) → Among (rows t n) r → length r ≡ n
unfolding rows
row_length t zero r a = elim (first_or_later r [] [] a) [ inl e ↦ ap length (sym e) | inr b ↦ absurd (nowhere r b) ]
row_length t (suc n) r a =
    let b = behind_from t r (rows t n) a in
    sym (ap length b.2.2) ∙ ap suc (row_length t n b.2.0 b.2.1)

-- ---- each once

-- no row stands again behind itself
Apart : List (List ℕ) → Type 0
Apart [] = Unit {0}
Apart (r ∷ rs) = (Among rs r → ⊥) × Apart rs

apart_once : (rs : List (List ℕ)) → Apart rs → (i k : ℕ) → i < length rs → k < length rs → get_or rs i [] ≡ get_or rs k [] → i ≡ k
unfolding Apart
apart_once [] a i k l m e = absurd (omega arith)
apart_once (r ∷ rs) a zero zero l m e = refl
apart_once (r ∷ rs) a zero (suc k) l m e = absurd (a.0 (k, omega arith, sym e))
apart_once (r ∷ rs) a (suc i) zero l m e = absurd (a.0 (i, omega arith, e))
apart_once (r ∷ rs) a (suc i) (suc k) l m e = ap suc (apart_once rs a.1 i k (omega arith) (omega arith) e)

apart_append : (rs ss : List (List ℕ)) → Apart rs → Apart ss → ((r : List ℕ) → Among rs r → Among ss r → ⊥) → Apart (rs ++ ss)
unfolding Apart
apart_append [] ss a b d = b
apart_append (r ∷ rs) ss a b d = (
  λ m. elim (either r rs ss m) [ inl c ↦ a.0 c | inr c ↦ d r (here r r rs refl) c ],
  apart_append rs ss a.1 b (λ s m. d s (there s r rs m)),
)

apart_mapped : (t : ℕ) (rs : List (List ℕ)) → Apart rs → Apart (map (λ s. t ∷ s) rs)
unfolding Apart
apart_mapped t [] a = a
apart_mapped t (r ∷ rs) a = (
  λ m. let c = unmapped t (t ∷ r) rs m in a.0 (rw (tail-eq_of_cons-eq c.2) at c.1),
  apart_mapped t rs a.1,
)

apart_behind : (t : ℕ) (rs : List (List ℕ)) → Apart rs → Apart (behind t rs)
unfolding behind Apart
apart_behind zero rs a = tt
apart_behind (suc t) rs a =
    apart_append (behind t rs) (map (λ s. t ∷ s) rs) (apart_behind t rs a) (apart_mapped t rs a) differ
  where
    -- the terms before the rows are below t, and t
    differ : (r : List ℕ) → Among (behind t rs) r → Among (map (λ s. t ∷ s) rs) r → ⊥
    differ r m n =
        let b = behind_from t r rs m in
        let c = unmapped t r rs n in
        absurd (omega (arith, b.1, head-eq_of_cons-eq (b.2.2 ∙ sym c.2)))

apart_rows : (t n : ℕ) → Apart (rows t n)
unfolding rows Apart
apart_rows t zero = (nowhere [], tt)
apart_rows t (suc n) = apart_behind t (rows t n) (apart_rows t n)

-- ---- the rows that pass a test

module _ (test : List ℕ → Bool) where
  kept : (r : List ℕ) (rs : List (List ℕ)) → test r ≡ true → Among rs r → Among (keep test rs) r
  unfolding keep
  kept r [] e a = absurd (nowhere r a)
  kept r (x ∷ rs) e a = go (test x) refl (first_or_later r x rs a) (λ b. kept r rs e b)
    where
      go : (b : Bool) → test x ≡ b → (x ≡ r) ⊎ Among rs r → (Among rs r → Among (keep test rs) r) → Among (choose b (x ∷ keep test rs) (keep test rs)) r
      go true q (inl p) ih = here r x (keep test rs) p
      go true q (inr m) ih = there r x (keep test rs) (ih m)
      go false q (inl p) ih = absurd (true≢false (sym e ∙ ap test (sym p) ∙ q))
      go false q (inr m) ih = ih m

  kept_from : (r : List ℕ) (rs : List (List ℕ)) → Among (keep test rs) r → Among rs r × (test r ≡ true)
  unfolding keep
  kept_from r [] a = absurd (nowhere r a)
  kept_from r (x ∷ rs) a = go (test x) refl a (λ b. kept_from r rs b)
    where
      go : (b : Bool) → test x ≡ b → Among (choose b (x ∷ keep test rs) (keep test rs)) r → (Among (keep test rs) r → Among rs r × (test r ≡ true)) → Among (x ∷ rs) r × (test r ≡ true)
      go true q m ih =
          elim (first_or_later r x (keep test rs) m) [
            | inl p ↦ (here r x rs p, ap test (sym p) ∙ q)
            | inr c ↦ (there r x rs (ih c).0, (ih c).1)
          ]
      go false q m ih = (there r x rs (ih m).0, (ih m).1)

  apart_kept : (rs : List (List ℕ)) → Apart rs → Apart (keep test rs)
  unfolding keep Apart
  apart_kept [] a = a
  apart_kept (x ∷ rs) a = go (test x) (apart_kept rs a.1)
    where
      go : (b : Bool) → Apart (keep test rs) → Apart (choose b (x ∷ keep test rs) (keep test rs))
      go true ih = (λ m. a.0 (kept_from x rs m).0, ih)
      go false ih = ih

-- ---- the plans

pub each_plan_once : (y : Year) → EachPlanOnce y (plans_of y)
unfolding plans_of
each_plan_once y = record {
  every = λ p h. kept test (row_of y p) tried (to_test p h) (row_among y.terms y.courses p h.within);
  only = λ p a. plan_cong y (placing_of (row_of y p)) p (read p) (plan_of_test y (placing_of (row_of y p)) (kept_from test (row_of y p) tried a).1);
  a_row = λ k l. of_length (get_or (keep test tried) k []) (k, l, refl);
  once = apart_once (keep test tried) (apart_kept test tried (apart_rows y.terms y.courses));
}
  where
    test : List ℕ → Bool
    test r = is_plan y (placing_of r)

    tried : List (List ℕ)
    tried = rows y.terms y.courses

    read : (p : Placing) (i : ℕ) → i < y.courses → placing_of (row_of y p) i ≡ p i
    read p i l = get_or_tab y.courses p 0 i l

    to_test : (p : Placing) → Plan y p → test (row_of y p) ≡ true
    to_test p h = test_of_plan y (placing_of (row_of y p)) (plan_cong y p (placing_of (row_of y p)) (λ i l. sym (read p i l)) h)

    of_length : (r : List ℕ) → Among (keep test tried) r → row_of y (placing_of r) ≡ r
    of_length r a = tab_get_or r 0 y.courses (row_length y.terms y.courses r (kept_from test r tried a).0)
