-- The courses of a term in a row: those with no verdict are passed over, and the first that has one is given it.
use Prim.Native.Nat.{ℕ, zero, suc, ◌+◌, ◌-◌, ◌≤◌, ◌<◌}
use mathlib.Core.Bool.{false, or-false, or_assoc}
use mathlib.Core.Path.{◌≡◌, refl, sym, ap, subst, ◌∙◌}
use native.Mathlib.Decide.{ℕ_discrete}
use native.Mathlib.Omega.{arith}
use Rattle.theory.proofs.FoldLaws.{fold_more, fold_keeps}
use Rattle.year.specs.Year.{course_at, is_open}
use Rattle.year.specs.declared.Year.{Year}
use Rattle.rules.specs.Step.{goes, then, step, live, judged, over_to, joined, Step}
use Rattle.rules.specs.Spares.{up}
use Rattle.rules.specs.Neighbours.{needs, takes, verdict12, rule12_course}
use Rattle.rules.specs.declared.Verdict.{Verdict}
use Rattle.rules.specs.declared.Verdict.TheVariants.{Stays, Struck, Fixed}
use Rattle.rules.specs.Narrower.{Narrower}
use Rattle.rules.proofs.Narrows.{Narrows, Lawful, narrows_rest, narrows_over}
use Rattle.rules.proofs.Steps.{judged_narrows}
use Rattle.frame.specs.State.{year_in, step_in}
use Rattle.frame.specs.declared.State.{State}
use Rattle.orders.specs.declared.Orders.{Orders}
use Rattle.orders.proofs.OrderLaws.{orders_weights}
use Rattle.neighbours.specs.Verdicts.{verdict_in, NoneFrom, FirstAt}
use Rattle.neighbours.specs.declared.First.{First}
use Rattle.neighbours.proofs.YearLaws.{verdict_read}

-- ---- one course

-- only an open course has a verdict
closed : (y : Year) (j i : ℕ) → is_open (course_at y i) j ≡ false → verdict12 y j i ≡ Stays
unfolding verdict12
closed y j i e = rw e

judged_goes : (y : Year) (i j : ℕ) (v : Verdict) → (judged y i j v).rule ≡ 0
judged_goes y i j Stays = refl
judged_goes y i j Struck = refl
judged_goes y i j Fixed = refl

-- one more that has no verdict
pub none_more : (y : Year) (j a b start k : ℕ) → NoneFrom y j a b start k → verdict_in y.weight y.list y.courses j a b k ≡ Stays → NoneFrom y j a b start (k + 1)
none_more y j a b start k none this i from within = go (ℕ_discrete i k)
  where
    go : Dec (i ≡ k) → verdict_in y.weight y.list y.courses j a b i ≡ Stays
    go (yes e) = ap (verdict_in y.weight y.list y.courses j a b) e ∙ this
    go (no d) = none i from (omega (arith, d))

-- none of them finds no plan
pub going : (j : ℕ) (y : Year) (n : ℕ) → (over_to (rule12_course j) (live y) n).rule ≡ 0
unfolding rule12_course
going j y n = fold_keeps goes (then (rule12_course j)) (live y) (λ t. t.rule ≡ 0) n (λ t k h e q. judged_goes t.year k j (verdict12 t.year j k)) refl

-- ---- from a state on

module _ (s : State) (j : ℕ) (l : j < s.terms) where
  abbrev y : Year
  y = year_in s

  -- what the first i courses leave, and the step that the state is then
  abbrev courses : ℕ → Step
  courses i = over_to (rule12_course j) (live y) i

  abbrev pub step_to : ℕ → Step
  step_to i = joined (step_in s) (courses i)

  lawful : Lawful y.terms y.courses (rule12_course j) y.courses
  unfolding rule12_course
  lawful z i a t c h = judged_narrows z i j (verdict12 z j i) a (omega arith) (omega arith) (closed z j i)

  narrows : (i : ℕ) → i ≤ y.courses → Narrows y (courses i)
  narrows i h = narrows_over (rule12_course j) y.courses y (live y) lawful (narrows_rest y 0 s.sound) i h

  -- course i after those before it
  one_more : (i : ℕ) → courses (i + 1) ≡ joined (courses i) (judged (courses i).year i j (verdict12 (courses i).year j i))
  unfolding rule12_course
  one_more i = fold_more goes (then (rule12_course j)) (live y) i ∙ rw (going j y i)

  -- one with no verdict leaves all as it was
  one_passed : (i : ℕ) → verdict12 (courses i).year j i ≡ Stays → courses (i + 1) ≡ courses i
  one_passed i e =
      one_more i ∙ ap (λ v. joined (courses i) (judged (courses i).year i j v)) e
      ∙ (λ n. step (courses i).year (or-false (courses i).altered n) (sym (going j y i) n))

  some_passed : (i d : ℕ) → ((k : ℕ) → i ≤ k → k < i + d → verdict12 (courses i).year j k ≡ Stays) → courses (i + d) ≡ courses i
  some_passed i zero h = ap courses (let e : i + 0 ≡ i = omega arith in e)
  some_passed i (suc d) h =
      let before = some_passed i d (λ k a b. h k a (omega arith)) in
      let more : i + suc d ≡ i + d + 1 = omega arith in
      ap courses more ∙ one_passed (i + d) (ap (λ (t : Step). verdict12 t.year j (i + d)) before ∙ h (i + d) (omega arith) (omega arith)) ∙ before

  passed : (i k : ℕ) → i ≤ k → ((n : ℕ) → i ≤ n → n < k → verdict12 (courses i).year j n ≡ Stays) → courses k ≡ courses i
  passed i k h stays = let e : i + (k - i) ≡ k = omega arith in sym (ap courses e) ∙ some_passed i (k - i) (λ n a b. stays n a (omega arith))

  -- ---- the state after i courses

  module _ (i : ℕ) (h : i ≤ s.courses) (z : State) (inv : step_in z ≡ step_to i) where
    year_is : year_in z ≡ (courses i).year
    year_is = ap (λ (t : Step). t.year) inv

    narrower : Narrower y (year_in z)
    narrower = subst (Narrower y) (sym year_is) (narrows i h).year

    pub sizes_are : (z.courses ≡ s.courses) × (z.terms ≡ s.terms)
    sizes_are = (narrower.courses_same, narrower.terms_same)

    -- the courses stand in the order that they stood in
    pub order_is : up (year_in z) ≡ up y
    order_is = ap (λ (o : Orders). o.up) (orders_weights y (year_in z) narrower.courses_same narrower.weight_same)

    -- the courses up to k have no verdict: z is what they leave too
    module _ (k : ℕ) (from : i ≤ k) (none : NoneFrom (year_in z) j (needs (year_in z) j) (takes (year_in z) j) i k) where
      skipped : courses k ≡ courses i
      skipped = passed i k from (λ n a b. ap (λ x. verdict12 x j n) (sym year_is) ∙ verdict_read (year_in z) j n ∙ none n a b)

      step_there : step_in z ≡ step_to k
      step_there = inv ∙ ap (joined (step_in s)) (sym skipped)

    -- none of those left has one
    pub all_there : NoneFrom (year_in z) j (needs (year_in z) j) (takes (year_in z) j) i z.courses → step_in z ≡ step_to s.courses
    all_there none = step_there s.courses h (λ k a b. none k a (omega (arith, b, sizes_are.0)))

    -- the first course that has a verdict
    module _ (f : First) (first : FirstAt (year_in z) j (needs (year_in z) j) (takes (year_in z) j) i f) where
      verdict_there : f.verdict ≡ verdict12 (year_in z) j f.course
      verdict_there = first.here ∙ sym (verdict_read (year_in z) j f.course)

      -- and the state with its verdict is the one behind it
      pub given : (r : State) → step_in r ≡ joined (step_in z) (judged (year_in z) f.course j f.verdict) → step_in r ≡ step_to (f.course + 1)
      given r e =
          let k : ℕ = f.course in
          let at : step_in z ≡ step_to k = step_there k first.from first.before in
          let year : year_in z ≡ (courses k).year = ap (λ (t : Step). t.year) at in
          let v : f.verdict ≡ verdict12 (courses k).year j k = verdict_there ∙ ap (λ x. verdict12 x j k) year in
          let made : Step = judged (courses k).year k j (verdict12 (courses k).year j k) in
          e
          ∙ ap (λ (t : Step). joined t (judged t.year k j f.verdict)) at
          ∙ ap (λ x. joined (step_to k) (judged (courses k).year k j x)) v
          ∙ (λ n. step made.year (or_assoc s.altered (courses k).altered made.altered n) made.rule)
          ∙ ap (joined (step_in s)) (sym (one_more k))
