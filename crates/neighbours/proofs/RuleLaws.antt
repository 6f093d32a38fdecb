-- Rule 12 at a term by what is said of it, and what a turn of the code's loop over the terms asks.
use Prim.Native.Nat.{ℕ, zero, suc, ◌<◌}
use mathlib.Core.Bool.{or-false}
use mathlib.Core.Path.{◌≡◌, refl, sym, ap, ◌∙◌}
use native.Mathlib.Omega.{arith}
use Rattle.std.specs.Prelude.{Ok, Err}
use Rattle.theory.specs.Choice.{choose}
use Rattle.theory.specs.Fold.{fold}
use Rattle.year.specs.declared.Year.{Year}
use Rattle.rules.specs.Step.{Step, step, live, dead, judged, next, over_to, over_courses, joined}
use Rattle.rules.specs.Spares.{up}
use Rattle.rules.specs.Neighbours.{verdict12, rule12_course, rule12}
use Rattle.rules.specs.declared.Rule.{Rule}
use Rattle.rules.specs.declared.Verdict.TheVariants.{Stays}
use Rattle.rules.proofs.KeptOver.{AtTerms}
use Rattle.rules.proofs.ListsKept.{rule12_held}
use Rattle.rules.proofs.Narrows.{Narrows}
use Rattle.frame.specs.State.{year_in, step_in, step_of}
use Rattle.frame.specs.declared.State.{State}
use Rattle.frame.proofs.TermsAt.{narrower_at}
use Rattle.orders.specs.declared.Orders.{Orders}
use Rattle.orders.proofs.OrderLaws.{orders_weights}
use Rattle.neighbours.specs.Verdicts.{SaysOf}
use Rattle.neighbours.specs.declared.Says.{Says}
use Rattle.neighbours.specs.declared.Says.TheVariants.{Nothing, Courses}
use Rattle.neighbours.proofs.YearLaws.{verdict_read, cannot_read}

-- ---- at a term

-- where no course has a verdict nothing is done
over_still : (j : ℕ) (y : Year) (n : ℕ) → ((i : ℕ) → i < n → verdict12 y j i ≡ Stays) → over_to (rule12_course j) (live y) n ≡ live y
unfolding fold rule12_course
over_still j y zero h = refl
over_still j y (suc n) h = ap (λ s. next (λ z i. judged z i j (verdict12 z j i)) s n) (over_still j y n (λ i l. h i (omega arith))) ∙ rw (h n (omega arith))

says_nothing : (y : Year) (j : ℕ) → SaysOf y j (Ok Nothing) → rule12 y j ≡ live y
unfolding rule12
says_nothing y j h =
    ap (λ b. choose b (dead 12 y) (over_courses (rule12_course j) (live y))) (cannot_read y j ∙ h.0)
    ∙ over_still j y y.courses (λ i l. verdict_read y j i ∙ h.1 i l)

says_courses : (y : Year) (j : ℕ) → SaysOf y j (Ok Courses) → rule12 y j ≡ over_courses (rule12_course j) (live y)
unfolding rule12
says_courses y j h = ap (λ b. choose b (dead 12 y) (over_courses (rule12_course j) (live y))) (cannot_read y j ∙ h)

says_none : (y : Year) (j : ℕ) (r : Rule) → SaysOf y j (Err r) → rule12 y j ≡ dead 12 y
unfolding rule12
says_none y j r h = ap (λ b. choose b (dead 12 y) (over_courses (rule12_course j) (live y))) (cannot_read y j ∙ h.0)

pub says_else : (w : Says) → (w ≡ Courses → ⊥) → w ≡ Nothing
says_else Nothing d = refl
says_else Courses d = absurd (d refl)

-- ---- the code of one term, of state s

module _ (s : State) (j : ℕ) where
  abbrev y : Year
  y = year_in s

  abbrev after : Step
  after = next rule12 (step_in s) j

  -- nothing is said of it
  pub nothing_left : SaysOf y j (Ok Nothing) → step_in s ≡ after
  nothing_left h = rw (says_nothing y j h) (λ i. step y (sym (or-false s.altered) i) 0)

  -- its courses are gone through
  pub courses_left : SaysOf y j (Ok Courses) → joined (step_in s) (over_courses (rule12_course j) (live y)) ≡ after
  courses_left h = rw (says_courses y j h) refl

  -- it has no plan
  pub none_left : (r : Rule) → SaysOf y j (Err r) → step_of s (Err r) ≡ after
  none_left r h = ap (λ (a : Rule). step_of s (Err a)) h.1 ∙ rw (says_none y j r h) (λ i. step y (sym (or-false s.altered) i) 12)

-- ---- what a turn of the loop asks: z is the state at term j, from s on

pub narrows : AtTerms Narrows rule12
narrows y j s l = (rule12_held y j s l).0

module _ (s : State) (j : ℕ) (h : j < s.terms) (z : State) (inv : step_in z ≡ over_to rule12 (step_in s) j) where
  -- the courses stand in the order that they stood in
  pub order_still : up (year_in s) ≡ up (year_in z)
  order_still =
      let t = narrower_at rule12 s j h z inv narrows in
      ap (λ (o : Orders). o.up) (sym (orders_weights (year_in s) (year_in z) t.courses_same t.weight_same))
