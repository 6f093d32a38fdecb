-- A change for a good reason keeps exactly the plans: a plan meets every fact that holds of its year, and so the conclusion. One
-- law, for every rule at every place.
use Prim.Native.Nat.{ℕ, ◌<◌}
use mathlib.Core.Bool.{Bool, true, false, ◌&&◌}
use mathlib.Core.Logic.{◌↔◌}
use mathlib.Core.Path.{◌≡◌, refl}
use native.Mathlib.Omega.{arith}
use lib.Dec.{eqb}
use borrow.Author.Tests.{eqb-true, eqb-false}
use Rattle.theory.specs.Choice.{choose}
use Rattle.theory.proofs.ChoiceLaws.{choose_any}
use Rattle.year.specs.Year.{course_at}
use Rattle.year.specs.Plans.{Placing, Plan}
use Rattle.year.specs.Sound.{Sound}
use Rattle.year.specs.declared.Side.{Side}
use Rattle.year.specs.declared.Side.TheVariants.{Low, High}
use Rattle.year.specs.declared.Year.{Year}
use Rattle.rules.specs.Step.{Change, rests, moves, strikes, fixes, crosses, fails, applied, step, dead, goes, joined, raise_lower, Step}
use Rattle.rules.specs.Facts.{Concludes}
use Rattle.rules.specs.Reasons.{Reason, Alters, Good}
use Rattle.rules.proofs.PlanSums.{open_facts}
use Rattle.rules.proofs.Narrows.{Narrows, narrows_rest, narrows_then}
use Rattle.rules.proofs.Steps.{change_narrows}
use Rattle.rules.proofs.PlansKept.{PlansKept, Held}
use Rattle.rules.proofs.KeptOver.{kept_rest, kept_dead, kept_then, AtTerms}
use Rattle.rules.proofs.DoorPlans.{moved_plans, placed_plans, struck_plans}
use Rattle.rules.proofs.FactLaws.{plan_concludes}

-- ---- one change

-- z has the plans of y that meet C, and all of them do
kept_when : (y z : Year) (C : Placing → Type 0) → ((p : Placing) → Plan z p ↔ (Plan y p × C p)) → ((p : Placing) → Plan y p → C p) → PlansKept y (step z true 0)
kept_when y z C plans all = record {
  none_lost = λ e p plan. (plans p).1 (plan, all p plan);
  none_new = λ e p plan. ((plans p).0 plan).0;
  no_plan = λ d p plan. d refl;
}

change_kept : (r : ℕ) (y : Year) → Sound y → (r ≡ 0 → ⊥) → (c : Change) → Alters y c → ((p : Placing) → Plan y p → Concludes y p c) → PlansKept y (applied r y c)
change_kept r y s d rests a h = kept_rest y
change_kept r y s d (moves e q j n) a h = kept_when y _ _ (λ p. moved_plans y e q j n p s a.0) h
change_kept r y s d (strikes i j) a h = kept_when y _ _ (λ p. struck_plans y i j p s a.0 (open_facts (course_at y i) j a.2).0) h
change_kept r y s d (fixes i j) a h = kept_when y _ _ (λ p. placed_plans y i j p s a.0 (open_facts (course_at y i) j a.2).0) h
change_kept r y s d (crosses e q j) a h = kept_dead y r d h
change_kept r y s d fails a h = kept_dead y r d h

pub good_held : (r : ℕ) (y : Year) → Sound y → (r ≡ 0 → ⊥) → (e : Reason) → Good y e → Held y (applied r y e.change)
good_held r y s d e g = (change_narrows r y s e.change g.alters, change_kept r y s d e.change g.alters (plan_concludes y e.basis e.change g.suffices))

-- ---- raise, then lower

kept_both : (r : ℕ) (y : Year) (s t : Step) → (r ≡ 0 → ⊥) → PlansKept y s → PlansKept s.year t
    → (a b : Bool) → eqb s.rule 0 ≡ a → eqb t.rule 0 ≡ b → PlansKept y (choose (a && b) (joined s t) (dead r y))
kept_both r y s t d k h true true e f = kept_then y s t (eqb-true s.rule 0 e) k h
kept_both r y s t d k h true false e f =
    kept_dead y r d (λ p plan. h.no_plan (eqb-false t.rule 0 f) p (k.none_lost (eqb-true s.rule 0 e) p plan))
kept_both r y s t d k h false b e f = kept_dead y r d (k.no_plan (eqb-false s.rule 0 e))

-- a reason at every term
abbrev pub GoodAt : (Year → ℕ → Reason) → Type 0
GoodAt f = (y : Year) (j : ℕ) → Sound y → j < y.terms → Good y (f y j)

module _ (r : ℕ) (f : Side → Year → ℕ → Reason) (good : (s : Side) → GoodAt (f s)) (d : r ≡ 0 → ⊥) where
  pub both_held : AtTerms Held (raise_lower r (λ s y j. (f s y j).change))
  both_held y j sound l =
      let a = good_held r y sound d (f Low y j) (good Low y j sound l) in
      let s : Step = applied r y (f Low y j).change in
      let t : Step = applied r s.year (f High s.year j).change in
      let z = a.0.year in
      let b = good_held r s.year z.sound d (f High s.year j) (good High s.year j z.sound (omega (arith, z.terms_same))) in (
        choose_any (Narrows y) (goes s && goes t) (joined s t) (dead r y) (narrows_then y s t a.0 b.0) (narrows_rest y r sound),
        kept_both r y s t d a.1 b.1 _ _ refl refl,
      )
