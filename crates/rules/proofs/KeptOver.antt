-- Steps in a row keep exactly the plans if each step does.
use Prim.Native.Nat.{ℕ, ◌≤◌, ◌<◌}
use mathlib.Core.Path.{◌≡◌, refl}
use native.Mathlib.Omega.{arith}
use native.Mathlib.Nat.{le_refl, le_of_eq}
use lib.Dec.{eqb}
use borrow.Author.Tests.{eqb-true}
use Rattle.theory.proofs.ChoiceLaws.{choose_case}
use Rattle.theory.proofs.FoldLaws.{fold_keeps}
use Rattle.year.specs.Plans.{Placing, Plan}
use Rattle.year.specs.Sound.{Sound}
use Rattle.year.specs.declared.Year.{Year}
use Rattle.rules.specs.Step.{goes, joined, then, live, dead, next, over_to, over_terms, Step}
use Rattle.rules.specs.Narrower.{Narrower}
use Rattle.rules.proofs.Narrows.{narrower_self, narrower_then, Narrows, narrows_over}
use Rattle.rules.proofs.PlansKept.{PlansKept}

-- nothing is done
pub kept_rest : (y : Year) → PlansKept y (live y)
kept_rest y = record { none_lost = λ z p h. h; none_new = λ z p h. h; no_plan = λ n p h. n refl }

-- there is no plan, and rule r says so
pub kept_dead : (y : Year) (r : ℕ) → (r ≡ 0 → ⊥) → ((p : Placing) → Plan y p → ⊥) → PlansKept y (dead r y)
kept_dead y r d h = record { none_lost = λ z p q. absurd (d z); none_new = λ z p q. absurd (d z); no_plan = λ n p q. h p q }

-- one step after another
pub kept_then : (y : Year) (s t : Step) → s.rule ≡ 0 → PlansKept y s → PlansKept s.year t → PlansKept y (joined s t)
kept_then y s t e a b = record {
  none_lost = λ z p h. b.none_lost z p (a.none_lost e p h);
  none_new = λ z p h. a.none_new e p (b.none_new z p h);
  no_plan = λ n p h. b.no_plan n p (a.none_lost e p h);
}

pub kept_next : (f : Year → ℕ → Step) (y : Year) (s : Step) (k : ℕ) → PlansKept y s → (s.rule ≡ 0 → PlansKept s.year (f s.year k)) → PlansKept y (next f s k)
kept_next f y s k a b =
    choose_case (PlansKept y) (eqb s.rule 0) (then f s k) s
    (λ e. let live = eqb-true s.rule 0 e in kept_then y s (f s.year k) live a (b live))
    (λ e. a)

-- what each step keeps, on years that meet a condition which it leaves true, is kept by all
module _ (f : Year → ℕ → Step) (If : Year → Type 0) (n : ℕ) (kept : (z : Year) (k : ℕ) → If z → k < n → PlansKept z (f z k))
    (stays : (z : Year) (k : ℕ) → If z → k < n → If (f z k).year) (y : Year) (s : Step) where
  pub kept_over : PlansKept y s → If s.year → (m : ℕ) → m ≤ n → PlansKept y (over_to f s m) × If (over_to f s m).year
  kept_over a i m h =
      fold_keeps goes (then f) s (λ z. PlansKept y z × If z.year) m
      (λ z k l e b. (kept_then y z (f z.year k) (eqb-true z.rule 0 e) b.0 (kept z.year k b.1 (omega arith)), stays z.year k b.1 (omega arith)))
      (a, i)

-- ---- over the terms

-- what holds of a rule at each term of a sound year
abbrev pub AtTerms : (Year → Step → Type 0) → (Year → ℕ → Step) → Type 0
AtTerms P f = (z : Year) (j : ℕ) → Sound z → j < z.terms → P z (f z j)

-- a rule that keeps the plans at each term, and narrows, keeps them over all terms
pub kept_terms : (f : Year → ℕ → Step) → AtTerms PlansKept f → AtTerms Narrows f → (y : Year) (s : Step) → Sound s.year → PlansKept y s → PlansKept y (over_terms f s)
kept_terms f kept narrows y s sound a =
    (kept_over f (Narrower s.year) s.year.terms (λ z k i l. kept z k i.sound (omega (arith, i.terms_same)))
    (λ z k i l. narrower_then s.year z (f z k).year i (narrows z k i.sound (omega (arith, i.terms_same))).year)
    y s a (narrower_self s.year sound) s.year.terms (le_refl s.year.terms)).0

-- a rule over the terms of the year that the rules before it left
pub narrows_terms : (f : Year → ℕ → Step) (y : Year) (s : Step) → AtTerms Narrows f → Narrows y s → Narrows y (over_terms f s)
narrows_terms f y s law a =
    narrows_over f y.terms y s (λ z k b t c l. law z k b (omega arith)) a s.year.terms (le_of_eq a.year.terms_same)
