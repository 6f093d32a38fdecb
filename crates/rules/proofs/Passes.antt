-- What a pass of a round is held to, that each of the twelve meets it, and what follows of passes in a row: by one induction each.
use Prim.Native.Nat.{ℕ, zero, suc, ◌+◌, ◌-◌}
use mathlib.Core.Bool.{Bool, true, false, ◌||◌}
use mathlib.Core.List.{List, [], ◌∷◌}
use mathlib.Core.Logic.{◌↔◌}
use mathlib.Core.Path.{◌≡◌, refl, sym, ap, subst, ◌∙◌}
use native.Mathlib.Nat.{le_refl}
use lib.Dec.{eqb}
use lib.ListN.{take, drop}
use borrow.Author.Tests.{eqb-true}
use Rattle.theory.proofs.ChoiceLaws.{choose_case}
use Rattle.theory.proofs.FoldLaws.{fold_none, fold_told}
use Rattle.year.specs.Sound.{Sound}
use Rattle.year.specs.declared.Year.{Year}
use Rattle.rules.specs.Step.{goes, then, step, live, over_to, over_terms, Step, joined}
use Rattle.rules.specs.Bounds.{rule1, rule2, rule4, rule5}
use Rattle.rules.specs.Lists.{rule3, rule10}
use Rattle.rules.specs.Spares.{rule6, rule7, rule8, rule9}
use Rattle.rules.specs.Packing.{rule11}
use Rattle.rules.specs.Neighbours.{rule12}
use Rattle.rules.specs.Round.{once, passes, in_row, passes_of, passes_from, round}
use Rattle.rules.specs.Narrower.{Narrower}
use Rattle.rules.proofs.Narrows.{narrower_then, Narrows, quiet, narrows_rest, narrows_next, next_dead}
use Rattle.rules.proofs.PlansKept.{PlansKept, Held}
use Rattle.rules.proofs.KeptOver.{narrows_terms, kept_rest, kept_next, AtTerms, kept_terms}
use Rattle.rules.proofs.RulesHeld.{rule1_held, rule2_held, rule4_held, rule5_held, rule6_held, rule7_held, rule8_held, rule9_held, rule11_held}
use Rattle.rules.proofs.ListsKept.{rule3_held, rule10_held, rule12_held}

-- ---- the laws of a pass

pub record Pass (p : Step → Step) : Type 0 where
  -- it reads the year alone, adds its mark to the one it got, and lets a step that found no plan pass
  pub steps : (s : Step) → p s ≡ once (λ y. p (live y)) s
  -- it leaves a sound year, with no bound looser and no list longer, and marks it exactly if it is another
  pub narrows : (y : Year) → Sound y → Narrows y (p (live y))
  -- it keeps exactly the plans, and says no plan only where there is none
  pub kept : (y : Year) → Sound y → PlansKept y (p (live y))

-- ---- a rule over the terms is a pass if it is lawful at each term

pub or_none : (a : Bool) → a || false ≡ a
or_none true = refl
or_none false = refl

or_more : (a b c : Bool) → a || (b || c) ≡ (a || b) || c
or_more true b c = refl
or_more false b c = refl

-- what was altered before does not count for what is altered now
pub over_joined : (f : Year → ℕ → Step) (s : Step) → s.rule ≡ 0 → (n : ℕ) → over_to f s n ≡ joined s (over_to f (live s.year) n)
over_joined f s e n =
    sym
    (fold_told goes (then f) goes (then f) (joined s) (λ z. Unit {0}) n (λ z. refl) (λ z k l g u. tt)
    (λ z k l g u i. step (f z.year k).year (or_more s.altered z.altered (f z.year k).altered i) (f z.year k).rule)
    (live s.year) tt n (le_refl n)
    ∙ ap (λ t. over_to f t n) (λ i. step s.year (or_none s.altered i) (sym e i)))

terms_steps : (f : Year → ℕ → Step) (s : Step) → over_terms f s ≡ once (λ y. over_terms f (live y)) s
terms_steps f s = go (eqb s.rule 0) refl
  where
    go : (b : Bool) → eqb s.rule 0 ≡ b → over_terms f s ≡ once (λ y. over_terms f (live y)) s
    go true e = rw e (over_joined f s (eqb-true s.rule 0 e) s.year.terms)
    go false e = rw e (fold_none goes (then f) s e s.year.terms)

pub pass_terms : (f : Year → ℕ → Step) → AtTerms Held f → Pass (over_terms f)
pass_terms f held = record {
  steps = terms_steps f;
  narrows = λ y s. narrows_terms f y (live y) (λ z j a l. (held z j a l).0) (narrows_rest y 0 s);
  kept = λ y s. kept_terms f (λ z j a l. (held z j a l).1) (λ z j a l. (held z j a l).0) y (live y) s (kept_rest y);
}

pub pass_once : (f : Year → Step) → ((y : Year) → Sound y → Held y (f y)) → Pass (once f)
pass_once f held = record { steps = λ s. refl; narrows = λ y s. (held y s).0; kept = λ y s. (held y s).1 }

-- ---- each of the twelve

abbrev pub Each : ((Step → Step) → Type 0) → List (Step → Step) → Type 0
Each P [] = Unit {0}
Each P (p ∷ ps) = P p × Each P ps

infixr 5 ◌also◌
abbrev pub ◌also◌ : {A B : Type 0} → A → B → A × B
a also b = (a, b)

pub lawful : Each Pass passes
lawful =
    pass_terms rule1 rule1_held
    also pass_terms rule2 rule2_held
    also pass_terms rule3 rule3_held
    also pass_terms rule4 rule4_held
    also pass_terms rule5 rule5_held
    also pass_terms rule6 rule6_held
    also pass_terms rule7 rule7_held
    also pass_terms rule8 rule8_held
    also pass_terms rule9 rule9_held
    also pass_terms rule10 rule10_held
    also pass_terms rule12 rule12_held
    also pass_once rule11 rule11_held
    also tt

-- ---- one pass more

module _ (p : Step → Step) (law : Pass p) (s : Step) where
  pub pass_last : eqb s.rule 0 ≡ false → p s ≡ s
  pass_last e = law.steps s ∙ next_dead (λ y k. p (live y)) s 0 e

  pub pass_narrows : (y : Year) → Narrows y s → Narrows y (p s)
  pass_narrows y a = subst (Narrows y) (sym (law.steps s)) (narrows_next (λ z k. p (live z)) y s 0 a (law.narrows s.year a.year.sound))

  pub pass_kept : (y : Year) → Sound s.year → PlansKept y s → PlansKept y (p s)
  pass_kept y a b = subst (PlansKept y) (sym (law.steps s)) (kept_next (λ z k. p (live z)) y s 0 b (λ e. law.kept s.year a))

-- ---- passes in a row

-- what each pass leaves true
pub row_keeps : (P : Step → Type 0) → ((p : Step → Step) → Pass p → (s : Step) → P s → P (p s))
    → (ps : List (Step → Step)) → Each Pass ps → (s : Step) → P s → P (in_row ps s)
row_keeps P one [] l s a = a
row_keeps P one (p ∷ ps) l s a = row_keeps P one ps l.1 (p s) (one p l.0 s a)

-- the first k, and then the others
pub row_split : (k : ℕ) (ps : List (Step → Step)) (s : Step) → in_row ps s ≡ in_row (drop k ps) (in_row (take k ps) s)
row_split zero ps s = refl
row_split (suc k) [] s = refl
row_split (suc k) (p ∷ ps) s = row_split k ps (p s)

pub each_take : (P : (Step → Step) → Type 0) (k : ℕ) (ps : List (Step → Step)) → Each P ps → Each P (take k ps)
each_take P zero ps a = tt
each_take P (suc k) [] a = tt
each_take P (suc k) (p ∷ ps) a = (a.0, each_take P k ps a.1)

pub each_drop : (P : (Step → Step) → Type 0) (k : ℕ) (ps : List (Step → Step)) → Each P ps → Each P (drop k ps)
each_drop P zero ps a = a
each_drop P (suc k) [] a = tt
each_drop P (suc k) (p ∷ ps) a = each_drop P k ps a.1

module _ (ps : List (Step → Step)) (laws : Each Pass ps) (s : Step) where
  pub row_last : eqb s.rule 0 ≡ false → in_row ps s ≡ s
  row_last e = row_keeps (λ t. t ≡ s) (λ p l t q. ap p q ∙ pass_last p l s e) ps laws s refl

  pub row_narrows : (y : Year) → Narrows y s → Narrows y (in_row ps s)
  row_narrows y = row_keeps (Narrows y) (λ p l t. pass_narrows p l t y) ps laws s

  pub row_kept : (y : Year) → Narrows y s → PlansKept y s → PlansKept y (in_row ps s)
  row_kept y a b =
      (row_keeps (λ t. Narrows y t × PlansKept y t) (λ p l t c. (pass_narrows p l t y c.0, pass_kept p l t y c.0.year.sound c.1)) ps laws s (a, b)).1

-- the year gets no wider
pub row_narrower : (ps : List (Step → Step)) → Each Pass ps → (y : Year) (s : Step) → Narrower y s.year → Narrower y (in_row ps s).year
row_narrower ps laws y = row_keeps (λ (t : Step). Narrower y t.year) (λ p l t. one p l t) ps laws
  where
    one : (p : Step → Step) → Pass p → (s : Step) → Narrower y s.year → Narrower y (p s).year
    one p l s a =
        subst (λ (t : Step). Narrower y t.year) (sym (l.steps s))
        (choose_case (λ (t : Step). Narrower y t.year) (eqb s.rule 0) (joined s (p (live s.year))) s
        (λ e. narrower_then y s.year (p (live s.year)).year a (l.narrows s.year a.sound).year) (λ e. a))

-- ---- rules a to b of the round

pub lawful_part : (a b : ℕ) → Each Pass (passes_of a b)
lawful_part a b = each_take Pass (b + 1 - a) (drop (a - 1) passes) (each_drop Pass (a - 1) passes lawful)

pub lawful_from : (a : ℕ) → Each Pass (passes_from a)
lawful_from a = each_drop Pass (a - 1) passes lawful

-- ---- a round

pub narrows_round : (y : Year) → Sound y → Narrows y (round y)
unfolding round
narrows_round y s = row_narrows passes lawful (live y) y (narrows_rest y 0 s)

pub round_kept : (y : Year) → Sound y → PlansKept y (round y)
unfolding round
round_kept y s = row_kept passes lawful (live y) y (narrows_rest y 0 s) (kept_rest y)

-- a round, also one that ends in a no plan, is marked unaltered exactly if it leaves the year it was given
pub round_quiet : (y : Year) → Sound y → ((round y).altered ≡ false) ↔ ((round y).year ≡ y)
round_quiet y s = quiet y (round y) (narrows_round y s)

-- so is a pass: it adds no mark to the one it got exactly if it leaves the year it was given
pub pass_quiet : (p : Step → Step) → Pass p → (s : Step) → Sound s.year
    → (m : Bool) × ((p s).altered ≡ s.altered || m) × ((m ≡ false) ↔ ((p s).year ≡ s.year))
pass_quiet p law s a = go (eqb s.rule 0) refl
  where
    go : (b : Bool) → eqb s.rule 0 ≡ b → (m : Bool) × ((p s).altered ≡ s.altered || m) × ((m ≡ false) ↔ ((p s).year ≡ s.year))
    go true e =
        let is : p s ≡ joined s (p (live s.year)) = law.steps s ∙ rw e refl in
        let q = quiet s.year (p (live s.year)) (law.narrows s.year a) in
        let year = ap (λ (t : Step). t.year) is in
        ((p (live s.year)).altered, ap (λ (t : Step). t.altered) is, (λ z. year ∙ q.0 z, λ z. q.1 (sym year ∙ z)))
    go false e =
        let is = pass_last p law s e in
        (false, ap (λ (t : Step). t.altered) is ∙ sym (or_none s.altered), (λ z. ap (λ (t : Step). t.year) is, λ z. refl))
