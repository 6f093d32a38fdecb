-- Years that differ in their bounds alone: a rule on bounds keeps the courses, and so the sums and all credits. Callers cite
-- `only_behind` of what a rule on bounds leaves over the terms, `only_then` for rules in a row, and `all_kept`.
use Prim.Native.Nat.{ℕ, ◌≤◌, ◌<◌}
use mathlib.Core.Path.{◌≡◌, refl, sym, ap, subst, ◌∙◌}
use native.Mathlib.Omega.{arith}
use native.Mathlib.Nat.{le_refl}
use Rattle.theory.proofs.FoldLaws.{fold_keeps}
use Rattle.year.specs.Sums.{all_of}
use Rattle.year.specs.Sound.{Sound}
use Rattle.year.specs.declared.Quantity.{Quantity}
use Rattle.year.specs.declared.Quantity.TheVariants.{Credits, Counts}
use Rattle.year.specs.declared.Year.{Year}
use Rattle.rules.specs.Step.{Step, goes, then, over_to, over_terms}
use Rattle.rules.specs.Narrower.{Narrower}
use Rattle.rules.proofs.Narrows.{narrower_self, narrower_then, Narrows, credits_same}
use Rattle.rules.proofs.KeptOver.{AtTerms}
use Rattle.frame.specs.State.{year_in, step_in}
use Rattle.frame.specs.declared.State.{State}
use Rattle.frame.specs.Bounds.{put, Outcome}

-- z is y with tighter bounds
pub record BoundsOnly (y z : Year) : Type 0 where
  pub narrower : Narrower y z
  pub list_same : z.list ≡ y.list
  pub sums_same : z.sums ≡ y.sums

pub only_self : (y : Year) → Sound y → BoundsOnly y y
only_self y a = record { narrower = narrower_self y a; list_same = refl; sums_same = refl }

pub only_then : (x y z : Year) → BoundsOnly x y → BoundsOnly y z → BoundsOnly x z
only_then x y z a b = record { narrower = narrower_then x y z a.narrower b.narrower; list_same = b.list_same ∙ a.list_same; sums_same = b.sums_same ∙ a.sums_same }

-- ---- a rule on bounds: at each term of a sound year it makes some outcome

abbrev pub OnBounds : (Year → ℕ → Step) → Type 0
OnBounds rule = (y : Year) (j : ℕ) → Sound y → j < y.terms → (o : Outcome) × (put y j o ≡ rule y j)

module _ (rule : Year → ℕ → Step) (narrows : AtTerms Narrows rule) where
  -- one term more, by an outcome there
  pub only_next : (y z : Year) (k : ℕ) (o : Outcome) → put z k o ≡ rule z k → BoundsOnly y z → k < z.terms → BoundsOnly y (rule z k).year
  only_next y z k o e b h = record {
    narrower = narrower_then y z (rule z k).year b.narrower (narrows z k b.narrower.sound h).year;
    list_same = ap (λ (t : Step). t.year.list) (sym e) ∙ b.list_same;
    sums_same = ap (λ (t : Step). t.year.sums) (sym e) ∙ b.sums_same;
  }

module _ (rule : Year → ℕ → Step) (narrows : AtTerms Narrows rule) (on-bounds : OnBounds rule) where
  -- over the first n terms
  pub only_over : (s : Step) → Sound s.year → (n : ℕ) → n ≤ s.year.terms → BoundsOnly s.year (over_to rule s n).year
  only_over s a n h =
      fold_keeps goes (then rule) s (λ z. BoundsOnly s.year z.year) n
      (λ z k l e b.
      let m : k < z.year.terms = omega (arith, b.narrower.terms_same) in
      let o = on-bounds z.year k b.narrower.sound m in
      only_next rule narrows s.year z.year k o.0 o.1 b m)
      (only_self s.year a)

  -- over all terms, where it goes on
  pub only_behind : (s z : State) → step_in z ≡ over_terms rule (step_in s) → BoundsOnly (year_in s) (year_in z)
  only_behind s z e = subst (BoundsOnly (year_in s)) (sym (ap (λ (t : Step). t.year) e)) (only_over (step_in s) s.sound s.terms (le_refl s.terms))

-- ---- what stays

pub all_kept : (y z : Year) → BoundsOnly y z → (q : Quantity) → all_of q z ≡ all_of q y
all_kept y z k Credits = credits_same y z k.narrower.courses_same k.narrower.weight_same
all_kept y z k Counts = k.narrower.courses_same
