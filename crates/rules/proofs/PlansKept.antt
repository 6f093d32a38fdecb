-- What a step of the rules is held to: it narrows, and it keeps exactly the plans of the year.
use mathlib.Core.Path.{◌≡◌}
use Rattle.year.specs.Plans.{Placing, Plan}
use Rattle.year.specs.declared.Year.{Year}
use Rattle.rules.specs.Step.{Step}
use Rattle.rules.proofs.Narrows.{Narrows}

-- a step that found no fault keeps exactly the plans; one that says no plan says so of a year that has none
pub record PlansKept (y : Year) (s : Step) : Type 0 where
  pub none_lost : s.rule ≡ 0 → (p : Placing) → Plan y p → Plan s.year p
  pub none_new : s.rule ≡ 0 → (p : Placing) → Plan s.year p → Plan y p
  pub no_plan : (s.rule ≡ 0 → ⊥) → (p : Placing) → Plan y p → ⊥

abbrev pub Held : Year → Step → Type 0
Held y s = Narrows y s × PlansKept y s
