-- Request A7's claim, for every rule at every place: each rule is its reasons, what a step rests on held just before it, and every
-- placing of the courses into terms that meets those facts meets the step's conclusion. That plans are kept follows from it.
use Rattle.std.specs.Prelude.{ℕ, ◌<◌, ◌≡◌}
use Rattle.theory.specs.Choice.{choose}
use Rattle.year.specs.Plans.{Placing, Plan}
use Rattle.year.specs.Sound.{Sound}
use Rattle.year.specs.declared.Quantity.{Quantity}
use Rattle.year.specs.declared.Quantity.TheVariants.{Credits, Counts}
use Rattle.year.specs.declared.Side.{Side}
use Rattle.year.specs.declared.Year.{Year}
use Rattle.rules.specs.Step.{live, applied, goes, raise_lower, over_to, over_courses, Step}
use Rattle.rules.specs.Bounds.{rule1, rule2, rule4, rule5}
use Rattle.rules.specs.Lists.{rule3_course, full, needed, rule10_course, rule10}
use Rattle.rules.specs.Spares.{rule6, rule7, rule8, rule9}
use Rattle.rules.specs.Packing.{rule11}
use Rattle.rules.specs.Neighbours.{rule12_course, rule12}
use Rattle.rules.specs.Facts.{Fact, Holds, Meets, Basis, Rests, Concludes, Suffice}
use Rattle.rules.specs.FactAt.{just, pair_at, bound_at, found_at, Right}
use Rattle.rules.specs.Reasons.{Reason, Alters, reason14, reason25, reason3, reason10_course, reason10, reason6, reason7, reason8, reason9, reason11, reason12, reason12_course}

-- ---- a reason that can be checked alone

-- what it alters is there to be altered: a looser bound, an open course; its facts hold; they suffice
pub record Explained (y : Year) (r : Reason) : Type 0 where
  pub alters : Alters y r.change
  pub held : (f : Fact) → Rests y r.basis f → Holds y f
  pub suffices : Suffice y r.basis r.change

-- the facts by place are those of the basis: what is found is one, and each is found at its place
pub record FactsFound (y : Year) (b : Basis) : Type 0 where
  pub pairs : (i k : ℕ) → i < y.courses → k < y.terms → Right y b (pair_at y b i k)
  pub bounds : (k : ℕ) (s : Side) (q : Quantity) → k < y.terms → Right y b (bound_at y b k s q)
  pub every : (f : Fact) → Rests y b f → found_at y b f ≡ just f

-- what is so at every term of every sound year
abbrev pub AtTerms : (Year → ℕ → Type 0) → Type 0
AtTerms P = (y : Year) (j : ℕ) → Sound y → j < y.terms → P y j

-- ---- a rule by its reasons

-- raising and lowering, the second seen from the year that the first left
abbrev pub InTwo : ℕ → (Year → ℕ → Step) → (Side → Year → ℕ → Reason) → Type 0
InTwo r rule why = (y : Year) (j : ℕ) → rule y j ≡ raise_lower r (λ s z k. (why s z k).change) y j

abbrev pub InOne : ℕ → (Year → ℕ → Step) → (Year → ℕ → Reason) → Type 0
InOne r rule why = (y : Year) (j : ℕ) → rule y j ≡ applied r y (why y j).change

-- ---- what is promised

pub record StepsExplained : Type 0 where
  -- every reason of every rule
  pub rules_1_4 : (q : Quantity) (s : Side) → AtTerms (λ y j. Explained y (reason14 q s y j))
  pub rules_2_5 : (q : Quantity) (s : Side) → AtTerms (λ y j. Explained y (reason25 q s y j))
  pub rule_3 : AtTerms (λ y j. (i : ℕ) → i < y.courses → Explained y (reason3 y j i))
  pub rule_6 : AtTerms (λ y j. Explained y (reason6 y j))
  pub rule_7 : AtTerms (λ y j. Explained y (reason7 y j))
  pub rule_8 : AtTerms (λ y j. Explained y (reason8 y j))
  pub rule_9 : AtTerms (λ y j. Explained y (reason9 y j))
  pub rule_10 : AtTerms (λ y j. Explained y (reason10 y j) × ((i : ℕ) → i < y.courses → Explained y (reason10_course y j i)))
  pub rule_12 : AtTerms (λ y j. Explained y (reason12 y j) × ((i : ℕ) → i < y.courses → Explained y (reason12_course y j i)))
  pub rule_11 : (y : Year) → Sound y → Explained y (reason11 y)
  -- each rule is its reasons
  pub by_1 : InTwo 1 rule1 (reason14 Credits)
  pub by_2 : InTwo 2 rule2 (reason25 Credits)
  pub by_3 : (y : Year) (j i : ℕ) → rule3_course j y i ≡ applied 3 y (reason3 y j i).change
  pub by_4 : InTwo 4 rule4 (reason14 Counts)
  pub by_5 : InTwo 5 rule5 (reason25 Counts)
  pub by_6 : InOne 6 rule6 reason6
  pub by_7 : InOne 7 rule7 reason7
  pub by_8 : InOne 8 rule8 reason8
  pub by_9 : InOne 9 rule9 reason9
  -- a no plan of the term, or its courses: what rule 10 reads once for them is what it would read anew for each
  pub by_10 : (y : Year) (j : ℕ) → let none = applied 10 y (reason10 y j).change in
      rule10 y j ≡ choose (goes none) (over_courses (rule10_course (full y j) (needed y j) j) (live y)) none
  pub by_10_course : AtTerms (λ y j. (i : ℕ) → i < y.courses
      → let rule = rule10_course (full y j) (needed y j) j in
      let z = (over_to rule (live y) i).year in
      rule z i ≡ applied 10 z (reason10_course z j i).change)
  pub by_12 : (y : Year) (j : ℕ) → let none = applied 12 y (reason12 y j).change in
      rule12 y j ≡ choose (goes none) (over_courses (rule12_course j) (live y)) none
  pub by_12_course : (y : Year) (j i : ℕ) → rule12_course j y i ≡ applied 12 y (reason12_course y j i).change
  pub by_11 : (y : Year) → rule11 y ≡ applied 11 y (reason11 y).change
  -- by place, for lists of them
  pub found : (y : Year) (b : Basis) → FactsFound y b
  -- a plan meets every fact that holds of its year, and so what follows from facts
  pub plans_meet : (y : Year) (p : Placing) → Plan y p → (f : Fact) → Holds y f → Meets y p f
  pub plans_conclude : (y : Year) (r : Reason) → Explained y r → (p : Placing) → Plan y p → Concludes y p r.change
