-- What it is to run rounds until one alters nothing, with no limit on their number in the statement; and what filtering hands back.
use Rattle.std.specs.Prelude.{ℕ, suc, Bool, false, ◌||◌, ◌↔◌, ◌≡◌}
use Rattle.year.specs.Sound.{Sound}
use Rattle.year.specs.declared.Year.{Year}
use Rattle.rules.specs.Step.{Step}
use Rattle.rules.specs.Round.{in_row, passes_of, round}
use Rattle.rules.specs.Narrower.{Narrower}
use Rattle.rules.specs.RuleNumbers.{rule_number}
use Rattle.rules.specs.declared.Rule.{Rule}
use Rattle.filter.specs.Filter.{filtered, at_rest, filter_of}
use Rattle.filter.specs.Numbers.{filter_rounds}
use Rattle.filter.specs.declared.Answer.TheVariants.{NoPlan}
use Rattle.filter.specs.declared.Filtered.{Filtered}

-- ---- rounds in a row

-- z is what n rounds make of y, in each of which no rule found "no plan" and which left another year than it was given
pub data Altering (y : Year) : ℕ → Year → Type 0 where
  none : Altering y 0 y
  one_more : {n : ℕ} {z : Year} → Altering y n z → (round z).rule ≡ 0 → ((round z).year ≡ z → ⊥) → Altering y (suc n) (round z).year

-- how a filtering of y ends, in the round after n altering ones, which left z: in that round the rule that is named finds no plan and y is
-- handed back, as it was given; or it leaves z as it is, and z is handed back. Either way that round is counted
pub data Ends (y : Year) (n : ℕ) (z : Year) : Filtered → Type 0 where
  finds_no_plan : (r : Rule) → (round z).rule ≡ rule_number r → Ends y n z (filtered (NoPlan r (suc n)) y)
  comes_to_rest : (round z).rule ≡ 0 → (round z).year ≡ z → Ends y n z (filtered (at_rest z (suc n)) z)

-- r is what rounds in a row give for y
pub record Filtering (y : Year) (r : Filtered) : Type 0 where
  pub rounds_before_last : ℕ
  pub reached : Year
  pub altering : Altering y rounds_before_last reached
  pub ends : Ends y rounds_before_last reached r

-- ---- marks

-- what the marks of a round mean, for a sound year, also where it ends in a no plan: the round is marked unaltered exactly if it leaves
-- the year it was given; after a pass the mark is the one it got or m, and m is false exactly if it leaves the year it got
pub record MarksTell : Type 0 where
  pub of_a_round : (y : Year) → Sound y → ((round y).altered ≡ false) ↔ ((round y).year ≡ y)
  pub of_a_pass : (k : ℕ) (s : Step) → Sound s.year
      → let t = in_row (passes_of k k) s in (m : Bool) × (t.altered ≡ s.altered || m) × ((m ≡ false) ↔ (t.year ≡ s.year))

-- ---- what is handed back

-- a year handed back as settled or open filters to itself in one round, with the same answer but for the count
pub record Rested (r : Filtered) : Type 0 where
  pub answer_stands : r.answer ≡ at_rest r.year (filter_rounds r.answer)
  pub filtered_again : filter_of r.year ≡ filtered (at_rest r.year 1) r.year

-- of a sound year, that year narrowed
abbrev pub FilteringNarrows : Type 0
FilteringNarrows = (y : Year) → Sound y → Narrower y (filter_of y).year
