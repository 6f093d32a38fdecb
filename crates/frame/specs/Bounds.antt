-- What a rule on bounds makes of a term, and what the code tells of it.
use Rattle.std.specs.Prelude.{ℕ, Bool, true, false, ◌||◌, List, eqb, get_or, Option, Some, None, Result, Ok, Err}
use Rattle.theory.specs.Choice.{choose}
use Rattle.year.specs.Year.{zero_term}
use Rattle.year.specs.Doors.{with_term}
use Rattle.year.specs.Sound.{TermSound}
use Rattle.year.specs.declared.Term.{Term}
use Rattle.year.specs.Bound.{Tight}
use Rattle.year.specs.declared.Year.{Year}
use Rattle.rules.specs.Step.{Step, step, live, dead}
use Rattle.rules.specs.RuleNumbers.{rule_number, rule_named}
use Rattle.rules.specs.declared.Rule.{Rule}

-- ---- entries of an array of terms

abbrev pub term_in : List Term → ℕ → Term
term_in t k = get_or t k zero_term

abbrev pub low_in : List Term → ℕ → ℕ
low_in t k = (term_in t k).low.0

abbrev pub high_in : List Term → ℕ → ℕ
high_in t k = (term_in t k).high.0

abbrev pub least_in : List Term → ℕ → ℕ
least_in t k = (term_in t k).least.0

abbrev pub most_in : List Term → ℕ → ℕ
most_in t k = (term_in t k).most.0

-- ---- an outcome

-- a term after a rule was run on its bounds
pub record Outcome : Type 0 where
  pub term : Term
  pub altered : Bool
  pub rule : ℕ

abbrev pub outcome_of : Term → Bool → ℕ → Outcome
outcome_of t a r = record { term = t; altered = a; rule = r }

-- the tighter bounds w of term t under rule r; a crossing is no plan, and so is what the rule itself calls one
unfoldable pub outcome : ℕ → Bool → Term → Tight → Outcome
outcome r fails t w = choose (fails || w.crossed) (outcome_of t false r) (outcome_of w.term w.altered 0)

-- the step that an outcome at term j of a year makes
abbrev pub put : Year → ℕ → Outcome → Step
put y j o = step (with_term y j o.term) o.altered o.rule

-- ---- an outcome as the code tells it

-- the bounds that the term gets, if they are others, or the rule that found no plan
abbrev pub told : Outcome → Result (Option Term) Rule
told o = choose (eqb o.rule 0) (Ok (choose o.altered (Some o.term) None)) (Err (rule_named o.rule))

-- the step that it makes at term j of a year
abbrev pub put_told : Year → ℕ → Result (Option Term) Rule → Step
put_told y j (Ok (Some t)) = step (with_term y j t) true 0
put_told y j (Ok None) = live y
put_told y j (Err a) = dead (rule_number a) y

-- bounds that it has for the term are within the sizes
abbrev pub Fits : Result (Option Term) Rule → Type 0
Fits (Ok (Some t)) = TermSound t
Fits (Ok None) = Unit {0}
Fits (Err a) = Unit {0}
