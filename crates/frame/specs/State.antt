-- A state of the code as a step of the rules, and what a call left of it with what the call answered.
use Rattle.std.specs.Prelude.{Result, Ok, Err}
use Rattle.year.specs.declared.Year.{Year}
use Rattle.rules.specs.Step.{Step, step}
use Rattle.rules.specs.RuleNumbers.{rule_number}
use Rattle.rules.specs.declared.Rule.{Rule}
use Rattle.frame.specs.declared.State.{State}

-- the year in a state
abbrev pub year_in : State → Year
year_in s = record { terms = s.terms; courses = s.courses; term = s.term; weight = s.weight.now; list = s.list; sums = s.sums }

-- the step in hand, which goes on
abbrev pub step_in : State → Step
step_in s = step (year_in s) s.altered 0

-- the step that a call left: it goes on at `Ok`, and at `Err` that rule found no plan
abbrev pub step_of : State → Result (Unit {0}) Rule → Step
step_of s (Ok u) = step (year_in s) s.altered 0
step_of s (Err a) = step (year_in s) s.altered (rule_number a)
