-- Inner: a round in two halves, rules 1 to 5, which read no order of the courses, and the others.
use Rattle.year.specs.declared.Year.{Year}
use Rattle.rules.specs.Step.{live, Step}
use Rattle.rules.specs.Round.{in_row, passes_of, passes_from}

unfoldable pub first_half : Year → Step
first_half y = in_row (passes_of 1 5) (live y)

unfoldable pub second_half : Step → Step
second_half p = in_row (passes_from 6) p
