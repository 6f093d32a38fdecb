-- One round: rules 1 to 10 in order, then 12, then 11. All but rule 11 go over terms 0, 1, 2 and so on, rule 11 once for the year.
use Rattle.std.specs.Prelude.{ℕ, ◌+◌, ◌-◌, List, [], ◌∷◌, take, drop}
use Rattle.year.specs.declared.Year.{Year}
use Rattle.rules.specs.Step.{live, next, over_terms, Step}
use Rattle.rules.specs.Bounds.{rule1, rule2, rule4, rule5}
use Rattle.rules.specs.Lists.{rule3, rule10}
use Rattle.rules.specs.Spares.{rule6, rule7, rule8, rule9}
use Rattle.rules.specs.Packing.{rule11}
use Rattle.rules.specs.Neighbours.{rule12}

-- a rule for the year, once
abbrev pub once : (Year → Step) → Step → Step
once rule s = next (λ y k. rule y) s 0

-- the passes of a round, in the order of document 01, with rule 12 between rules 10 and 11
abbrev pub passes : List (Step → Step)
passes =
    over_terms rule1
    ∷ over_terms rule2
    ∷ over_terms rule3
    ∷ over_terms rule4
    ∷ over_terms rule5
    ∷ over_terms rule6
    ∷ over_terms rule7
    ∷ over_terms rule8
    ∷ over_terms rule9
    ∷ over_terms rule10
    ∷ over_terms rule12
    ∷ once rule11
    ∷ []

-- passes one after another
abbrev pub in_row : List (Step → Step) → Step → Step
in_row [] s = s
in_row (p ∷ ps) s = in_row ps (p s)

-- the passes at places a to b of the round, and those from place a on
abbrev pub passes_of : ℕ → ℕ → List (Step → Step)
passes_of a b = take (b + 1 - a) (drop (a - 1) passes)

abbrev pub passes_from : ℕ → List (Step → Step)
passes_from a = drop (a - 1) passes

unfoldable pub round : Year → Step
round y = in_row passes (live y)
