-- The twelve rules by name, and the numbers that steps tell them by.
use Rattle.std.specs.Prelude.{ℕ, eqb}
use Rattle.theory.specs.Choice.{choose}
use Rattle.rules.specs.declared.Rule.{Rule}
use Rattle.rules.specs.declared.Rule.TheVariants.{OwnCredits, OtherCredits, CourseCredits, OwnCounts, OtherCounts, LeastCount}
use Rattle.rules.specs.declared.Rule.TheVariants.{MostCount, LeastLoad, MostLoad, CourseCounts, Packing, Neighbours}

abbrev pub rule_number : Rule → ℕ
rule_number OwnCredits = 1
rule_number OtherCredits = 2
rule_number CourseCredits = 3
rule_number OwnCounts = 4
rule_number OtherCounts = 5
rule_number LeastCount = 6
rule_number MostCount = 7
rule_number LeastLoad = 8
rule_number MostLoad = 9
rule_number CourseCounts = 10
rule_number Packing = 11
rule_number Neighbours = 12

-- the rule of a number from 1 to 12; of any other, the last
unfoldable pub rule_named : ℕ → Rule
rule_named n =
    choose (eqb n 1) OwnCredits
    (choose (eqb n 2) OtherCredits
    (choose (eqb n 3) CourseCredits
    (choose (eqb n 4) OwnCounts
    (choose (eqb n 5) OtherCounts
    (choose (eqb n 6) LeastCount
    (choose (eqb n 7) MostCount
    (choose (eqb n 8) LeastLoad
    (choose (eqb n 9) MostLoad
    (choose (eqb n 10) CourseCounts
    (choose (eqb n 11) Packing Neighbours))))))))))
