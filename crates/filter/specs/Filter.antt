-- Filtering repeats rounds until one alters nothing; that last round is counted.
use Rattle.std.specs.Prelude.{ℕ, zero, suc, ◌+◌, true, false, eqb}
use Rattle.theory.specs.Choice.{choose}
use Rattle.year.specs.Sound.{is_sound}
use Rattle.year.specs.Sums.{all_placed}
use Rattle.year.specs.declared.Year.{Year}
use Rattle.rules.specs.Round.{round}
use Rattle.rules.specs.RuleNumbers.{rule_named}
use Rattle.filter.specs.declared.Answer.{Answer}
use Rattle.filter.specs.declared.Answer.TheVariants.{Settled, Open, NoPlan, Unsound}
use Rattle.filter.specs.declared.Filtered.{Filtered}

abbrev pub filtered : Answer → Year → Filtered
filtered a y = record { answer = a; year = y }

-- at rest after n rounds: settled if every course has one term, otherwise open
abbrev pub at_rest : Year → ℕ → Answer
at_rest z n = choose (all_placed z) (Settled n) (Open n)

-- y is the year that was given, z the year after n rounds. The first number only makes the recursion end: it never runs out
unfoldable pub rounds_from : ℕ → Year → Year → ℕ → Filtered
rounds_from zero y z n = filtered (Open n) z
rounds_from (suc k) y z n =
    elim (eqb (round z).rule 0) [
      | false ↦ filtered (NoPlan (rule_named (round z).rule) (n + 1)) y
      | true ↦
          elim (round z).altered [
            | true ↦ rounds_from k y (round z).year (n + 1)
            | false ↦ filtered (at_rest (round z).year (n + 1)) (round z).year
          ]
    ]

unfoldable pub filter_of : Year → Filtered
filter_of y = choose (is_sound y) (rounds_from 1025985 y y 0) (filtered Unsound y)
