-- Inner: all that a filtering is computed by, under one name. `unfolding computing` lets a closed filtering compute.
use Rattle.year.specs.Computing.{computing as computingYear}
use Rattle.rules.specs.Computing.{computing as computingRound}
use Rattle.rules.specs.RuleNumbers.{rule_named}
use Rattle.filter.specs.Filter.{rounds_from, filter_of}

unfoldable pub computing : Unit {0}
unfolding computingYear computingRound rounds_from filter_of rule_named
computing = tt
