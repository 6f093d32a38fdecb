-- The paper's numbers for a filtering's answer. A number that an answer does not name is 0.
use Rattle.std.specs.Prelude.{ℕ, Bool, true, false}
use Rattle.rules.specs.RuleNumbers.{rule_number}
use Rattle.filter.specs.declared.Answer.{Answer}
use Rattle.filter.specs.declared.Answer.TheVariants.{Settled, Open, NoPlan, Unsound}

abbrev pub filter_number : Answer → ℕ
filter_number (Settled n) = 0
filter_number (Open n) = 0
filter_number (NoPlan r n) = 13
filter_number Unsound = 8

-- the rounds; of a no plan, the round that found it
abbrev pub filter_rounds : Answer → ℕ
filter_rounds (Settled n) = n
filter_rounds (Open n) = n
filter_rounds (NoPlan r n) = n
filter_rounds Unsound = 0

abbrev pub filter_rule : Answer → ℕ
filter_rule (Settled n) = 0
filter_rule (Open n) = 0
filter_rule (NoPlan r n) = rule_number r
filter_rule Unsound = 0

abbrev pub is_settled : Answer → Bool
is_settled (Settled n) = true
is_settled (Open n) = false
is_settled (NoPlan r n) = false
is_settled Unsound = false
