-- What an answer tells, and how it is packed into one number: number + 256 * detail + 65,536 * value.
use Rattle.std.specs.Prelude.{ℕ, ◌+◌, ◌*◌, ◌/◌, ◌%◌, Result, Err}
use Rattle.year.specs.declared.Year.{Year}
use Rattle.year.specs.declared.NarrowingRefusal.{NarrowingRefusal}
use Rattle.year.specs.declared.ImbalanceRefusal.{ImbalanceRefusal}
use Rattle.year.specs.Numbers.{narrowing_number, imbalance_number, imbalance_value}
use Rattle.records.specs.declared.Refusal.{Refusal}
use Rattle.records.specs.declared.WritingRefusal.TheVariants.{Short}
use Rattle.records.specs.Numbers.{reading_number, reading_place, writing_number}
use Rattle.hours.specs.declared.JoiningRefusal.{JoiningRefusal}
use Rattle.hours.specs.Numbers.{joining_number, joining_list, joining_place}
use Rattle.rules.specs.RuleNumbers.{rule_number}
use Rattle.filter.specs.declared.Answer.{Answer}
use Rattle.filter.specs.declared.Answer.TheVariants.{Settled, Open, NoPlan, Unsound}
use Rattle.filter.specs.Numbers.{filter_number, filter_rounds}

-- ---- three numbers in one

-- the paper's number, a detail and a value; whatever an answer does not name is 0
pub record Told : Type 0 where
  pub number : ℕ
  pub detail : ℕ
  pub value : ℕ

abbrev pub told : ℕ → ℕ → ℕ → Told
told n d v = record { number = n; detail = d; value = v }

abbrev pub packed : Told → ℕ
packed t = t.number + t.detail * 256 + t.value * 65536

-- taken apart again
abbrev pub apart : ℕ → Told
apart c = told (c % 256) (c / 256 % 256) (c / 65536)

-- ---- what each answer tells, by the numbers of its own definition

-- value: the place of the refused record
abbrev pub reading_told : Result Year Refusal → Told
reading_told a = told (reading_number a) 0 (reading_place a)

-- detail: 1 where the terms' list is at fault, 2 where the hours list is; value: the place of the refused record in it
abbrev pub joining_told : Result Year JoiningRefusal → Told
joining_told a = told (joining_number a) (joining_list a) (joining_place a)

-- the buffer is shorter than the list, which is as long as the records to be written
abbrev pub short_told : Told
short_told = told (writing_number (Err Short)) 0 0

abbrev pub narrowing_told : Result (Unit {0}) NarrowingRefusal → Told
narrowing_told a = told (narrowing_number a) 0 0

-- value: the imbalance
abbrev pub measured_told : Result ℕ ImbalanceRefusal → Told
measured_told m = told (imbalance_number m) 0 (imbalance_value m)

-- 1 settled, 2 open, of a no plan the rule
abbrev pub answer_detail : Answer → ℕ
answer_detail (Settled n) = 1
answer_detail (Open n) = 2
answer_detail (NoPlan r n) = rule_number r
answer_detail Unsound = 0

-- value: the rounds, of a no plan the round
abbrev pub answer_told : Answer → Told
answer_told a = told (filter_number a) (answer_detail a) (filter_rounds a)
