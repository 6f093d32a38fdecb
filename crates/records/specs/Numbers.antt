-- The paper's numbers given back, for each case of each answer. A number that an answer does not name is 0.
use Rattle.std.specs.Prelude.{ℕ, Result, Ok, Err}
use Rattle.year.specs.declared.Year.{Year}
use Rattle.records.specs.declared.Fault.{Fault}
use Rattle.records.specs.declared.Fault.TheVariants as fault
use Rattle.records.specs.declared.Refusal.{Refusal}
use Rattle.records.specs.declared.WritingRefusal.{WritingRefusal}
use Rattle.records.specs.declared.WritingRefusal.TheVariants.{Unsound, Short}

abbrev pub fault_number : Fault → ℕ
fault_number fault.Length = 1
fault_number fault.Letter = 2
fault_number fault.Number = 3
fault_number fault.Size = 4
fault_number fault.Order = 5
fault_number fault.List = 6
fault_number fault.Padding = 7

abbrev pub reading_number : Result Year Refusal → ℕ
reading_number (Ok y) = 0
reading_number (Err r) = fault_number r.fault

-- the place of the refused record
abbrev pub reading_place : Result Year Refusal → ℕ
reading_place (Ok y) = 0
reading_place (Err r) = r.record

abbrev pub writing_number : Result (Unit {0}) WritingRefusal → ℕ
writing_number (Ok done) = 0
writing_number (Err Unsound) = 8
writing_number (Err Short) = 9
