-- The paper's numbers: those given back, for each case of the answer, with the list it speaks of (a number that an answer does not name
-- is 0); and those of the editions.
use Rattle.std.specs.Prelude.{ℕ, Result, Ok, Err}
use Rattle.year.specs.declared.Year.{Year}
use Rattle.records.specs.Numbers.{fault_number}
use Rattle.hours.specs.declared.Edition.{Edition}
use Rattle.hours.specs.declared.Edition.TheVariants.{First, Second}
use Rattle.hours.specs.declared.JoiningRefusal.{JoiningRefusal}
use Rattle.hours.specs.declared.JoiningRefusal.TheVariants.{InTerms, InHours}

abbrev pub joining_number : Result Year JoiningRefusal → ℕ
joining_number (Ok y) = 0
joining_number (Err (InTerms r)) = fault_number r.fault
joining_number (Err (InHours r)) = fault_number r.fault

-- the list at fault: 1 the terms', 2 the hours list
abbrev pub joining_list : Result Year JoiningRefusal → ℕ
joining_list (Ok y) = 0
joining_list (Err (InTerms r)) = 1
joining_list (Err (InHours r)) = 2

-- the place of the refused record in that list
abbrev pub joining_place : Result Year JoiningRefusal → ℕ
joining_place (Ok y) = 0
joining_place (Err (InTerms r)) = r.record
joining_place (Err (InHours r)) = r.record

-- an edition of the handbook, as a record names it
abbrev pub edition_number : Edition → ℕ
edition_number First = 1
edition_number Second = 2
