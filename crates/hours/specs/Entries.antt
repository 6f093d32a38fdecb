-- One record: of an hours list, with its weight by the edition of the handbook and its faults in the paper's order; of a list of terms
-- alone.
use Rattle.std.specs.Prelude.{ℕ, ◌+◌, ◌/◌, ◌&&◌, List, Result, Err, eqb}
use Rattle.theory.specs.Choice.{choose}
use Rattle.records.specs.Bytes.{letter_at, byte_at, word_at, blank_from}
use Rattle.records.specs.Reading.{bears_next, course_by, term_record}
use Rattle.year.specs.declared.Term.{Term}
use Rattle.year.specs.declared.Course.{Course}
use Rattle.records.specs.declared.Fault.{Fault}
use Rattle.records.specs.declared.Fault.TheVariants as fault
use Rattle.hours.specs.Numbers.{edition_number}
use Rattle.hours.specs.declared.Edition.{Edition}
use Rattle.hours.specs.declared.Edition.TheVariants.{First, Second}

-- ---- a record of an hours list

-- lecture hours plus half the laboratory hours, rounded down in edition 1 and up in edition 2
abbrev pub weight_by : Edition → ℕ → ℕ → ℕ
weight_by First lecture laboratory = lecture + laboratory / 2
weight_by Second lecture laboratory = lecture + (laboratory + 1) / 2

-- the record at a place as a course, weighed by an edition, in a year of that many terms; byte 3 and those from byte 10 on must be zero
abbrev pub weighed : Edition → List ℕ → ℕ → ℕ → Result Course Fault
weighed e s at terms =
    course_by (weight_by e (word_at s at 4) (word_at s at 6)) (word_at s at 8) (eqb (byte_at s at 3) 0 && blank_from s at 10) terms

-- the record by itself, its letter and its number set aside; an edition that is neither of the two is refused by 4
unfoldable pub hours_by_itself : List ℕ → ℕ → ℕ → Result Course Fault
hours_by_itself s at terms =
    choose (eqb (byte_at s at 2) (edition_number First)) (weighed First s at terms)
    (choose (eqb (byte_at s at 2) (edition_number Second)) (weighed Second s at terms)
    (Err fault.Size))

-- the record as course `next`; refusal 2: a letter other than H
unfoldable pub hours_record : List ℕ → ℕ → ℕ → ℕ → Result Course Fault
hours_record s at next terms =
    choose (eqb (letter_at s at) 72)
    (choose (bears_next s at next 64) (hours_by_itself s at terms) (Err fault.Number))
    (Err fault.Letter)

-- ---- a record of a list of terms alone

-- the record as term `next`; refusal 2: any record that is no term record
unfoldable pub term_alone : List ℕ → ℕ → ℕ → Result Term Fault
term_alone s at next = choose (eqb (letter_at s at) 84) (term_record s at next) (Err fault.Letter)
