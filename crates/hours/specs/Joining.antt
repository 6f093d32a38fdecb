-- Joining: first the whole list of terms, as reading does; then the hours list, record by record behind those terms.
use Rattle.std.specs.Prelude.{ℕ, ◌*◌, ◌/◌, ◌%◌, Bool, not, ◌||◌, List, Result, Ok, Err, eqb, ltb, length}
use Rattle.theory.specs.Choice.{choose}
use Rattle.year.specs.Doors.{empty_year}
use Rattle.year.specs.declared.Year.{Year}
use Rattle.records.specs.Reading.{Record, of_term, of_course, blank_year, refused, gathered, bad_length, summed}
use Rattle.records.specs.declared.Fault.TheVariants as fault
use Rattle.records.specs.declared.Refusal.{Refusal}
use Rattle.hours.specs.declared.JoiningRefusal.{JoiningRefusal}
use Rattle.hours.specs.declared.JoiningRefusal.TheVariants.{InTerms, InHours}
use Rattle.hours.specs.declared.Joined.{Joined}
use Rattle.hours.specs.Entries.{hours_record, term_alone}

-- ---- the list of terms

-- record k behind the year so far
abbrev pub term_entry : List ℕ → ℕ → Year → Record
term_entry s k y = of_term (term_alone s (k * 16) y.terms)

-- its year has no course, so that the sums it has from the start, 0, are right
unfoldable pub term_list : List ℕ → Result Year Refusal
term_list s = choose (bad_length (length s)) (refused fault.Length 0) (gathered (term_entry s) blank_year (length s / 16))

-- ---- the hours list

abbrev pub hours_entry : List ℕ → ℕ → Year → Record
hours_entry s k y = of_course (hours_record s (k * 16) y.courses y.terms)

-- refusal 1; an hours list may be empty
abbrev pub bad_hours : ℕ → Bool
bad_hours n = ltb 1024 n || not (eqb (n % 16) 0)

-- the list behind the year of the terms, with the sums
unfoldable pub hours_list : Year → List ℕ → Result Year Refusal
hours_list y s = summed (choose (bad_hours (length s)) (refused fault.Length 0) (gathered (hours_entry s) y (length s / 16)))

-- ---- both

-- an answer of the hours list
abbrev pub in_hours : Result Year Refusal → Result Year JoiningRefusal
in_hours (Ok y) = Ok y
in_hours (Err r) = Err (InHours r)

abbrev pub with_hours : Year → List ℕ → Result Year JoiningRefusal
with_hours y s = in_hours (hours_list y s)

-- a refusal of the terms stays, otherwise the hours follow
abbrev pub behind_terms : Result Year Refusal → List ℕ → Result Year JoiningRefusal
behind_terms (Ok y) s = with_hours y s
behind_terms (Err r) s = Err (InTerms r)

-- the terms' list and the hours list
unfoldable pub join_of : List ℕ → List ℕ → Result Year JoiningRefusal
join_of t h = behind_terms (term_list t) h

-- what `join` gives back of a joining: its year, or its refusal and beside it the empty year
abbrev pub given_back : Result Year JoiningRefusal → Joined
given_back (Ok y) = record { answer = Ok tt; year = y }
given_back (Err r) = record { answer = Err r; year = empty_year }

-- the year that `join` gives back: what is said of it is said of the code
abbrev pub year_joined : Result Year JoiningRefusal → Year
year_joined r = (given_back r).year
