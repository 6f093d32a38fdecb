-- Reading: one record with its faults in the paper's order, and the list record by record up to its first fault.
use Rattle.std.specs.Prelude.{ℕ, zero, suc, ◌+◌, ◌*◌, ◌/◌, ◌%◌, ◌^◌, Bool, not, ◌&&◌, ◌||◌, List, Result, Ok, Err, eqb, leb, ltb, length, replicate, set}
use Rattle.theory.specs.Choice.{choose}
use Rattle.year.specs.Year.{term_of, course_of, zero_term}
use Rattle.year.specs.Sums.{no_sums}
use Rattle.year.specs.Doors.{empty_year, with_sums}
use Rattle.year.specs.declared.Term.{Term}
use Rattle.year.specs.declared.Course.{Course}
use Rattle.year.specs.declared.Year.{Year}
use Rattle.records.specs.declared.Fault.{Fault}
use Rattle.records.specs.declared.Fault.TheVariants as fault
use Rattle.records.specs.declared.Refusal.{Refusal}
use Rattle.records.specs.declared.Received.{Received}
use Rattle.records.specs.Bytes.{letter_at, byte_at, word_at, blank_from}

-- ---- one record

-- it bears the next number of its kind, and the largest year has room for it; otherwise refusal 3
abbrev pub bears_next : List ℕ → ℕ → ℕ → ℕ → Bool
bears_next s at next most = eqb (byte_at s at 1) next && ltb next most

-- refusals 4 and 5 of a term
abbrev pub bad_bounds : List ℕ → ℕ → Bool
bad_bounds s at = ltb 64000 (word_at s at 2) || ltb 64000 (word_at s at 4) || ltb 64 (word_at s at 6) || ltb 64 (word_at s at 8)

abbrev pub bad_order : List ℕ → ℕ → Bool
bad_order s at = ltb (word_at s at 4) (word_at s at 2) || ltb (word_at s at 8) (word_at s at 6)

-- refusals 4 and 6 of a course, by its weight, and by its list in a year of that many terms
abbrev pub bad_weight : ℕ → Bool
bad_weight w = ltb w 1 || ltb 1000 w

abbrev pub bad_list : ℕ → ℕ → Bool
bad_list l terms = eqb l 0 || not (eqb (l / 2 ^ terms) 0)

-- a term's record by itself, its letter and its number set aside: refusals 4, 5 and 7, or the term
unfoldable pub term_by_itself : List ℕ → ℕ → Result Term Fault
term_by_itself s at =
    choose (bad_bounds s at) (Err fault.Size)
    (choose (bad_order s at) (Err fault.Order)
    (choose (blank_from s at 10) (Ok (term_of (word_at s at 2) (word_at s at 4) (word_at s at 6) (word_at s at 8)))
    (Err fault.Padding)))

-- a course of a weight and a list, from a record whose other bytes are zero or not: refusals 4, 6 and 7, or the course
unfoldable pub course_by : ℕ → ℕ → Bool → ℕ → Result Course Fault
course_by w l zeros terms =
    choose (bad_weight w) (Err fault.Size)
    (choose (bad_list l terms) (Err fault.List)
    (choose zeros (Ok (course_of w l))
    (Err fault.Padding)))

-- a course's record by itself, its letter and its number set aside, in a year of that many terms
abbrev pub course_by_itself : List ℕ → ℕ → ℕ → Result Course Fault
course_by_itself s at terms = course_by (word_at s at 2) (word_at s at 4) (blank_from s at 6) terms

-- a term's record behind its letter, as term `next`
unfoldable pub term_record : List ℕ → ℕ → ℕ → Result Term Fault
term_record s at next = choose (bears_next s at next 16) (term_by_itself s at) (Err fault.Number)

-- a course's record behind its letter, as course `next` of a year of that many terms
unfoldable pub course_record : List ℕ → ℕ → ℕ → ℕ → Result Course Fault
course_record s at next terms = choose (bears_next s at next 64) (course_by_itself s at terms) (Err fault.Number)

-- what one record of a list holds
pub data Record : Type 0 where
  OfTerm : Term → Record
  OfCourse : Course → Record
  Faulty : Fault → Record

abbrev pub of_term : Result Term Fault → Record
of_term (Ok t) = OfTerm t
of_term (Err f) = Faulty f

abbrev pub of_course : Result Course Fault → Record
of_course (Ok c) = OfCourse c
of_course (Err f) = Faulty f

-- the record at a place, behind that many terms and courses; refusal 2: no letter, a term behind a course, a course before any term
unfoldable pub record_at : List ℕ → ℕ → ℕ → ℕ → Record
record_at s at terms courses =
    choose (eqb (letter_at s at) 84 && eqb courses 0) (of_term (term_record s at terms))
    (choose (eqb (letter_at s at) 67 && leb 1 terms) (of_course (course_record s at courses terms)) (Faulty fault.Letter))

-- ---- the list

-- no term yet, no course; the sums are filled in at the end
abbrev pub blank_year : Year
blank_year = record {
  terms = 0;
  courses = 0;
  term = replicate 16 zero_term;
  weight = replicate 64 0;
  list = replicate 64 0;
  sums = replicate 16 no_sums;
}

-- one term more, one course more
abbrev pub add_term : Year → Term → Year
add_term y t = record {
  terms = y.terms + 1;
  courses = y.courses;
  term = set y.term y.terms t;
  weight = y.weight;
  list = y.list;
  sums = y.sums;
}

abbrev pub add_course : Year → Course → Year
add_course y c = record {
  terms = y.terms;
  courses = y.courses + 1;
  term = y.term;
  weight = set y.weight y.courses c.weight.0;
  list = set y.list y.courses c.list;
  sums = y.sums;
}

abbrev pub done : Year → Result Year Refusal
done y = Ok y

-- record k has the fault
abbrev pub refusal : Fault → ℕ → Refusal
refusal f k = record { fault = f; «record» = k }

abbrev pub refused : Fault → ℕ → Result Year Refusal
refused f k = Err (refusal f k)

-- the year with what record k holds, or the refusal
abbrev pub taken : Year → ℕ → Record → Result Year Refusal
taken y k (OfTerm t) = done (add_term y t)
taken y k (OfCourse c) = done (add_course y c)
taken y k (Faulty f) = refused f k

-- a refusal stays; a year goes on to what comes next
abbrev pub onward : Result Year Refusal → (Year → Result Year Refusal) → Result Year Refusal
onward (Ok y) next = next y
onward (Err r) next = Err r

-- the first k records of a list taken into a year one by one; `entry i` says what record i is, behind the year so far
unfoldable pub gathered : (ℕ → Year → Record) → Year → ℕ → Result Year Refusal
gathered entry y zero = done y
gathered entry y (suc k) = onward (gathered entry y k) (λ z. taken z k (entry k z))

-- record k of a list of terms and courses
abbrev pub record_in : List ℕ → ℕ → Year → Record
record_in s k y = record_at s (k * 16) y.terms y.courses

abbrev pub read_to : List ℕ → ℕ → Result Year Refusal
read_to s = gathered (record_in s) blank_year

-- refusal 1
abbrev pub bad_length : ℕ → Bool
bad_length n = eqb n 0 || ltb 1280 n || not (eqb (n % 16) 0)

-- what is handed back, with the sums of its year
abbrev pub summed : Result Year Refusal → Result Year Refusal
summed r = onward r (λ y. done (with_sums y))

unfoldable pub read_list : List ℕ → Result Year Refusal
read_list s = summed (choose (bad_length (length s)) (refused fault.Length 0) (read_to s (length s / 16)))

-- what `read` hands back of a reading: its year, or its refusal and beside it the empty year
abbrev pub received : Result Year Refusal → Received
received (Ok y) = record { answer = Ok tt; year = y }
received (Err r) = record { answer = Err r; year = empty_year }

-- the year that `read` hands back: what is said of it is said of the code
abbrev pub year_read : Result Year Refusal → Year
year_read r = (received r).year
