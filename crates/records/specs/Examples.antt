-- Closed examples, by computation: year E whole, each limit at its last good value and one past it, each refusal with its place,
-- and which of two faults is told.
use Rattle.std.specs.Prelude.{ℕ, ◌-◌, ◌/◌, ◌%◌, List, [], ◌∷◌, ◌++◌, ◌≡◌, refl, Ok, Err, length, replicate}
use Rattle.year.specs.Year.{course_of}
use Rattle.year.specs.Doors.{empty_year}
use Rattle.year.specs.Sums.{no_sums}
use Rattle.year.specs.declared.Year.{Year}
use Rattle.year.specs.Computing.{computing as computingYear}
use Rattle.year.specs.Examples.{year_e}
use Rattle.records.specs.declared.Fault.TheVariants as fault
use Rattle.records.specs.declared.WritingRefusal.TheVariants.{Unsound, Short}
use Rattle.records.specs.Numbers.{reading_number, reading_place}
use Rattle.records.specs.Reading.{OfCourse, Faulty, record_at, blank_year, done, read_list, year_read}
use Rattle.records.specs.Writing.{joined, records_of, write_answer, written}
use Rattle.records.specs.Computing.{computing}

-- ---- lists

-- the bytes given, with zeros behind them up to sixteen
abbrev pub padded : List ℕ → List ℕ
padded l = l ++ replicate (16 - length l) 0

-- term 0 with its four bounds
abbrev pub first_term : ℕ → ℕ → ℕ → ℕ → List ℕ
first_term low high least most =
    padded (84 ∷ 0 ∷ low / 256 ∷ low % 256 ∷ high / 256 ∷ high % 256 ∷ least / 256 ∷ least % 256 ∷ most / 256 ∷ most % 256 ∷ [])

-- a term with no bounds but 0, and a course of weight w that lists term 0
abbrev pub plain_term : ℕ → List ℕ
plain_term n = padded (84 ∷ n ∷ [])

abbrev pub plain_course : ℕ → ℕ → List ℕ
plain_course n w = padded (67 ∷ n ∷ w / 256 ∷ w % 256 ∷ 0 ∷ 1 ∷ [])

-- the number and the place of an answer
abbrev told : List ℕ → ℕ × ℕ
told s = (reading_number (read_list s), reading_place (read_list s))

-- ---- year E

abbrev pub bytes_e : List ℕ
bytes_e =
    padded (84 ∷ 0 ∷ 0 ∷ 0 ∷ 0 ∷ 4 ∷ 0 ∷ 0 ∷ 0 ∷ 3 ∷ [])
    ++ padded (84 ∷ 1 ∷ 0 ∷ 0 ∷ 0 ∷ 6 ∷ 0 ∷ 0 ∷ 0 ∷ 3 ∷ [])
    ++ padded (67 ∷ 0 ∷ 0 ∷ 4 ∷ 0 ∷ 3 ∷ [])
    ++ padded (67 ∷ 1 ∷ 0 ∷ 3 ∷ 0 ∷ 3 ∷ [])
    ++ padded (67 ∷ 2 ∷ 0 ∷ 2 ∷ 0 ∷ 3 ∷ [])

-- what is read carries its sums, as year E does
pub year_e_read : read_list bytes_e ≡ done year_e
unfolding computing
year_e_read = refl

pub year_e_records : records_of year_e ≡ bytes_e
unfolding records_of joined
year_e_records = refl

-- five records want 80 bytes; the byte behind them stays
pub year_e_written : (write_answer year_e 79 ≡ Err Short) × (write_answer year_e 80 ≡ Ok tt)
    × (written year_e (replicate 81 7) ≡ bytes_e ++ 7 ∷ [])
unfolding write_answer written records_of joined computingYear
year_e_written = (refl, refl, refl)

-- a year that is not sound, and a buffer that is short, leave the buffer as it was
pub unwritten : (write_answer blank_year 0 ≡ Err Unsound)
    × (written blank_year (7 ∷ []) ≡ 7 ∷ [])
    × (written year_e (replicate 79 7) ≡ replicate 79 7)
unfolding write_answer written records_of joined computingYear
unwritten = (refl, refl, refl)

-- year E whose sums were left 0 has the same records, and is refused by 8
abbrev unsummed_e : Year
unsummed_e = record {
  terms = year_e.terms;
  courses = year_e.courses;
  term = year_e.term;
  weight = year_e.weight;
  list = year_e.list;
  sums = replicate 16 no_sums;
}

pub unsummed_unwritten : (records_of unsummed_e ≡ bytes_e)
    × (write_answer unsummed_e 80 ≡ Err Unsound)
    × (written unsummed_e (replicate 81 7) ≡ replicate 81 7)
unfolding write_answer written records_of joined computingYear
unsummed_unwritten = (refl, refl, refl)

-- ---- each limit, at its last good value and one past it

-- a weight of 1 to 1,000
pub weights : (told (plain_term 0 ++ plain_course 0 0) ≡ (4, 1))
    × (told (plain_term 0 ++ plain_course 0 1) ≡ (0, 0))
    × (told (plain_term 0 ++ plain_course 0 1000) ≡ (0, 0))
    × (told (plain_term 0 ++ plain_course 0 1001) ≡ (4, 1))
unfolding computing
weights = (refl, refl, refl, refl)

-- credits of up to 64,000, low and high
pub credits : (told (first_term 64000 64000 0 0) ≡ (0, 0))
    × (told (first_term 0 64001 0 0) ≡ (4, 0))
    × (told (first_term 64001 64000 0 0) ≡ (4, 0))
unfolding computing
credits = (refl, refl, refl)

-- a count of up to 64, low and high
pub counts : (told (first_term 0 0 64 64) ≡ (0, 0)) × (told (first_term 0 0 0 65) ≡ (4, 0)) × (told (first_term 0 0 65 64) ≡ (4, 0))
unfolding computing
counts = (refl, refl, refl)

-- a low bound of up to its high bound, of credits and of counts
pub orders : (told (first_term 7 7 2 2) ≡ (0, 0)) × (told (first_term 8 7 2 2) ≡ (5, 0)) × (told (first_term 7 7 3 2) ≡ (5, 0))
unfolding computing
orders = (refl, refl, refl)

-- sixteen terms
pub terms : (told (joined plain_term 16) ≡ (0, 0)) × (told (joined plain_term 17) ≡ (3, 16))
unfolding computing joined
terms = (refl, refl)

-- 64 courses: the last behind 63, and one more behind 64
pub courses : (record_at (plain_course 63 1) 0 1 63 ≡ OfCourse (course_of 1 1))
    × (record_at (plain_course 64 1) 0 1 64 ≡ Faulty fault.Number)
unfolding computing
courses = (refl, refl)

-- lists of the year's terms: all sixteen of sixteen, but not of fifteen; of one term, none and another
pub term_lists : (told (joined plain_term 16 ++ padded (67 ∷ 0 ∷ 0 ∷ 1 ∷ 255 ∷ 255 ∷ [])) ≡ (0, 0))
    × (told (joined plain_term 15 ++ padded (67 ∷ 0 ∷ 0 ∷ 1 ∷ 255 ∷ 255 ∷ [])) ≡ (6, 15))
    × (told (plain_term 0 ++ padded (67 ∷ 0 ∷ 0 ∷ 1 ∷ [])) ≡ (6, 1))
    × (told (plain_term 0 ++ padded (67 ∷ 0 ∷ 0 ∷ 1 ∷ 0 ∷ 2 ∷ [])) ≡ (6, 1))
unfolding computing joined
term_lists = (refl, refl, refl, refl)

-- 1,280 bytes: as many zeros are refused by their letter, and one record more by the length
pub longest : (told (replicate 1280 0) ≡ (2, 0)) × (told (replicate 1296 0) ≡ (1, 0))
unfolding computing
longest = (refl, refl)

-- ---- each refusal

-- 1: empty, no multiple of 16; the year handed back
pub lengths : (told [] ≡ (1, 0)) × (told (replicate 15 0) ≡ (1, 0)) × (year_read (read_list []) ≡ empty_year)
unfolding computing
lengths = (refl, refl, refl)

-- 2: no letter, a course first, a term behind a course
pub letters : (told (replicate 16 0) ≡ (2, 0))
    × (told (plain_course 0 1) ≡ (2, 0))
    × (told (plain_term 0 ++ plain_course 0 1 ++ plain_term 1) ≡ (2, 2))
unfolding computing
letters = (refl, refl, refl)

-- 3: not the next of its kind
pub numbers : (told (plain_term 1) ≡ (3, 0)) × (told (plain_term 0 ++ plain_course 1 1) ≡ (3, 1))
unfolding computing
numbers = (refl, refl)

-- 7: the first and the last byte that must be zero, of a term and of a course
pub zeros : (told (84 ∷ replicate 9 0 ++ 1 ∷ replicate 5 0) ≡ (7, 0))
    × (told (84 ∷ replicate 14 0 ++ 1 ∷ []) ≡ (7, 0))
    × (told (plain_term 0 ++ padded (67 ∷ 0 ∷ 0 ∷ 1 ∷ 0 ∷ 1 ∷ 1 ∷ [])) ≡ (7, 1))
    × (told (plain_term 0 ++ 67 ∷ 0 ∷ 0 ∷ 1 ∷ 0 ∷ 1 ∷ replicate 9 0 ++ 1 ∷ []) ≡ (7, 1))
unfolding computing
zeros = (refl, refl, refl, refl)

-- ---- two faults at once

-- within a record the lower number: a count too large beside crossed credits; a weight of 0 beside an empty list
pub within : (told (first_term 1 0 0 65) ≡ (4, 0)) × (told (plain_term 0 ++ padded (67 ∷ 0 ∷ [])) ≡ (4, 1))
unfolding computing
within = (refl, refl)

-- between records the earlier one: a byte that must be zero before a bad letter
pub between : told (84 ∷ replicate 14 0 ++ 1 ∷ [] ++ replicate 16 0) ≡ (7, 0)
unfolding computing
between = refl
