-- Calls one after another: where the first year comes from, the year in hand after them, and what their accepted narrowings ask of a
-- placing.
use Rattle.std.specs.Prelude.{ℕ, List, [], ◌∷◌, ◌≡◌, eqb, length, take}
use Rattle.theory.specs.Choice.{choose}
use Rattle.year.specs.Numbers.{narrowing_number}
use Rattle.year.specs.Plans.{Placing, Plan}
use Rattle.year.specs.Sound.{is_sound}
use Rattle.year.specs.declared.Year.{Year}
use Rattle.records.specs.Numbers.{reading_number, writing_number}
use Rattle.records.specs.Reading.{read_list, year_read}
use Rattle.records.specs.Writing.{records_of, write_answer, written}
use Rattle.hours.specs.Numbers.{joining_number}
use Rattle.hours.specs.Joining.{join_of, year_joined}
use Rattle.filter.specs.Filter.{filter_of}
use Rattle.filter.specs.Numbers.{filter_number}
use Rattle.promises.specs.Narrowings.{Narrow, narrow, Meets}

-- what is given back: the paper's number, and the year
pub record Result : Type 0 where
  pub number : ℕ
  pub year : Year

-- ---- the first year

-- a year value, a list that is read, or a terms' list and an hours list that are joined
pub data Origin : Type 0 where
  value : Year → Origin
  records : List ℕ → Origin
  hours : List ℕ → List ℕ → Origin

-- the year, and the number with which it comes: a value that is not sound is 8
abbrev pub start : Origin → Result
start (value y) = record { number = choose (is_sound y) 0 8; year = y }
start (records s) = record { number = reading_number (read_list s); year = year_read (read_list s) }
start (hours t h) = record { number = joining_number (join_of t h); year = year_joined (join_of t h) }

-- ---- calls

-- a narrowing, a filtering, or a writing into a buffer from which the records are then read back
pub data Call : Type 0 where
  narrow_by : Narrow → Call
  filter : Call
  write_and_read : List ℕ → Call

-- the year that is read from the front of the buffer, or the year itself where nothing was written
abbrev pub read_back : Year → List ℕ → Year
read_back y buffer =
    choose (eqb (writing_number (write_answer y (length buffer))) 0)
    (year_read (read_list (take (length (records_of y)) (written y buffer)))) y

abbrev pub result : Call → Year → Result
result (narrow_by n) y = record { number = narrowing_number (narrow n y).answer; year = (narrow n y).year }
result filter y = record { number = filter_number (filter_of y).answer; year = (filter_of y).year }
result (write_and_read buffer) y = record { number = writing_number (write_answer y (length buffer)); year = read_back y buffer }

-- the year in hand after the calls, the first of which is the head of the list
abbrev pub after : List Call → Year → Year
after [] y = y
after (c ∷ cs) y = after cs (result c y).year

-- ---- what they ask of a placing

-- a narrowing that is accepted (its number is 0) asks that the placing, of the first year's courses, meets it; other calls ask nothing
abbrev pub Asks : Year → Call → ℕ → Placing → Type 0
Asks first (narrow_by n) number p = number ≡ 0 → Meets first n p
Asks first filter number p = Unit {0}
Asks first (write_and_read buffer) number p = Unit {0}

-- the placing meets every accepted narrowing of the calls, the first of which is made on y
abbrev pub MeetsAll : Year → List Call → Year → Placing → Type 0
MeetsAll first [] y p = Unit {0}
MeetsAll first (c ∷ cs) y p = Asks first c (result c y).number p × MeetsAll first cs (result c y).year p

-- a plan of the first year that meets every accepted narrowing of the calls made from it on
abbrev pub PlanThatMeets : Year → List Call → Placing → Type 0
PlanThatMeets first calls p = Plan first p × MeetsAll first calls first p
