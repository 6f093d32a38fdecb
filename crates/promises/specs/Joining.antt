-- Joining a list of terms and an hours list (request A3): in which list which byte strings are refused by which number, each row word for
-- word; what the joined year is; what the two editions make of the same hours.
use Rattle.std.specs.Prelude.{ℕ, ◌+◌, ◌/◌, ◌%◌, ◌^◌, ◌≤◌, ◌<◌, List, [], ◌↔◌, ◌≡◌, length, take}
use Rattle.year.specs.Year.{term_of, course_of, term_at, course_at}
use Rattle.year.specs.Sound.{Sound}
use Rattle.year.specs.declared.Year.{Year}
use Rattle.records.specs.Bytes.{AllBytes}
use Rattle.records.specs.Numbers.{reading_number, reading_place}
use Rattle.records.specs.Reading.{read_list, year_read, done}
use Rattle.records.specs.Writing.{records_of}
use Rattle.hours.specs.Numbers.{joining_number, joining_list, joining_place, edition_number}
use Rattle.hours.specs.Entries.{weight_by}
use Rattle.hours.specs.Joining.{join_of, year_joined}
use Rattle.hours.specs.declared.Edition.{Edition}
use Rattle.hours.specs.declared.Edition.TheVariants.{First, Second}
use Rattle.promises.specs.Refusals.{T, C, byte_of, word_of, BadLength, Wrong, FirstWrong}

-- the letter of an hours record, "H"
abbrev pub H : ℕ
H = 72

-- what the joining of a terms' list and an hours list answers: the list at fault (1 the terms', 2 the hours list), the number, the place
abbrev pub list : List ℕ → List ℕ → ℕ
list t h = joining_list (join_of t h)

abbrev pub number : List ℕ → List ℕ → ℕ
number t h = joining_number (join_of t h)

abbrev pub place : List ℕ → List ℕ → ℕ
place t h = joining_place (join_of t h)

abbrev pub Answers : List ℕ → List ℕ → ℕ → ℕ → ℕ → Type 0
Answers t h l n k = (list t h ≡ l) × (number t h ≡ n) × (place t h ≡ k)

-- ---- the rows of the terms' list

-- in the order of reading, where any record that is no term record is 2
pub data WrongTerm (s : List ℕ) (k : ℕ) : ℕ → Type 0 where
  no_term : (byte_of s k 0 ≡ T → ⊥) → WrongTerm s k 2
  as_in_reading : {n : ℕ} → byte_of s k 0 ≡ T → Wrong s k n → WrongTerm s k n

-- ---- the rows of the hours list, behind a list of so many terms

-- 1; it may be empty
pub data BadHours (n : ℕ) : Type 0 where
  too_long : 1024 < n → BadHours n
  no_multiple : (n % 16 ≡ 0 → ⊥) → BadHours n

pub data WrongHours (terms : ℕ) (s : List ℕ) (k : ℕ) : ℕ → Type 0 where
  -- a letter other than H
  no_hours : (byte_of s k 0 ≡ H → ⊥) → WrongHours terms s k 2
  -- the number is not the next, or is past the largest year
  not_next : (byte_of s k 1 ≡ k → ⊥) → WrongHours terms s k 3
  past_courses : 64 ≤ byte_of s k 1 → WrongHours terms s k 3
  -- a wrong edition, or a weight outside the sizes by the edition that it names
  no_edition : (byte_of s k 2 ≡ 1 → ⊥) → (byte_of s k 2 ≡ 2 → ⊥) → WrongHours terms s k 4
  weightless : (e : Edition) → byte_of s k 2 ≡ edition_number e → weight_by e (word_of s k 4) (word_of s k 6) ≡ 0 → WrongHours terms s k 4
  too_heavy : (e : Edition) → byte_of s k 2 ≡ edition_number e → 1000 < weight_by e (word_of s k 4) (word_of s k 6) → WrongHours terms s k 4
  -- term list empty, or naming a term the year lacks
  list_empty : word_of s k 8 ≡ 0 → WrongHours terms s k 6
  term_lacking : (j : ℕ) → terms ≤ j → word_of s k 8 / 2 ^ j % 2 ≡ 1 → WrongHours terms s k 6
  -- a byte that must be zero is not
  third_not_zero : (byte_of s k 3 ≡ 0 → ⊥) → WrongHours terms s k 7
  not_zero : (b : ℕ) → 10 ≤ b → b < 16 → (byte_of s k b ≡ 0 → ⊥) → WrongHours terms s k 7

-- ---- joining goes by them

abbrev pub WrongHoursOf : List ℕ → List ℕ → ℕ → ℕ → Type 0
WrongHoursOf t h = WrongHours (length t / 16) h

-- nothing is wrong with the terms' list, nor with the hours list behind it
abbrev pub TermsRight : List ℕ → Type 0
TermsRight t = (BadLength (length t) → ⊥) × ((k : ℕ) → k < length t / 16 → (n : ℕ) → WrongTerm t k n → ⊥)

abbrev pub HoursRight : List ℕ → List ℕ → Type 0
HoursRight t h = (BadHours (length h) → ⊥) × ((k : ℕ) → k < length h / 16 → (n : ℕ) → WrongHoursOf t h k n → ⊥)

pub record JoiningDue : Type 0 where
  -- the terms' list, whatever the hours list is: 1, with the place 0, exactly for a bad length; 2 to 7 exactly for its first fault
  pub terms_by_length : (t h : List ℕ) → Answers t h 1 1 0 ↔ BadLength (length t)
  pub terms_by_record : (t h : List ℕ) (n k : ℕ) → 2 ≤ n
      → Answers t h 1 n k ↔ FirstWrong (BadLength (length t)) (length t / 16) (WrongTerm t) n k
  -- the hours list, only where nothing is wrong with the terms
  pub hours_by_length : (t h : List ℕ) → Answers t h 2 1 0 ↔ (TermsRight t × BadHours (length h))
  pub hours_by_record : (t h : List ℕ) (n k : ℕ) → 2 ≤ n
      → Answers t h 2 n k ↔ (TermsRight t × FirstWrong (BadHours (length h)) (length h / 16) (WrongHoursOf t h) n k)
  -- 0 exactly where nothing is wrong with either
  pub joins : (t h : List ℕ) → Answers t h 0 0 0 ↔ (TermsRight t × HoursRight t h)
  -- no other answer
  pub list_for_number : (t h : List ℕ) → (number t h ≡ 0) ↔ (list t h ≡ 0)
  pub length_at_0 : (t h : List ℕ) → number t h ≡ 1 → place t h ≡ 0
  pub no_other_list : (t h : List ℕ) → list t h ≤ 2
  pub no_other_number : (t h : List ℕ) → number t h ≤ 7

-- ---- the joined year

pub record JoinedYear (t h : List ℕ) (y : Year) : Type 0 where
  pub sound : Sound y
  -- its terms are those of the terms' list, its courses those of the hours list
  pub as_many_terms : y.terms ≡ length t / 16
  pub as_many_courses : y.courses ≡ length h / 16
  pub term_is : (j : ℕ) → j < y.terms → term_at y j ≡ term_of (word_of t j 2) (word_of t j 4) (word_of t j 6) (word_of t j 8)
  pub course_is : (i : ℕ) (e : Edition) → i < y.courses → byte_of h i 2 ≡ edition_number e
      → course_at y i ≡ course_of (weight_by e (word_of h i 4) (word_of h i 6)) (word_of h i 8)
  -- its records begin with the terms' list, byte for byte; read, they are the year itself
  pub terms_in_front : AllBytes t → take (length t) (records_of y) ≡ t
  pub written_and_read : read_list (records_of y) ≡ done y

-- no record of the list is a course's
abbrev pub NoCourse : List ℕ → Type 0
NoCourse s = (k : ℕ) → k < length s / 16 → byte_of s k 0 ≡ C → ⊥

-- joined with an empty list, s is answered as reading it is: the number, the place and the year; what is refused is s
pub record AsReading (s : List ℕ) : Type 0 where
  pub same_number : number s [] ≡ reading_number (read_list s)
  pub same_place : place s [] ≡ reading_place (read_list s)
  pub same_year : year_joined (join_of s []) ≡ year_read (read_list s)
  pub in_terms : (number s [] ≡ 0 → ⊥) → list s [] ≡ 1

pub record HoursMean : Type 0 where
  pub joined_year : (t h : List ℕ) → number t h ≡ 0 → JoinedYear t h (year_joined (join_of t h))
  pub empty_as_reading : (s : List ℕ) → NoCourse s → AsReading s
  -- for the same hours the editions' weights differ by 1 exactly when the laboratory hours are odd, and are equal otherwise
  pub differ_by_1 : (lecture laboratory : ℕ)
      → (weight_by Second lecture laboratory ≡ weight_by First lecture laboratory + 1) ↔ (laboratory % 2 ≡ 1)
  pub equal_otherwise : (lecture laboratory : ℕ)
      → (weight_by Second lecture laboratory ≡ weight_by First lecture laboratory) ↔ (laboratory % 2 ≡ 0)
