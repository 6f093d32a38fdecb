-- Which byte strings are refused by which number: each row of the paper's table, 1 to 7, word for word, and that reading goes by them.
use Rattle.std.specs.Prelude.{ℕ, ◌*◌, ◌/◌, ◌%◌, ◌^◌, ◌≤◌, ◌<◌, List, ◌↔◌, ◌≡◌, eqb, length}
use Rattle.theory.specs.Sum.{pick, sum}
use Rattle.year.specs.Sound.{Sound}
use Rattle.year.specs.declared.Year.{Year}
use Rattle.records.specs.Bytes.{byte_at, word_at, AllBytes}
use Rattle.records.specs.Numbers.{reading_number, reading_place}
use Rattle.records.specs.Reading.{read_list}
use Rattle.records.specs.Writing.{records_of}

-- ---- the records of a list

-- the letters, "T" and "C"
abbrev pub T : ℕ
T = 84

abbrev pub C : ℕ
C = 67

-- byte b of record k, and the number in bytes b and b + 1
abbrev pub byte_of : List ℕ → ℕ → ℕ → ℕ
byte_of s k b = byte_at s (k * 16) b

abbrev pub word_of : List ℕ → ℕ → ℕ → ℕ
word_of s k b = word_at s (k * 16) b

-- how many of the records before record k have that letter
abbrev pub is_letter : List ℕ → ℕ → ℕ → ℕ
is_letter s letter i = pick (eqb (byte_of s i 0) letter) 1

abbrev pub before : List ℕ → ℕ → ℕ → ℕ
before s letter k = sum k (is_letter s letter)

-- ---- the rows of the table

-- 1
pub data BadLength (n : ℕ) : Type 0 where
  empty : n ≡ 0 → BadLength n
  too_long : 1280 < n → BadLength n
  no_multiple : (n % 16 ≡ 0 → ⊥) → BadLength n

-- 2 to 7: what is wrong with record k of the list s, by number
pub data Wrong (s : List ℕ) (k : ℕ) : ℕ → Type 0 where
  -- byte 0 is neither letter; the first record is a course; a term follows a course
  neither_letter : (byte_of s k 0 ≡ T → ⊥) → (byte_of s k 0 ≡ C → ⊥) → Wrong s k 2
  course_first : k ≡ 0 → byte_of s k 0 ≡ C → Wrong s k 2
  term_behind_course : byte_of s k 0 ≡ T → 1 ≤ before s C k → Wrong s k 2
  -- the number is not the next of its kind, or is past the largest year
  not_next_term : byte_of s k 0 ≡ T → (byte_of s k 1 ≡ before s T k → ⊥) → Wrong s k 3
  not_next_course : byte_of s k 0 ≡ C → (byte_of s k 1 ≡ before s C k → ⊥) → Wrong s k 3
  past_terms : byte_of s k 0 ≡ T → 16 ≤ byte_of s k 1 → Wrong s k 3
  past_courses : byte_of s k 0 ≡ C → 64 ≤ byte_of s k 1 → Wrong s k 3
  -- a weight or bound outside the sizes
  low_credits_outside : byte_of s k 0 ≡ T → 64000 < word_of s k 2 → Wrong s k 4
  high_credits_outside : byte_of s k 0 ≡ T → 64000 < word_of s k 4 → Wrong s k 4
  low_count_outside : byte_of s k 0 ≡ T → 64 < word_of s k 6 → Wrong s k 4
  high_count_outside : byte_of s k 0 ≡ T → 64 < word_of s k 8 → Wrong s k 4
  weightless : byte_of s k 0 ≡ C → word_of s k 2 ≡ 0 → Wrong s k 4
  too_heavy : byte_of s k 0 ≡ C → 1000 < word_of s k 2 → Wrong s k 4
  -- a low bound above its high bound
  credits_crossed : byte_of s k 0 ≡ T → word_of s k 4 < word_of s k 2 → Wrong s k 5
  counts_crossed : byte_of s k 0 ≡ T → word_of s k 8 < word_of s k 6 → Wrong s k 5
  -- term list empty, or naming a term the year lacks: bit j of the list, for a j that is not below the number of terms
  list_empty : byte_of s k 0 ≡ C → word_of s k 4 ≡ 0 → Wrong s k 6
  term_lacking : (j : ℕ) → byte_of s k 0 ≡ C → before s T k ≤ j → word_of s k 4 / 2 ^ j % 2 ≡ 1 → Wrong s k 6
  -- a byte that must be zero is not
  term_not_zero : (b : ℕ) → byte_of s k 0 ≡ T → 10 ≤ b → b < 16 → (byte_of s k b ≡ 0 → ⊥) → Wrong s k 7
  course_not_zero : (b : ℕ) → byte_of s k 0 ≡ C → 6 ≤ b → b < 16 → (byte_of s k b ≡ 0 → ⊥) → Wrong s k 7

-- record k has nothing wrong with it
abbrev pub Right : List ℕ → ℕ → Type 0
Right s k = (n : ℕ) → Wrong s k n → ⊥

-- ---- the first fault

-- Of a list with so many records, where it is known what makes its length bad and what is wrong with record k, by number: the length is
-- good, the records before record k are right, n is wrong with record k, and nothing of a lower number
pub record FirstWrong (bad : Type 0) (records : ℕ) (wrong : ℕ → ℕ → Type 0) (n k : ℕ) : Type 0 where
  pub good_length : bad → ⊥
  pub in_list : k < records
  pub before_right : (i : ℕ) → i < k → (m : ℕ) → wrong i m → ⊥
  pub is_wrong : wrong k n
  pub none_lower : (m : ℕ) → m < n → wrong k m → ⊥

-- a list of terms and courses
abbrev pub FirstWrongOf : List ℕ → ℕ → ℕ → Type 0
FirstWrongOf s = FirstWrong (BadLength (length s)) (length s / 16) (Wrong s)

-- ---- reading goes by them

abbrev pub number : List ℕ → ℕ
number s = reading_number (read_list s)

abbrev pub place : List ℕ → ℕ
place s = reading_place (read_list s)

pub record ReadingDue : Type 0 where
  -- 1, with the place 0, exactly for a bad length
  pub by_length : (s : List ℕ) → (number s ≡ 1) ↔ BadLength (length s)
  pub by_length_at_0 : (s : List ℕ) → number s ≡ 1 → place s ≡ 0
  -- 2 to 7, with the record's place, exactly for the first fault
  pub by_record : (s : List ℕ) (n k : ℕ) → 2 ≤ n → ((number s ≡ n) × (place s ≡ k)) ↔ FirstWrongOf s n k
  -- 0 exactly for a good length with every record right, which is exactly the records of some sound year
  pub read : (s : List ℕ) → (number s ≡ 0) ↔ ((BadLength (length s) → ⊥) × ((k : ℕ) → k < length s / 16 → Right s k))
  pub reads_records : (s : List ℕ) → AllBytes s → (number s ≡ 0) ↔ ((y : Year) × Sound y × (records_of y ≡ s))
  pub no_other_number : (s : List ℕ) → number s ≤ 7
