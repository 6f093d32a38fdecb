-- Writing: a year's records one behind the other, and the buffer that they are laid into.
use Rattle.std.specs.Prelude.{ℕ, zero, suc, ◌/◌, ◌%◌, ◌&&◌, List, [], ◌∷◌, ◌++◌, Result, Ok, Err, leb, length, drop}
use Rattle.theory.specs.Choice.{choose}
use Rattle.year.specs.Year.{term_at, course_at}
use Rattle.year.specs.Sound.{is_sound}
use Rattle.year.specs.declared.Term.{Term}
use Rattle.year.specs.declared.Course.{Course}
use Rattle.year.specs.declared.Year.{Year}
use Rattle.records.specs.declared.WritingRefusal.{WritingRefusal}
use Rattle.records.specs.declared.WritingRefusal.TheVariants.{Unsound, Short}

-- ---- the records

-- a term's record and a course's: letter, number, two-byte numbers with the high byte first, zeros
abbrev pub term_bytes : ℕ → Term → List ℕ
term_bytes n t =
    84 ∷ n
    ∷ t.low.0 / 256 ∷ t.low.0 % 256 ∷ t.high.0 / 256 ∷ t.high.0 % 256
    ∷ t.least.0 / 256 ∷ t.least.0 % 256 ∷ t.most.0 / 256 ∷ t.most.0 % 256
    ∷ 0 ∷ 0 ∷ 0 ∷ 0 ∷ 0 ∷ 0 ∷ []

abbrev pub course_bytes : ℕ → Course → List ℕ
course_bytes n c =
    67 ∷ n
    ∷ c.weight.0 / 256 ∷ c.weight.0 % 256 ∷ c.list / 256 ∷ c.list % 256
    ∷ 0 ∷ 0 ∷ 0 ∷ 0 ∷ 0 ∷ 0 ∷ 0 ∷ 0 ∷ 0 ∷ 0 ∷ []

abbrev pub term_block : Year → ℕ → List ℕ
term_block y j = term_bytes j (term_at y j)

abbrev pub course_block : Year → ℕ → List ℕ
course_block y i = course_bytes i (course_at y i)

-- f 0, f 1, .. and f (n - 1), one behind the other
unfoldable pub joined : (ℕ → List ℕ) → ℕ → List ℕ
joined f zero = []
joined f (suc n) = joined f n ++ f n

-- all terms in order, then all courses in order
unfoldable pub records_of : Year → List ℕ
records_of y = joined (term_block y) y.terms ++ joined (course_block y) y.courses

-- ---- the buffer

-- refusal 8, then refusal 9
unfoldable pub write_answer : Year → ℕ → Result (Unit {0}) WritingRefusal
write_answer y room = choose (is_sound y) (choose (leb (length (records_of y)) room) (Ok tt) (Err Short)) (Err Unsound)

-- what the buffer b holds afterwards: the records and then what stood behind them, or as before
unfoldable pub written : Year → List ℕ → List ℕ
written y b = choose (is_sound y && leb (length (records_of y)) (length b)) (records_of y ++ drop (length (records_of y)) b) b
