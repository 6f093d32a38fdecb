-- Closed examples of the calls, by computation, as codes and bytes: each answer that a call can give, what is left in a buffer that
-- is too long, too short, or lent to a call that was refused, and which of two refusals is told. Refusal 8 cannot come from a list.
use Rattle.std.specs.Prelude.{ℕ, ◌+◌, ◌*◌, List, [], ◌∷◌, ◌++◌, ◌≡◌, refl, drop, replicate, set, take}
use Rattle.year.specs.Year.{term_of, course_of}
use Rattle.year.specs.Narrow.{place_of, bar_of, tighten_of}
use Rattle.year.specs.Imbalance.{one_plan, imbalance_of}
use Rattle.year.specs.Examples.{year_of, settled_e, crowded_e, loaded, heaped}
use Rattle.year.specs.declared.Term.{Term}
use Rattle.year.specs.declared.Course.{Course}
use Rattle.records.specs.Writing.{joined, records_of, written}
use Rattle.records.specs.Examples.{bytes_e, padded}
use Rattle.records.specs.Computing.{computing as computingReading}
use Rattle.hours.specs.Computing.{computing as computingJoining}
use Rattle.hours.specs.Examples.{terms_e, hours_e}
use Rattle.filter.specs.Computing.{computing as computingFilter}
use Rattle.boundary.specs.Calls.{read_code, imbalance_code, filter_code, filter_out, narrow_of, narrow_code, narrow_out, join_code, join_out}

-- all that a call is computed by
unfoldable computing : Unit {0}
unfolding computingReading computingFilter computingJoining records_of joined written read_code imbalance_code filter_code filter_out narrow_of
    narrow_code narrow_out place_of bar_of tighten_of imbalance_of one_plan join_code
    join_out
computing = tt

-- ---- lists and buffers

-- the list of a year by its terms and courses
abbrev list_of : List Term → List Course → List ℕ
list_of ts cs = records_of (year_of ts cs)

-- the list of year E with another byte at a place; with its last byte not zero, which is refused by 7 at record 4
abbrev with_byte : ℕ → ℕ → List ℕ
with_byte at b = set bytes_e at b

abbrev refused_e : List ℕ
refused_e = with_byte 79 1

-- a buffer of so many bytes, before a call
abbrev buffer : ℕ → List ℕ
buffer n = replicate n 7

-- ---- read

read_done : read_code bytes_e ≡ 0
unfolding computing
read_done = refl

-- 1 to 7, each with the place of its record; of 1 it is 0
read_refused : (read_code [] ≡ 1)
    × (read_code (take 79 bytes_e) ≡ 1)
    × (read_code (with_byte 48 84) ≡ 2 + 3 * 65536)
    × (read_code (with_byte 65 3) ≡ 3 + 4 * 65536)
    × (read_code (with_byte 34 4) ≡ 4 + 2 * 65536)
    × (read_code (with_byte 19 7) ≡ 5 + 1 * 65536)
    × (read_code (with_byte 53 4) ≡ 6 + 3 * 65536)
    × (read_code refused_e ≡ 7 + 4 * 65536)
unfolding computing
read_refused = (refl, refl, refl, refl, refl, refl, refl, refl)

-- ---- filter

-- open after 2 rounds; the byte behind the records stays
filter_open : (filter_code bytes_e 80 ≡ 2 * 256 + 2 * 65536)
    × (filter_out bytes_e (buffer 81)
    ≡ padded (84 ∷ 0 ∷ 0 ∷ 3 ∷ 0 ∷ 4 ∷ 0 ∷ 1 ∷ 0 ∷ 1 ∷ [])
    ++ padded (84 ∷ 1 ∷ 0 ∷ 5 ∷ 0 ∷ 6 ∷ 0 ∷ 2 ∷ 0 ∷ 2 ∷ [])
    ++ drop 32 (with_byte 69 2)
    ++ buffer 1)
unfolding computing
filter_open = (refl, refl)

-- settled after 2 rounds: the course stands in the one term that has room for it
abbrev two_terms : List ℕ
two_terms = list_of (term_of 0 1 0 1 ∷ term_of 0 5 0 1 ∷ []) (course_of 5 3 ∷ [])

filter_settled : (filter_code two_terms 48 ≡ 1 * 256 + 2 * 65536)
    × (filter_out two_terms (buffer 48) ≡ list_of (term_of 0 0 0 0 ∷ term_of 5 5 1 1 ∷ []) (course_of 5 2 ∷ []))
unfolding computing
filter_settled = (refl, refl)

-- 13 with the rule and the round, which differ; the buffer is as it was
abbrev with_no_plan : List ℕ
with_no_plan = list_of (term_of 3 4 0 1 ∷ term_of 0 4 1 1 ∷ term_of 1 4 0 1 ∷ []) (course_of 4 7 ∷ course_of 4 5 ∷ [])

filter_no_plan : (filter_code with_no_plan 80 ≡ 13 + 1 * 256 + 2 * 65536) × (filter_out with_no_plan (buffer 81) ≡ buffer 81)
unfolding computing
filter_no_plan = (refl, refl)

-- 9, told before 13; a refused list is told before 9
filter_short : (filter_code bytes_e 79 ≡ 9)
    × (filter_out bytes_e (buffer 79) ≡ buffer 79)
    × (filter_code with_no_plan 79 ≡ 9)
    × (filter_code refused_e 0 ≡ 7 + 4 * 65536)
    × (filter_out refused_e (buffer 81) ≡ buffer 81)
unfolding computing
filter_short = (refl, refl, refl, refl, refl)

-- ---- narrow

-- the code and the buffer of year E under a narrowing, beside a byte behind the records
abbrev narrowed : ℕ → ℕ → ℕ → ℕ × List ℕ
narrowed kind a b = (narrow_code bytes_e kind a b 81, narrow_out bytes_e kind a b (buffer 81))

-- done: the six kinds, each with the one byte that it alters
narrow_done : (narrowed 0 0 1 ≡ (0, with_byte 37 2 ++ buffer 1))
    × (narrowed 1 0 1 ≡ (0, with_byte 37 1 ++ buffer 1))
    × (narrowed 2 1 5 ≡ (0, with_byte 19 5 ++ buffer 1))
    × (narrowed 3 1 5 ≡ (0, with_byte 21 5 ++ buffer 1))
    × (narrowed 4 1 2 ≡ (0, with_byte 23 2 ++ buffer 1))
    × (narrowed 5 1 2 ≡ (0, with_byte 25 2 ++ buffer 1))
unfolding computing
narrow_done = (refl, refl, refl, refl, refl, refl)

-- 10: no such course, term, or kind; 11: credits and a count outside the sizes; 12: a low bound above its high bound
narrow_refused : (narrowed 0 3 0 ≡ (10, buffer 81))
    × (narrowed 1 0 2 ≡ (10, buffer 81))
    × (narrowed 6 0 0 ≡ (10, buffer 81))
    × (narrowed 2 0 64001 ≡ (11, buffer 81))
    × (narrowed 5 0 65 ≡ (11, buffer 81))
    × (narrowed 2 0 5 ≡ (12, buffer 81))
unfolding computing
narrow_refused = (refl, refl, refl, refl, refl, refl)

-- 9, told before 10, but not of a buffer that is just long enough; a refused list is told before 9
narrow_short : (narrow_code bytes_e 3 1 5 79 ≡ 9)
    × (narrow_out bytes_e 3 1 5 (buffer 79) ≡ buffer 79)
    × (narrow_code bytes_e 3 1 5 80 ≡ 0)
    × (narrow_out bytes_e 3 1 5 (buffer 80) ≡ with_byte 21 5)
    × (narrow_code bytes_e 6 0 0 79 ≡ 9)
    × (narrow_code refused_e 6 0 0 0 ≡ 7 + 4 * 65536)
    × (narrow_out refused_e 3 0 0 (buffer 81) ≡ buffer 81)
unfolding computing
narrow_short = (refl, refl, refl, refl, refl, refl, refl)

-- ---- imbalance

-- 1, 9, and the largest, which 32 bits do not hold; 14 of a year with several terms for a course, and of one placing that is no
-- plan; a refused list
imbalances : (imbalance_code (records_of settled_e) ≡ 1 * 65536)
    × (imbalance_code (records_of (loaded (3 ∷ 6 ∷ []))) ≡ 9 * 65536)
    × (imbalance_code (records_of heaped) ≡ 61440000000 * 65536)
    × (imbalance_code bytes_e ≡ 14)
    × (imbalance_code (records_of crowded_e) ≡ 14)
    × (imbalance_code refused_e ≡ 7 + 4 * 65536)
unfolding computing
imbalances = (refl, refl, refl, refl, refl, refl)

-- ---- join

-- done: the records of year E, as long as both lists; the byte behind them stays
join_done : (join_code terms_e hours_e 80 ≡ 0) × (join_out terms_e hours_e (buffer 81) ≡ bytes_e ++ buffer 1)
unfolding computing
join_done = (refl, refl)

-- an empty hours list: the terms, byte for byte
join_no_hours : (join_code terms_e [] 32 ≡ 0) × (join_out terms_e [] (buffer 33) ≡ terms_e ++ buffer 1)
unfolding computing
join_no_hours = (refl, refl)

-- the detail says which list is at fault, the value the place in it: a course behind the terms; an edition; no terms at all
join_refused : (join_code bytes_e hours_e 80 ≡ 2 + 1 * 256 + 2 * 65536)
    × (join_code terms_e (set hours_e 34 3) 80 ≡ 4 + 2 * 256 + 2 * 65536)
    × (join_code [] hours_e 80 ≡ 1 + 1 * 256)
    × (join_code terms_e (take 17 hours_e) 80 ≡ 1 + 2 * 256)
    × (join_out bytes_e hours_e (buffer 81) ≡ buffer 81)
    × (join_out terms_e (set hours_e 34 3) (buffer 81) ≡ buffer 81)
unfolding computing
join_refused = (refl, refl, refl, refl, refl, refl)

-- 9, one byte short of both lists; a refusal of either is told before it
join_short : (join_code terms_e hours_e 79 ≡ 9)
    × (join_out terms_e hours_e (buffer 79) ≡ buffer 79)
    × (join_code bytes_e hours_e 0 ≡ 2 + 1 * 256 + 2 * 65536)
    × (join_code terms_e (set hours_e 34 3) 0 ≡ 4 + 2 * 256 + 2 * 65536)
unfolding computing
join_short = (refl, refl, refl, refl)
