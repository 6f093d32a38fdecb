-- Closed examples, by computation: year E from its hours, weights by both editions at each limit, each refusal in each list with its
-- place, and which of several faults is told.
use Rattle.std.specs.Prelude.{ℕ, ◌/◌, ◌%◌, List, [], ◌∷◌, ◌++◌, ◌≡◌, refl, Ok, take, replicate, set}
use Rattle.year.specs.Doors.{empty_year}
use Rattle.year.specs.Year.{term_of, weight}
use Rattle.year.specs.Examples.{year_of, year_e}
use Rattle.records.specs.Writing.{joined}
use Rattle.records.specs.Examples.{padded, first_term, plain_term, plain_course, bytes_e}
use Rattle.hours.specs.declared.Edition.TheVariants.{First, Second}
use Rattle.hours.specs.Numbers.{joining_number, joining_list, joining_place}
use Rattle.hours.specs.Entries.{weight_by}
use Rattle.hours.specs.Joining.{join_of, year_joined}
use Rattle.hours.specs.Computing.{computing}

-- ---- lists

-- a record: number, edition, lecture hours, laboratory hours, term list
abbrev hours_of : ℕ → ℕ → ℕ → ℕ → ℕ → List ℕ
hours_of n edition lecture laboratory l =
    padded (72 ∷ n ∷ edition ∷ 0 ∷ lecture / 256 ∷ lecture % 256 ∷ laboratory / 256 ∷ laboratory % 256 ∷ l / 256 ∷ l % 256 ∷ [])

-- a course of one lecture hour that lists term 0
abbrev plain_hours : ℕ → List ℕ
plain_hours n = hours_of n 1 1 0 1

-- one term, with no bounds but 0
abbrev one_term : List ℕ
one_term = plain_term 0

-- the list at fault, the number and the place of an answer
abbrev told : List ℕ → List ℕ → ℕ × (ℕ × ℕ)
told t h = let a = join_of t h in (joining_list a, (joining_number a, joining_place a))

-- what is told of one course with these hours, and its weight
abbrev told_of : ℕ → ℕ → ℕ → ℕ × (ℕ × ℕ)
told_of edition lecture laboratory = told one_term (hours_of 0 edition lecture laboratory 1)

abbrev weight_of : ℕ → ℕ → ℕ → ℕ
weight_of edition lecture laboratory = weight (year_joined (join_of one_term (hours_of 0 edition lecture laboratory 1))) 0

-- done; in the terms' list by a number at a place; in the hours list
abbrev well : ℕ × (ℕ × ℕ)
well = (0, (0, 0))

abbrev in_terms : ℕ → ℕ → ℕ × (ℕ × ℕ)
in_terms n k = (1, (n, k))

abbrev in_hours : ℕ → ℕ → ℕ × (ℕ × ℕ)
in_hours n k = (2, (n, k))

-- ---- year E

-- its terms, and hours of both editions that weigh 4, 3 and 2
abbrev pub terms_e : List ℕ
terms_e = take 32 bytes_e

abbrev pub hours_e : List ℕ
hours_e = hours_of 0 1 2 5 3 ++ hours_of 1 2 1 3 3 ++ hours_of 2 1 0 4 3

-- what is joined carries its sums, as year E does
pub year_e_joined : join_of terms_e hours_e ≡ Ok year_e
unfolding computing
year_e_joined = refl

-- and so it does with no hours: the sums of no course
pub terms_e_joined : join_of terms_e [] ≡ Ok (year_of (term_of 0 4 0 3 ∷ term_of 0 6 0 3 ∷ []) [])
unfolding computing
terms_e_joined = refl

-- ---- weights

-- the same hours by both editions, of odd and of even laboratory hours; the largest hours, which 16 bits do not hold
pub editions : (weight_by First 3 5 ≡ 5)
    × (weight_by Second 3 5 ≡ 6)
    × (weight_by First 3 4 ≡ 5)
    × (weight_by Second 3 4 ≡ 5)
    × (weight_by First 0 65535 ≡ 32767)
    × (weight_by Second 0 65535 ≡ 32768)
    × (weight_by Second 65535 65535 ≡ 98303)
editions = (refl, refl, refl, refl, refl, refl, refl)

-- weights of 1 and of 1,000, from lecture hours, from laboratory hours, and rounded down or up to it
pub lightest : (weight_of 1 1 0 ≡ 1) × (weight_of 1 0 2 ≡ 1) × (weight_of 1 0 3 ≡ 1) × (weight_of 2 0 1 ≡ 1) × (weight_of 2 0 2 ≡ 1)
unfolding computing
lightest = (refl, refl, refl, refl, refl)

pub heaviest : (weight_of 1 1000 1 ≡ 1000) × (weight_of 1 0 2001 ≡ 1000) × (weight_of 2 999 1 ≡ 1000) × (weight_of 2 0 2000 ≡ 1000)
unfolding computing
heaviest = (refl, refl, refl, refl)

-- 4: a weight of 0, by no hours and by one laboratory hour rounded down; of 1,001; and of 65,537, whose lowest 16 bits are 1
pub outside : (told_of 1 0 0 ≡ in_hours 4 0)
    × (told_of 2 0 0 ≡ in_hours 4 0)
    × (told_of 1 0 1 ≡ in_hours 4 0)
    × (told_of 1 1001 0 ≡ in_hours 4 0)
    × (told_of 2 1000 1 ≡ in_hours 4 0)
    × (told_of 1 0 65535 ≡ in_hours 4 0)
    × (told_of 2 0 65535 ≡ in_hours 4 0)
    × (told_of 1 32770 65535 ≡ in_hours 4 0)
unfolding computing
outside = (refl, refl, refl, refl, refl, refl, refl, refl)

-- ---- the terms' list

-- 1: empty, no multiple of 16, over 1,280 bytes
pub term_lengths : (told [] [] ≡ in_terms 1 0) × (told (take 15 one_term) [] ≡ in_terms 1 0) × (told (replicate 1296 0) [] ≡ in_terms 1 0)
unfolding computing
term_lengths = (refl, refl, refl)

-- 2: no letter, an hours record, a course that reading would take, and one that reading would refuse by 4
pub term_letters : (told (replicate 16 0) [] ≡ in_terms 2 0)
    × (told (one_term ++ plain_hours 0) [] ≡ in_terms 2 1)
    × (told (one_term ++ plain_course 0 1) [] ≡ in_terms 2 1)
    × (told (one_term ++ plain_course 0 0) [] ≡ in_terms 2 1)
unfolding computing
term_letters = (refl, refl, refl, refl)

-- 3: not the next, and a 17th term; sixteen are taken
pub term_numbers : (told (one_term ++ plain_term 2) [] ≡ in_terms 3 1)
    × (told (joined plain_term 17) [] ≡ in_terms 3 16)
    × (told (joined plain_term 16) [] ≡ well)
unfolding computing joined
term_numbers = (refl, refl, refl)

-- 4, 5 and 7
pub term_fields : (told (first_term 0 64001 0 0) [] ≡ in_terms 4 0)
    × (told (first_term 2 1 0 0) [] ≡ in_terms 5 0)
    × (told (set one_term 15 1) [] ≡ in_terms 7 0)
unfolding computing
term_fields = (refl, refl, refl)

-- ---- the hours list

-- no record, and 64 of them; 1: one more, no multiple of 16
pub hours_lengths : (told one_term [] ≡ well)
    × (told one_term (joined plain_hours 64) ≡ well)
    × (told one_term (joined plain_hours 65) ≡ in_hours 1 0)
    × (told one_term (take 17 (joined plain_hours 2)) ≡ in_hours 1 0)
unfolding computing joined
hours_lengths = (refl, refl, refl, refl)

-- 2: a course's letter and a term's; 3: not the next
pub hours_heads : (told one_term (plain_hours 0 ++ plain_course 1 1) ≡ in_hours 2 1)
    × (told one_term (plain_term 1) ≡ in_hours 2 0)
    × (told one_term (plain_hours 0 ++ plain_hours 0) ≡ in_hours 3 1)
    × (told one_term (plain_hours 1) ≡ in_hours 3 0)
unfolding computing
hours_heads = (refl, refl, refl, refl)

-- 4: no edition
pub no_edition : (told_of 0 1 0 ≡ in_hours 4 0) × (told_of 3 1 0 ≡ in_hours 4 0)
unfolding computing
no_edition = (refl, refl)

-- 6: an empty list, and one that names a term which the year lacks
pub hours_lists : (told one_term (hours_of 0 1 1 0 0) ≡ in_hours 6 0) × (told terms_e (plain_hours 0 ++ hours_of 1 2 1 0 4) ≡ in_hours 6 1)
unfolding computing
hours_lists = (refl, refl)

-- 7: byte 3, and the first and the last of the other bytes that must be zero
pub hours_zeros : (told one_term (set (plain_hours 0) 3 1) ≡ in_hours 7 0)
    × (told one_term (set (plain_hours 0) 10 1) ≡ in_hours 7 0)
    × (told one_term (set (plain_hours 0) 15 1) ≡ in_hours 7 0)
unfolding computing
hours_zeros = (refl, refl, refl)

-- refused in either list, the year is the empty one
pub handed_back : (year_joined (join_of (terms_e ++ plain_hours 0) hours_e) ≡ empty_year)
    × (year_joined (join_of terms_e (set hours_e 3 1)) ≡ empty_year)
unfolding computing
handed_back = (refl, refl)

-- ---- several faults at once

-- the last record of the terms is told before the length of the hours list, and before its first record
pub terms_first : (told (terms_e ++ plain_term 3) (replicate 17 0) ≡ in_terms 3 2)
    × (told (terms_e ++ plain_term 3) (replicate 16 0) ≡ in_terms 3 2)
    × (told (terms_e ++ plain_term 3) (plain_hours 1) ≡ in_terms 3 2)
unfolding computing
terms_first = (refl, refl, refl)

-- within a record the lower number: letter, number, edition or weight, list, zeros
pub within : (told one_term (set (plain_hours 1) 0 67) ≡ in_hours 2 0)
    × (told one_term (hours_of 1 3 1 0 1) ≡ in_hours 3 0)
    × (told one_term (hours_of 0 3 1 0 0) ≡ in_hours 4 0)
    × (told one_term (hours_of 0 1 0 0 0) ≡ in_hours 4 0)
    × (told one_term (set (hours_of 0 1 1 0 2) 3 1) ≡ in_hours 6 0)
unfolding computing
within = (refl, refl, refl, refl, refl)

-- between records the earlier one, whatever its number
pub between : told one_term (set (plain_hours 0) 15 1 ++ replicate 16 0) ≡ in_hours 7 0
unfolding computing
between = refl
