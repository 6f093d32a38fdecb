-- Closed examples, by computation: year E's six lines, each kind of answer, and a buffer that is one byte short.
use Rattle.std.specs.Prelude.{ℕ, List, [], ◌∷◌, ◌++◌, ◌≡◌, refl, replicate, Ok, Err}
use Rattle.text.specs.Text.{bytes}
use Rattle.records.specs.Examples.{bytes_e}
use Rattle.display.specs.Listing.{listing_of, listed_of, listed_in}
use Rattle.display.specs.Computing.{computing}

-- ---- year E

abbrev pub lines_e : List ℕ
lines_e =
    bytes "OPEN 2\n"
    ++ bytes "T 0 3 4 1 1\n"
    ++ bytes "T 1 5 6 2 2\n"
    ++ bytes "C 0 4 0,1\n"
    ++ bytes "C 1 3 0,1\n"
    ++ bytes "C 2 2 1\n"

pub year_e_lem : listing_of bytes_e ≡ lines_e
unfolding computing
year_e_lem = refl

-- 59 bytes: the byte behind them stays; in a buffer of 58 every byte does
pub year_e_written : (listed_of bytes_e 60 ≡ Ok 59)
    × (listed_in bytes_e (replicate 60 7) ≡ lines_e ++ 7 ∷ [])
    × (listed_of bytes_e 59 ≡ Ok 59)
    × (listed_of bytes_e 58 ≡ Err (record {}))
    × (listed_in bytes_e (replicate 58 7) ≡ replicate 58 7)
unfolding computing
year_e_written = (refl, refl, refl, refl, refl)

-- ---- each kind of answer

-- a term of up to that many credits and one course, and a course of a weight that lists it
abbrev one_course : ℕ → ℕ → List ℕ
one_course high weight =
    (84 ∷ 0 ∷ 0 ∷ 0 ∷ 0 ∷ high ∷ 0 ∷ 0 ∷ 0 ∷ 1 ∷ replicate 6 0) ++ (67 ∷ 0 ∷ 0 ∷ weight ∷ 0 ∷ 1 ∷ replicate 10 0)

pub settled : listing_of (one_course 5 5) ≡ bytes "SETTLED 2\n" ++ bytes "T 0 5 5 1 1\n" ++ bytes "C 0 5 0\n"
unfolding computing
settled = refl

-- two terms of no credits, and a course of one credit that lists both: rule 2 finds no plan in round 1
abbrev no_room : List ℕ
no_room = (84 ∷ 0 ∷ replicate 14 0) ++ (84 ∷ 1 ∷ replicate 14 0) ++ (67 ∷ 0 ∷ 0 ∷ 1 ∷ 0 ∷ 3 ∷ replicate 10 0)

pub no_plan : listing_of no_room ≡ bytes "NOPLAN 2 1\n"
unfolding computing
no_plan = refl

-- a course without weight, and the empty list
pub refused : (listing_of (one_course 5 0) ≡ bytes "REFUSED 4 1\n") × (listing_of [] ≡ bytes "REFUSED 1 0\n")
unfolding computing
refused = (refl, refl)
