-- Closed examples, by computation: a number of each length, lines, and lists of no, one, some and all terms.
use Rattle.std.specs.Prelude.{[], ◌∷◌, ◌≡◌, refl}
use Rattle.text.specs.Text.{bytes, places_of, decimal_of, numbers_of, row_of, line_of, terms_to, commas_of, terms_of}

-- one to five digits
pub small : (decimal_of 0 ≡ bytes "0")
    × (decimal_of 9 ≡ bytes "9")
    × (decimal_of 10 ≡ bytes "10")
    × (decimal_of 305 ≡ bytes "305")
    × (decimal_of 1000 ≡ bytes "1000")
    × (decimal_of 64000 ≡ bytes "64000")
unfolding decimal_of places_of
small = (refl, refl, refl, refl, refl, refl)

-- six to ten digits; the last is the largest number of 32 bits
pub large : (decimal_of 999999 ≡ bytes "999999")
    × (decimal_of 1025985 ≡ bytes "1025985")
    × (decimal_of 12345678 ≡ bytes "12345678")
    × (decimal_of 100000000 ≡ bytes "100000000")
    × (decimal_of 4294967295 ≡ bytes "4294967295")
unfolding decimal_of places_of
large = (refl, refl, refl, refl, refl)

-- a word alone, and with numbers
pub lines : (line_of (bytes "T") [] ≡ bytes "T\n") × (line_of (bytes "T") (0 ∷ 12 ∷ []) ≡ bytes "T 0 12\n")
unfolding line_of row_of numbers_of decimal_of places_of
lines = (refl, refl)

-- no term, one, two and three
pub some_terms : (terms_of 0 ≡ [])
    × (terms_of 8 ≡ bytes "3")
    × (terms_of 3 ≡ bytes "0,1")
    × (terms_of 33794 ≡ bytes "1,10,15")
unfolding terms_of commas_of terms_to decimal_of places_of
some_terms = (refl, refl, refl, refl)

-- all sixteen
pub all_terms : terms_of 65535 ≡ bytes "0,1,2,3,4,5,6,7,8,9,10,11,12,13,14,15"
unfolding terms_of commas_of terms_to decimal_of places_of
all_terms = refl
