-- Text as a list of bytes: numbers in decimal, lines of a word and numbers, and the terms of a list with commas.
use Rattle.std.specs.Prelude.{ℕ, zero, suc, ◌+◌, ◌-◌, ◌/◌, ◌%◌, List, [], ◌∷◌, ◌++◌, ltb, drop}
use Prim.Native.Char.{code}
use Prim.Native.String.{String}
use Prim.Native.String as string
use Rattle.theory.specs.Bits.{has}
use Rattle.theory.specs.Choice.{choose}

-- ---- plain text

-- the bytes of a text in plain letters, one for each
abbrev pub bytes : String → List ℕ
bytes string.[] = []
bytes (string.◌∷◌ c s) = code c ∷ bytes s

abbrev pub newline : List ℕ
newline = bytes "\n"

abbrev pub blank : List ℕ
blank = bytes " "

abbrev pub comma : List ℕ
comma = bytes ","

-- ---- numbers

-- the last digit of a number
abbrev pub digit_of : ℕ → ℕ
digit_of n = 48 + n % 10

-- ten digits: as many as a number of 32 bits can have
abbrev pub ten_of : ℕ → List ℕ
ten_of n =
    digit_of (n / 1000000000) ∷ digit_of (n / 100000000) ∷ digit_of (n / 10000000) ∷ digit_of (n / 1000000) ∷ digit_of (n / 100000)
    ∷ digit_of (n / 10000) ∷ digit_of (n / 1000) ∷ digit_of (n / 100) ∷ digit_of (n / 10) ∷ digit_of n ∷ []

-- how many digits a number has
unfoldable pub places_of : ℕ → ℕ
places_of n =
    choose (ltb n 10) 1
    (choose (ltb n 100) 2
    (choose (ltb n 1000) 3
    (choose (ltb n 10000) 4
    (choose (ltb n 100000) 5
    (choose (ltb n 1000000) 6
    (choose (ltb n 10000000) 7
    (choose (ltb n 100000000) 8
    (choose (ltb n 1000000000) 9 10))))))))

-- a number in decimal: the ten digits less the zeros in front
unfoldable pub decimal_of : ℕ → List ℕ
decimal_of n = drop (10 - places_of n) (ten_of n)

-- ---- lines

-- a number behind a blank
abbrev pub numbered_of : ℕ → List ℕ
numbered_of n = blank ++ decimal_of n

unfoldable pub numbers_of : List ℕ → List ℕ
numbers_of [] = []
numbers_of (n ∷ ns) = numbered_of n ++ numbers_of ns

-- a word and numbers, with a blank before each
unfoldable pub row_of : List ℕ → List ℕ → List ℕ
row_of word ns = word ++ numbers_of ns

unfoldable pub line_of : List ℕ → List ℕ → List ℕ
line_of word ns = row_of word ns ++ newline

-- ---- terms with commas

-- the terms below n that the list l names, in rising order
unfoldable pub terms_to : ℕ → ℕ → List ℕ
terms_to l zero = []
terms_to l (suc n) = choose (has l n) (terms_to l n ++ n ∷ []) (terms_to l n)

-- numbers with a comma between each two
unfoldable pub commas_of : List ℕ → List ℕ
commas_of [] = []
commas_of (n ∷ []) = decimal_of n
commas_of (n ∷ m ∷ ns) = decimal_of n ++ comma ++ commas_of (m ∷ ns)

-- the terms of a list of up to sixteen
unfoldable pub terms_of : ℕ → List ℕ
terms_of l = commas_of (terms_to l 16)
