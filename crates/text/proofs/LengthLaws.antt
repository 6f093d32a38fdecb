-- How long numbers, rows and lists of terms are at most.
use Prim.Native.Nat.{ℕ, zero, suc, ◌+◌, ◌-◌, ◌≤◌}
use native.Mathlib.Omega.{arith}
use mathlib.Core.Bool.{Bool, true, false}
use mathlib.Core.List.{List, [], ◌∷◌, ◌++◌}
use mathlib.Core.Path.{◌≡◌, refl, ap, ◌∙◌}
use lib.Dec.{ltb}
use lib.ListN.{length, length-append, length-drop}
use borrow.Author.Tests.{ltb-true, ltb-false}
use Rattle.theory.specs.Bits.{has}
use Rattle.theory.specs.Choice.{choose}
use Rattle.theory.specs.Sum.{sum, pick}
use Rattle.text.specs.Text.{ten_of, places_of, decimal_of, numbered_of, numbers_of, row_of, line_of, terms_to, commas_of, terms_of}
use Rattle.theory.proofs.SumLaws.{pick_le}
use Rattle.text.specs.Put.{comma_of}
use Rattle.text.proofs.TextLaws.{some_of, commas_append}

-- ---- numbers

-- d, and one more for each power of a list up to the first above n
steps_of : List ℕ → ℕ → ℕ → ℕ
steps_of [] d n = d
steps_of (p ∷ ps) d n = choose (ltb n p) d (steps_of ps (d + 1) n)

steps_least : (ps : List ℕ) (d n : ℕ) → d ≤ steps_of ps d n
unfolding steps_of
steps_least [] d n = omega arith
steps_least (p ∷ ps) d n = go (ltb n p) (steps_least ps (d + 1) n)
  where
    go : (b : Bool) → d + 1 ≤ steps_of ps (d + 1) n → d ≤ choose b d (steps_of ps (d + 1) n)
    go true later = omega arith
    go false later = omega arith

steps_mono : (ps : List ℕ) (d n m : ℕ) → n ≤ m → steps_of ps d n ≤ steps_of ps d m
unfolding steps_of
steps_mono [] d n m h = omega arith
steps_mono (p ∷ ps) d n m h = go (ltb n p) (ltb m p) refl refl (steps_mono ps (d + 1) n m h) (steps_least ps (d + 1) m)
  where
    go : (a b : Bool) → ltb n p ≡ a → ltb m p ≡ b → steps_of ps (d + 1) n ≤ steps_of ps (d + 1) m → d + 1 ≤ steps_of ps (d + 1) m
        → choose a d (steps_of ps (d + 1) n) ≤ choose b d (steps_of ps (d + 1) m)
    go true true e f ih l = omega arith
    go true false e f ih l = omega arith
    go false true e f ih l = absurd (omega (arith, ltb-false n p e, ltb-true m p f))
    go false false e f ih l = ih

powers : List ℕ
powers = 10 ∷ 100 ∷ 1000 ∷ 10000 ∷ 100000 ∷ 1000000 ∷ 10000000 ∷ 100000000 ∷ 1000000000 ∷ []

places_steps : (n : ℕ) → places_of n ≡ steps_of powers 1 n
unfolding places_of steps_of powers
places_steps n = refl

-- a larger number has no fewer digits
pub places_mono : (n m : ℕ) → n ≤ m → places_of n ≤ places_of m
places_mono n m h = omega (arith, places_steps n, places_steps m, steps_mono powers 1 n m h)

-- no number has more than ten
pub places_most : (n : ℕ) → places_of n ≤ 10
unfolding places_of
places_most n =
    go (ltb n 10) (ltb n 100) (ltb n 1000) (ltb n 10000) (ltb n 100000) (ltb n 1000000) (ltb n 10000000) (ltb n 100000000) (ltb n 1000000000)
  where
    go : (a b c d e f g h i : Bool)
        → choose a 1 (choose b 2 (choose c 3 (choose d 4 (choose e 5 (choose f 6 (choose g 7 (choose h 8 (choose i 9 10)))))))) ≤ 10
    go true b c d e f g h i = omega arith
    go false true c d e f g h i = omega arith
    go false false true d e f g h i = omega arith
    go false false false true e f g h i = omega arith
    go false false false false true f g h i = omega arith
    go false false false false false true g h i = omega arith
    go false false false false false false true h i = omega arith
    go false false false false false false false true i = omega arith
    go false false false false false false false false true = omega arith
    go false false false false false false false false false = omega arith

pub decimal_length : (n : ℕ) → length (decimal_of n) ≡ places_of n
unfolding decimal_of
decimal_length n = omega (arith, length-drop (10 - places_of n) (ten_of n), places_most n)

-- ---- lines

pub numbers_length : (n : ℕ) (ns : List ℕ) → length (numbers_of (n ∷ ns)) ≡ 1 + places_of n + length (numbers_of ns)
unfolding numbers_of
numbers_length n ns = length-append (numbered_of n) (numbers_of ns) ∙ omega (arith, decimal_length n)

pub no_numbers : length (numbers_of []) ≡ 0
unfolding numbers_of
no_numbers = refl

pub row_length : (word ns : List ℕ) → length (row_of word ns) ≡ length word + length (numbers_of ns)
unfolding row_of
row_length word ns = length-append word (numbers_of ns)

pub line_length : (word ns : List ℕ) → length (line_of word ns) ≡ length word + length (numbers_of ns) + 1
unfolding line_of
line_length word ns = length-append (row_of word ns) (10 ∷ []) ∙ omega (arith, row_length word ns)

-- ---- terms with commas

-- a term's digits and a mark
abbrev term_size : ℕ → ℕ
term_size j = 1 + places_of j

-- one term more
commas_length : (ts : List ℕ) (n : ℕ) → length (commas_of (ts ++ n ∷ [])) ≡ length (commas_of ts) + (pick (some_of ts) 1 + places_of n)
commas_length ts n =
    ap length (commas_append ts n)
    ∙ length-append (commas_of ts) (comma_of (some_of ts) ++ decimal_of n)
    ∙ omega (arith, length-append (comma_of (some_of ts)) (decimal_of n), mark (some_of ts), decimal_length n)
  where
    mark : (b : Bool) → length (comma_of b) ≡ pick b 1
    mark true = refl
    mark false = refl

-- a mark counted for each term, the first too
terms_below : (l n : ℕ) → length (commas_of (terms_to l n)) + pick (some_of (terms_to l n)) 1 ≤ sum n term_size
unfolding sum terms_to commas_of
terms_below l zero = omega arith
terms_below l (suc n) = go (has l n) (terms_to l n) (terms_below l n)
  where
    go : (b : Bool) (ts : List ℕ) → length (commas_of ts) + pick (some_of ts) 1 ≤ sum n term_size
        → let us = choose b (ts ++ n ∷ []) ts in length (commas_of us) + pick (some_of us) 1 ≤ sum n term_size + term_size n
    go true ts h = omega (arith, commas_length ts n, pick_le (some_of (ts ++ n ∷ [])) 1)
    go false ts h = omega arith

-- sixteen terms of one or two digits, and fifteen commas
pub terms_length : (l : ℕ) → length (terms_of l) ≤ 37
unfolding terms_of sum places_of commas_of
terms_length l = go (terms_to l 16) (terms_below l 16)
  where
    go : (ts : List ℕ) → length (commas_of ts) + pick (some_of ts) 1 ≤ 38 → length (commas_of ts) ≤ 37
    go [] h = omega arith
    go (t ∷ ts) h = omega arith
