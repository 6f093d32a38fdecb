-- A number's digits stand for it, and the first is no 0: by how many there are.
use Prim.Native.Nat.{ℕ, ◌+◌, ◌-◌, ◌*◌, ◌/◌, ◌≤◌, ◌<◌}
use mathlib.Core.List.{List, [], ◌∷◌}
use mathlib.Core.Path.{◌≡◌}
use native.Mathlib.Omega.{arith}
use lib.Dec.{ltb}
use lib.ListN.{drop, get_or}
use borrow.Author.Tests.{ltb-true, ltb-false}
use Rattle.theory.proofs.ChoiceLaws.{choose_case}
use Rattle.text.specs.Text.{digit_of, ten_of, places_of, decimal_of}
use Rattle.promises.specs.Listing.{value_from, NumbersRead}

-- ---- the last digits of n, behind digits that stand for what is above them

last_1 : (n v : ℕ) → v ≡ n / 10 → value_from v (digit_of n ∷ []) ≡ n
last_1 n v e = omega (arith, e)

last_2 : (n v : ℕ) → v ≡ n / 100 → value_from v (digit_of (n / 10) ∷ digit_of n ∷ []) ≡ n
last_2 n v e = last_1 n (v * 10 + (digit_of (n / 10) - 48)) (omega (arith, e))

last_3 : (n v : ℕ) → v ≡ n / 1000 → value_from v (digit_of (n / 100) ∷ digit_of (n / 10) ∷ digit_of n ∷ []) ≡ n
last_3 n v e = last_2 n (v * 10 + (digit_of (n / 100) - 48)) (omega (arith, e))

last_4 : (n v : ℕ) → v ≡ n / 10000 → value_from v (digit_of (n / 1000) ∷ digit_of (n / 100) ∷ digit_of (n / 10) ∷ digit_of n ∷ []) ≡ n
last_4 n v e = last_3 n (v * 10 + (digit_of (n / 1000) - 48)) (omega (arith, e))

last_5 : (n v : ℕ) → v ≡ n / 100000 → value_from v (digit_of (n / 10000) ∷ digit_of (n / 1000) ∷ digit_of (n / 100) ∷ digit_of (n / 10) ∷ digit_of n ∷ []) ≡ n
last_5 n v e = last_4 n (v * 10 + (digit_of (n / 10000) - 48)) (omega (arith, e))

last_6 : (n v : ℕ) → v ≡ n / 1000000 → value_from v (digit_of (n / 100000) ∷ digit_of (n / 10000) ∷ digit_of (n / 1000) ∷ digit_of (n / 100) ∷ digit_of (n / 10) ∷ digit_of n ∷ []) ≡ n
last_6 n v e = last_5 n (v * 10 + (digit_of (n / 100000) - 48)) (omega (arith, e))

last_7 : (n v : ℕ) → v ≡ n / 10000000 → value_from v (digit_of (n / 1000000) ∷ digit_of (n / 100000) ∷ digit_of (n / 10000) ∷ digit_of (n / 1000) ∷ digit_of (n / 100) ∷ digit_of (n / 10) ∷ digit_of n ∷ []) ≡ n
last_7 n v e = last_6 n (v * 10 + (digit_of (n / 1000000) - 48)) (omega (arith, e))

last_8 : (n v : ℕ) → v ≡ n / 100000000 → value_from v (digit_of (n / 10000000) ∷ digit_of (n / 1000000) ∷ digit_of (n / 100000) ∷ digit_of (n / 10000) ∷ digit_of (n / 1000) ∷ digit_of (n / 100) ∷ digit_of (n / 10) ∷ digit_of n ∷ []) ≡ n
last_8 n v e = last_7 n (v * 10 + (digit_of (n / 10000000) - 48)) (omega (arith, e))

last_9 : (n v : ℕ) → v ≡ n / 1000000000 → value_from v (digit_of (n / 100000000) ∷ digit_of (n / 10000000) ∷ digit_of (n / 1000000) ∷ digit_of (n / 100000) ∷ digit_of (n / 10000) ∷ digit_of (n / 1000) ∷ digit_of (n / 100) ∷ digit_of (n / 10) ∷ digit_of n ∷ []) ≡ n
last_9 n v e = last_8 n (v * 10 + (digit_of (n / 100000000) - 48)) (omega (arith, e))

last_10 : (n v : ℕ) → v ≡ n / 10000000000 → value_from v (digit_of (n / 1000000000) ∷ digit_of (n / 100000000) ∷ digit_of (n / 10000000) ∷ digit_of (n / 1000000) ∷ digit_of (n / 100000) ∷ digit_of (n / 10000) ∷ digit_of (n / 1000) ∷ digit_of (n / 100) ∷ digit_of (n / 10) ∷ digit_of n ∷ []) ≡ n
last_10 n v e = last_9 n (v * 10 + (digit_of (n / 1000000000) - 48)) (omega (arith, e))

-- ---- by the number of digits

record Reads (n : ℕ) (l : List ℕ) : Type 0 where
  value : value_from 0 l ≡ n
  front : 1 ≤ n → get_or l 0 48 ≡ 48 → ⊥

-- so many of its ten digits are printed
abbrev Printed : ℕ → ℕ → Type 0
Printed n places = Reads n (drop (10 - places) (ten_of n))

one : (n : ℕ) → n < 10 → Printed n 1
one n h = record { value = last_1 n 0 (omega arith); front = λ some e. omega arith }

two : (n : ℕ) → 10 ≤ n → n < 100 → Printed n 2
two n g h = record { value = last_2 n 0 (omega arith); front = λ some e. omega arith }

three : (n : ℕ) → 100 ≤ n → n < 1000 → Printed n 3
three n g h = record { value = last_3 n 0 (omega arith); front = λ some e. omega arith }

four : (n : ℕ) → 1000 ≤ n → n < 10000 → Printed n 4
four n g h = record { value = last_4 n 0 (omega arith); front = λ some e. omega arith }

five : (n : ℕ) → 10000 ≤ n → n < 100000 → Printed n 5
five n g h = record { value = last_5 n 0 (omega arith); front = λ some e. omega arith }

six : (n : ℕ) → 100000 ≤ n → n < 1000000 → Printed n 6
six n g h = record { value = last_6 n 0 (omega arith); front = λ some e. omega arith }

seven : (n : ℕ) → 1000000 ≤ n → n < 10000000 → Printed n 7
seven n g h = record { value = last_7 n 0 (omega arith); front = λ some e. omega arith }

eight : (n : ℕ) → 10000000 ≤ n → n < 100000000 → Printed n 8
eight n g h = record { value = last_8 n 0 (omega arith); front = λ some e. omega arith }

nine : (n : ℕ) → 100000000 ≤ n → n < 1000000000 → Printed n 9
nine n g h = record { value = last_9 n 0 (omega arith); front = λ some e. omega arith }

ten : (n : ℕ) → 1000000000 ≤ n → n < 4294967296 → Printed n 10
ten n g h = record { value = last_10 n 0 (omega arith); front = λ some e. omega arith }

reads : (n : ℕ) → n < 4294967296 → Reads n (decimal_of n)
unfolding decimal_of places_of
reads n most =
    choose_case (Printed n) (ltb n 10) 1 _ (λ is. one n (ltb-true n 10 is)) (λ a.
    choose_case (Printed n) (ltb n 100) 2 _ (λ is. two n (ltb-false n 10 a) (ltb-true n 100 is)) (λ b.
    choose_case (Printed n) (ltb n 1000) 3 _ (λ is. three n (ltb-false n 100 b) (ltb-true n 1000 is)) (λ c.
    choose_case (Printed n) (ltb n 10000) 4 _ (λ is. four n (ltb-false n 1000 c) (ltb-true n 10000 is)) (λ d.
    choose_case (Printed n) (ltb n 100000) 5 _ (λ is. five n (ltb-false n 10000 d) (ltb-true n 100000 is)) (λ e.
    choose_case (Printed n) (ltb n 1000000) 6 _ (λ is. six n (ltb-false n 100000 e) (ltb-true n 1000000 is)) (λ f.
    choose_case (Printed n) (ltb n 10000000) 7 _ (λ is. seven n (ltb-false n 1000000 f) (ltb-true n 10000000 is)) (λ g.
    choose_case (Printed n) (ltb n 100000000) 8 _ (λ is. eight n (ltb-false n 10000000 g) (ltb-true n 100000000 is)) (λ h.
    choose_case (Printed n) (ltb n 1000000000) 9 _ (λ is. nine n (ltb-false n 100000000 h) (ltb-true n 1000000000 is)) (λ i.
    ten n (ltb-false n 1000000000 i) most)))))))))

pub numbers_read : NumbersRead
numbers_read = record { value = λ n h. (reads n h).value; no_zero_in_front = λ n some h. (reads n h).front some }
