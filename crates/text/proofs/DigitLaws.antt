-- A number's text is that of the digits before the last, and the last.
use Prim.Native.Nat.{ℕ, suc, ◌+◌, ◌-◌, ◌*◌, ◌/◌, ◌≤◌, ◌<◌}
use native.Mathlib.Omega.{arith}
use mathlib.Core.Bool.{Bool, true, false}
use mathlib.Core.List.{List, [], ◌∷◌, ◌++◌}
use mathlib.Core.Path.{◌≡◌, refl, ap, sym, ◌∙◌}
use lib.Dec.{ltb}
use lib.ListN.{drop}
use borrow.Author.Tests.{lt-ltb, le-ltb}
use Rattle.std.proofs.lemmas.Bool.{cases_lt}
use Rattle.std.proofs.lemmas.List.{drop-append-le}
use Rattle.std.proofs.Math.Logic.{◌⊎◌, inl, inr}
use Rattle.theory.specs.Choice.{choose}
use Rattle.theory.proofs.TestLaws.{same_less}
use Rattle.text.specs.Text.{digit_of, ten_of, places_of, decimal_of}
use Rattle.text.proofs.LengthLaws.{places_most}

less_by_ten : (n p : ℕ) → ltb (n / 10) p ≡ ltb n (10 * p)
less_by_ten n p = same_less (n / 10) p n (10 * p) (λ h. omega (arith, h)) (λ h. omega (arith, h))

-- the last digit is one more
places_front : (n : ℕ) → 10 ≤ n → n < 10000000000 → places_of n ≡ places_of (n / 10) + 1
unfolding places_of
places_front n low high =
    rw (
      le-ltb n 10 low,
      less_by_ten n 10,
      less_by_ten n 100,
      less_by_ten n 1000,
      less_by_ten n 10000,
      less_by_ten n 100000,
      less_by_ten n 1000000,
      less_by_ten n 10000000,
      less_by_ten n 100000000,
      lt-ltb (n / 10) 1000000000 (omega arith),
    ) (go (ltb n 100) (ltb n 1000) (ltb n 10000) (ltb n 100000) (ltb n 1000000) (ltb n 10000000) (ltb n 100000000) (ltb n 1000000000))
  where
    go : (b c d e f g h i : Bool)
        → choose b 2 (choose c 3 (choose d 4 (choose e 5 (choose f 6 (choose g 7 (choose h 8 (choose i 9 10)))))))
        ≡ choose b 1 (choose c 2 (choose d 3 (choose e 4 (choose f 5 (choose g 6 (choose h 7 (choose i 8 9))))))) + 1
    go true c d e f g h i = refl
    go false true d e f g h i = refl
    go false false true e f g h i = refl
    go false false false true f g h i = refl
    go false false false false true g h i = refl
    go false false false false false true h i = refl
    go false false false false false false true i = refl
    go false false false false false false false true = refl
    go false false false false false false false false = refl

-- the nine digits before the last
abbrev nine_of : ℕ → List ℕ
nine_of n =
    digit_of (n / 1000000000) ∷ digit_of (n / 100000000) ∷ digit_of (n / 10000000) ∷ digit_of (n / 1000000) ∷ digit_of (n / 100000) ∷ digit_of (n / 10000) ∷ digit_of (n / 1000) ∷ digit_of (n / 100) ∷ digit_of (n / 10) ∷ []

ten_front : (n : ℕ) → ten_of (n / 10) ≡ digit_of (n / 10 / 1000000000) ∷ nine_of n
ten_front n =
    let e1 : n / 10 / 10 ≡ n / 100 = omega arith in
    let e2 : n / 10 / 100 ≡ n / 1000 = omega arith in
    let e3 : n / 10 / 1000 ≡ n / 10000 = omega arith in
    let e4 : n / 10 / 10000 ≡ n / 100000 = omega arith in
    let e5 : n / 10 / 100000 ≡ n / 1000000 = omega arith in
    let e6 : n / 10 / 1000000 ≡ n / 10000000 = omega arith in
    let e7 : n / 10 / 10000000 ≡ n / 100000000 = omega arith in
    let e8 : n / 10 / 100000000 ≡ n / 1000000000 = omega arith in
    rw (e1, e2, e3, e4, e5, e6, e7, e8) refl

one_digit : (n : ℕ) → n < 10 → decimal_of n ≡ digit_of n ∷ []
unfolding decimal_of places_of
one_digit n h = rw (lt-ltb n 10 h) refl

more_digits : (n : ℕ) → 10 ≤ n → n < 10000000000 → decimal_of n ≡ decimal_of (n / 10) ++ digit_of n ∷ []
unfolding decimal_of
more_digits n low high =
    let q = places_of (n / 10) in
    let places = places_front n low high in
    let most = places_most n in
    let here : 10 - places_of n ≡ 9 - q = omega (arith, places) in
    let there : 10 - q ≡ suc (9 - q) = omega (arith, places, most) in
    ap (λ (k : ℕ). drop k (ten_of n)) here
    ∙ drop-append-le (9 - q) (nine_of n) (digit_of n ∷ []) (omega arith)
    ∙ sym (ap (λ (l : List ℕ). l ++ digit_of n ∷ [])
    (ap (λ (l : List ℕ). drop (10 - q) l) (ten_front n) ∙ ap (λ (k : ℕ). drop k (digit_of (n / 10 / 1000000000) ∷ nine_of n)) there))

-- the digits before the last, where there are any
abbrev pub front_of : ℕ → List ℕ
front_of n = choose (ltb n 10) [] (decimal_of (n / 10))

pub no_front : (n : ℕ) → n < 10 → front_of n ≡ []
no_front n h = rw (lt-ltb n 10 h) refl

pub some_front : (n : ℕ) → 10 ≤ n → front_of n ≡ decimal_of (n / 10)
some_front n h = rw (le-ltb n 10 h) refl

pub last_digit : (n : ℕ) → n < 4294967296 → decimal_of n ≡ front_of n ++ digit_of n ∷ []
last_digit n h = go (cases_lt n 10)
  where
    go : (n < 10) ⊎ (10 ≤ n) → decimal_of n ≡ front_of n ++ digit_of n ∷ []
    go (inl l) = one_digit n l ∙ sym (ap (λ (f : List ℕ). f ++ digit_of n ∷ []) (no_front n l))
    go (inr l) = more_digits n l (omega arith) ∙ sym (ap (λ (f : List ℕ). f ++ digit_of n ∷ []) (some_front n l))
