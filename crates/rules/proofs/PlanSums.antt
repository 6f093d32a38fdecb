-- The sums of a term: what lists it is fixed there or open there.
use Prim.Native.Nat.{ℕ, ◌+◌}
use mathlib.Core.Bool.{Bool, true, false, not, ◌&&◌, true≢false}
use mathlib.Core.Path.{◌≡◌, refl, sym, ◌∙◌}
use borrow.Author.Tests.{eq-eqb}
use Rattle.theory.specs.Sum.{pick, sum}
use Rattle.theory.proofs.Counting.{sum_halves}
use Rattle.year.specs.Year.{course_at, lists, is_fixed, is_open}
use Rattle.year.specs.Sums.{fixed_count, open_count}
use Rattle.year.specs.declared.Course.{Course}
use Rattle.year.specs.declared.Year.{Year}
use Rattle.rules.proofs.Reading.{fixed_lists}

-- ---- a course and a term

pub fixed_listed : (c : Course) (j : ℕ) → is_fixed c j ≡ true → lists c j ≡ true
fixed_listed c j e = fixed_lists c j j e ∙ eq-eqb j j refl

-- an open course lists the term, and the term alone is not its list
pub open_facts : (c : Course) (j : ℕ) → is_open c j ≡ true → (lists c j ≡ true) × (is_fixed c j ≡ false)
open_facts c j e = go (lists c j) (is_fixed c j) refl refl e
  where
    go : (l f : Bool) → lists c j ≡ l → is_fixed c j ≡ f → l && not f ≡ true → (lists c j ≡ true) × (is_fixed c j ≡ false)
    go true true a b q = absurd (true≢false (sym q))
    go true false a b q = (a, b)
    go false f a b q = absurd (true≢false (sym q))

-- ---- a term's sums

-- what lists j is fixed there or open there
pub halves : (y : Year) (j : ℕ) (w : ℕ → ℕ) → sum y.courses (λ i. pick (lists (course_at y i) j) (w i))
    ≡ sum y.courses (λ i. pick (is_fixed (course_at y i) j) (w i)) + sum y.courses (λ i. pick (is_open (course_at y i) j) (w i))
halves y j w = sum_halves y.courses (λ i. is_fixed (course_at y i) j) (λ i. lists (course_at y i) j) w (λ i l. fixed_listed (course_at y i) j)

pub count_halves : (y : Year) (j : ℕ) → sum y.courses (λ i. pick (lists (course_at y i) j) 1) ≡ fixed_count y j + open_count y j
unfolding fixed_count open_count
count_halves y j = halves y j (λ i. 1)
