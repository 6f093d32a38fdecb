-- Inner, not to be believed: the four sums of a term as the code counts them, course by course and after a change.
use Rattle.std.specs.Prelude.{ℕ, ◌+◌, ◌-◌, ◌≤◌, Bool, List, eqb}
use Rattle.theory.specs.Sum.{pick, sum}
use Rattle.theory.specs.Tests.{all}
use Rattle.year.specs.Year.{course_of, lists, is_fixed, is_open}
use Rattle.year.specs.Sums.{fixed_weight, open_weight, fixed_one, open_one, sums_of, sums_in}
use Rattle.year.specs.declared.Course.{Course}
use Rattle.year.specs.declared.Sums.{Sums}

-- ---- over the first n courses of two columns

abbrev pub sums_to : List ℕ → List ℕ → ℕ → ℕ → Sums
sums_to w l n j =
    sums_of
    (sum n (fixed_weight w l j))
    (sum n (fixed_weight w l j) + sum n (open_weight w l j))
    (sum n (fixed_one w l j))
    (sum n (open_one w l j))

-- ---- with another list of one course

-- what a course adds to the sums of term j
abbrev pub part_of : Course → ℕ → Sums
part_of c j = sums_of (pick (is_fixed c j) c.weight.0) (pick (lists c j) c.weight.0) (pick (is_fixed c j) 1) (pick (is_open c j) 1)

-- a part of the sums, which are within the sizes
pub record Within (s part : Sums) : Type 0 where
  pub in_fixed : part.fixed.0 ≤ s.fixed.0
  pub in_possible : part.possible.0 ≤ s.possible.0
  pub in_placed : part.placed.0 ≤ s.placed.0
  pub in_free : part.free.0 ≤ s.free.0
  pub fixed_most : s.fixed.0 ≤ 64000
  pub possible_most : s.possible.0 ≤ 64000
  pub placed_most : s.placed.0 ≤ 64
  pub free_most : s.free.0 ≤ 64

-- the sums with one part in the place of another, which goes
abbrev pub sums_moved : Sums → Sums → Sums → Sums
sums_moved s goes comes =
    sums_of
    (s.fixed.0 + comes.fixed.0 - goes.fixed.0)
    (s.possible.0 + comes.possible.0 - goes.possible.0)
    (s.placed.0 + comes.placed.0 - goes.placed.0)
    (s.free.0 + comes.free.0 - goes.free.0)

-- those of an array, after the list of course c has become l
abbrev pub changed_at : List Sums → Course → ℕ → ℕ → Sums
changed_at s c l k = sums_moved (sums_in s k) (part_of c k) (part_of (course_of c.weight.0 l) k)

-- ---- entries of an array of sums

abbrev pub fixed_in : List Sums → ℕ → ℕ
fixed_in s k = (sums_in s k).fixed.0

-- no course is open in any of the first m terms
abbrev pub none_open : ℕ → List Sums → Bool
none_open m s = all m (λ k. eqb (sums_in s k).free.0 0)
