-- A year made by hand, and its sums filled in: its courses are read as they were given, and there is no sound year that cannot be made
-- so.
use Rattle.std.specs.Prelude.{ℕ, true, false, List, ◌≡◌, length, get_or}
use Rattle.theory.specs.Tab.{tab}
use Rattle.year.specs.Year.{zero_course, course_at}
use Rattle.year.specs.Doors.{with_sums}
use Rattle.year.specs.Sound.{sound_but_sums, Sound}
use Rattle.year.specs.ByHand.{summed_of, by_hand}
use Rattle.year.specs.declared.Term.{Term}
use Rattle.year.specs.declared.Course.{Course}
use Rattle.year.specs.declared.Year.{Year}

pub record MadeByHand : Type 0 where
  -- course i is the one that was given, and zeros past the last
  pub as_given : (m n : ℕ) (ts : List Term) (cs : List Course) (i : ℕ) → course_at (by_hand m n ts cs) i ≡ get_or cs i zero_course
  -- every sound year, made of its own courses
  pub every_year : (y : Year) → Sound y → by_hand y.terms y.courses y.term (tab 64 (course_at y)) ≡ y
  -- every year value, sound or not, its sums set aside (its columns have the length that the program's arrays have)
  pub every_value : (y : Year) → length y.weight ≡ 64 → length y.list ≡ 64
      → with_sums (by_hand y.terms y.courses y.term (tab 64 (course_at y))) ≡ with_sums y
  -- a value that is sound but for its sums gets them, and nothing else of it is altered; any other comes back as it was given
  pub filled_in : (y : Year) → sound_but_sums y ≡ true → Sound (summed_of y) × (summed_of y ≡ with_sums y)
  pub left_alone : (y : Year) → sound_but_sums y ≡ false → summed_of y ≡ y
