-- Years that a program makes by hand: the sums filled in, and a year from its terms and its courses.
use Rattle.std.specs.Prelude.{ℕ, List, map, replicate}
use Rattle.theory.specs.Choice.{choose}
use Rattle.year.specs.Sums.{no_sums}
use Rattle.year.specs.Doors.{with_sums}
use Rattle.year.specs.Sound.{sound_but_sums}
use Rattle.year.specs.declared.Term.{Term}
use Rattle.year.specs.declared.Course.{Course}
use Rattle.year.specs.declared.Year.{Year}

-- a year value that is sound but for its sums gets them; any other stays as it is
unfoldable pub summed_of : Year → Year
summed_of y = choose (sound_but_sums y) (with_sums y) y

-- m terms and n courses from the arrays of both, its sums not yet filled in
abbrev pub unsummed : ℕ → ℕ → List Term → List Course → Year
unsummed m n ts cs = record {
  terms = m;
  courses = n;
  term = ts;
  weight = map (λ c. c.weight.0) cs;
  list = map (λ c. c.list) cs;
  sums = replicate 16 no_sums;
}

-- a year by hand
abbrev pub by_hand : ℕ → ℕ → List Term → List Course → Year
by_hand m n ts cs = summed_of (unsummed m n ts cs)
