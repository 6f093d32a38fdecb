-- The placing of a year in which every course has one term.
use Rattle.std.specs.Prelude.{true, ◌≡◌}
use Rattle.year.specs.Sums.{all_placed}
use Rattle.year.specs.Plans.{Placing, PlacedBy, the_placing}
use Rattle.year.specs.Sound.{Sound}
use Rattle.year.specs.declared.Year.{Year}

-- where every course has one term, the_placing puts each there; and where some placing does so, every course has one term
pub record OnePlacing : Type 0 where
  pub placed_there : (y : Year) → all_placed y ≡ true → PlacedBy y (the_placing y)
  pub all_placed_lem : (y : Year) (p : Placing) → Sound y → PlacedBy y p → all_placed y ≡ true
