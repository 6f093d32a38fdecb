-- Request A2: rule 11 tried only at the sizes that are at most c/2, and at c/2 rounded down, is rule 11.
use Rattle.std.specs.Prelude.{◌≡◌}
use Rattle.year.specs.declared.Year.{Year}
use Rattle.rules.specs.Packing.{rule11}
use Rattle.rules.specs.Thresholds.{rule11_at_sizes}

-- of every year, sound or not: the same answer, the same year
abbrev pub SizesAreEnough : Type 0
SizesAreEnough = (y : Year) → rule11_at_sizes y ≡ rule11 y
