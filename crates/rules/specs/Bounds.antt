-- Rules 1, 2, 4 and 5: a term's bounds against its own sums, and against the other terms' bounds. Rules 4 and 5 are rules 1 and 2
-- with counts.
use Rattle.std.specs.Prelude.{ℕ, ◌+◌, ◌-◌, ltb}
use Rattle.theory.specs.Choice.{choose}
use Rattle.theory.specs.Others.{others}
use Rattle.year.specs.Bound.{bound}
use Rattle.year.specs.Sums.{fixed_of, open_of, all_of}
use Rattle.year.specs.declared.Quantity.{Quantity}
use Rattle.year.specs.declared.Quantity.TheVariants.{Credits, Counts}
use Rattle.year.specs.declared.Side.{Side}
use Rattle.year.specs.declared.Side.TheVariants.{Low, High}
use Rattle.year.specs.declared.Year.{Year}
use Rattle.rules.specs.Step.{Change, fails, move, raise_lower, Step}

-- raise the low bound to what is fixed; lower the high bound to fixed plus open
abbrev pub own_sums : Quantity → Side → Year → ℕ → Change
own_sums q Low y j = move Low q y j (fixed_of q y j)
own_sums q High y j = move High q y j (fixed_of q y j + open_of q y j)

-- rule 1: raise low credits to p; lower high credits to P
unfoldable pub rule1 : Year → ℕ → Step
rule1 = raise_lower 1 (own_sums Credits)

-- rule 4: raise low count to the number fixed; lower high count to fixed plus open
unfoldable pub rule4 : Year → ℕ → Step
rule4 = raise_lower 4 (own_sums Counts)

-- the sum over the other terms of their bounds on one side
abbrev pub others_of : Side → Quantity → Year → ℕ → ℕ
others_of s q y j = others y.terms j (bound s q y)

-- raise the low bound to all less the sum of the other terms' high bounds (0 if negative);
-- lower the high bound to all less the sum of the others' low bounds; negative is no plan
abbrev pub other_terms : Quantity → Side → Year → ℕ → Change
other_terms q Low y j = move Low q y j (all_of q y - others_of High q y j)
other_terms q High y j = choose (ltb (all_of q y) (others_of Low q y j)) fails (move High q y j (all_of q y - others_of Low q y j))

-- rule 2: with credits, of which S are all
unfoldable pub rule2 : Year → ℕ → Step
rule2 = raise_lower 2 (other_terms Credits)

-- rule 5: with counts, and n for S
unfoldable pub rule5 : Year → ℕ → Step
rule5 = raise_lower 5 (other_terms Counts)
