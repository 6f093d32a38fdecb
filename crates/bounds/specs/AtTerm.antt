-- Rules 1, 2, 4 and 5 on the values that they read: a term, its sums, and the sums of the bounds over all terms.
use Rattle.std.specs.Prelude.{ℕ, ◌+◌, ◌-◌, false, List, ltb}
use Rattle.theory.specs.Sum.{sum}
use Rattle.frame.specs.Bounds.{low_in, high_in, least_in, most_in, outcome, Outcome}
use Rattle.year.specs.Bound.{bound_of}
use Rattle.year.specs.Within.{within}
use Rattle.year.specs.declared.Quantity.{Quantity}
use Rattle.year.specs.declared.Quantity.TheVariants.{Credits, Counts}
use Rattle.year.specs.declared.Side.{Side}
use Rattle.year.specs.declared.Side.TheVariants.{Low, High}
use Rattle.year.specs.declared.Term.{Term}
use Rattle.year.specs.declared.Sums.{Sums}
use Rattle.year.specs.declared.Year.{Year}
use Rattle.rules.specs.Step.{Step}
use Rattle.rules.specs.Bounds.{rule1, rule2, rule4, rule5}
use Rattle.bounds.specs.declared.Totals.{Totals}

-- ---- sums of bounds

-- the sums of the bounds over the first n entries
abbrev pub totals_to : List Term → ℕ → Totals
totals_to t n = record {
  low = record { 0 = sum n (low_in t) };
  high = record { 0 = sum n (high_in t) };
  least = record { 0 = sum n (least_in t) };
  most = record { 0 = sum n (most_in t) };
}

-- with one term more
abbrev pub totals_with : Totals → Term → Totals
totals_with x t = record {
  low = record { 0 = x.low.0 + t.low.0 };
  high = record { 0 = x.high.0 + t.high.0 };
  least = record { 0 = x.least.0 + t.least.0 };
  most = record { 0 = x.most.0 + t.most.0 };
}

-- with one term altered from t to v
abbrev pub totals_after : Totals → Term → Term → Totals
totals_after x t v = record {
  low = record { 0 = x.low.0 - t.low.0 + v.low.0 };
  high = record { 0 = x.high.0 - t.high.0 + v.high.0 };
  least = record { 0 = x.least.0 - t.least.0 + v.least.0 };
  most = record { 0 = x.most.0 - t.most.0 + v.most.0 };
}

-- the sum of one bound
abbrev pub total_in : Side → Quantity → Totals → ℕ
total_in Low Credits x = x.low.0
total_in High Credits x = x.high.0
total_in Low Counts x = x.least.0
total_in High Counts x = x.most.0

-- ---- rules 1 and 4

abbrev pub own_number : Quantity → ℕ
own_number Credits = 1
own_number Counts = 4

-- what is fixed, and what is fixed or open
abbrev pub fixed_among : Quantity → Sums → ℕ
fixed_among Credits u = u.fixed.0
fixed_among Counts u = u.placed.0

abbrev pub possible_among : Quantity → Sums → ℕ
possible_among Credits u = u.possible.0
possible_among Counts u = u.placed.0 + u.free.0

abbrev pub own_sums_of : Quantity → Term → Sums → Outcome
own_sums_of q t u = outcome (own_number q) false t (within q t (fixed_among q u) (possible_among q u))

-- ---- rules 2 and 5

abbrev pub other_number : Quantity → ℕ
other_number Credits = 2
other_number Counts = 5

-- the sum over the other terms is the sum over all less the term's own
abbrev pub others_in : Side → Quantity → Totals → Term → ℕ
others_in s q x t = total_in s q x - bound_of s q t

abbrev pub other_terms_of : Quantity → Term → Totals → ℕ → Outcome
other_terms_of q t x all =
    outcome (other_number q) (ltb all (others_in Low q x t)) t (within q t (all - others_in High q x t) (all - others_in Low q x t))

-- ---- the paper's rules, by quantity

abbrev pub own_rule : Quantity → Year → ℕ → Step
own_rule Credits = rule1
own_rule Counts = rule4

abbrev pub other_rule : Quantity → Year → ℕ → Step
other_rule Credits = rule2
other_rule Counts = rule5
