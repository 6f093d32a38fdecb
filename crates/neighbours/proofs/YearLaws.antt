-- A year out of its columns: rule 12 there is rule 12.
use Prim.Native.Nat.{ℕ, ◌≤◌, ◌<◌}
use mathlib.Core.Bool.{false}
use mathlib.Core.List.{List}
use mathlib.Core.Path.{◌≡◌, refl, sym, ap, ◌∙◌}
use native.Mathlib.Omega.{arith}
use lib.ListN.{get_or}
use Rattle.year.specs.Year.{term_at}
use Rattle.year.specs.Sums.{fixed_credits, open_count, sums_at, no_sums}
use Rattle.year.specs.Sound.{Sound}
use Rattle.year.specs.declared.Sums.{Sums}
use Rattle.year.specs.declared.Year.{Year}
use Rattle.year.proofs.SumLaws.{sums_read, none_open_lem}
use Rattle.rules.specs.Spares.{up}
use Rattle.rules.specs.Neighbours.{needs, takes, cannot_be, verdict12}
use Rattle.neighbours.specs.Opened.{open_in, Ordered}
use Rattle.neighbours.specs.Verdicts.{rising_in, verdict_in, cannot_in, Columns}
use Rattle.neighbours.proofs.ColumnLaws.{ordered_by}

module _ (y : Year) where
  pub rising_is : up y ≡ rising_in y.weight y.courses
  unfolding up
  rising_is = refl

  pub verdict_read : (j i : ℕ) → verdict12 y j i ≡ verdict_in y.weight y.list y.courses j (needs y j) (takes y j) i
  unfolding verdict12 up
  verdict_read j i = refl

  pub cannot_read : (j : ℕ) → cannot_be y j ≡ cannot_in y.weight y.list y.courses j (term_at y j) (fixed_credits y j)
  unfolding up
  cannot_read j = refl

module _ (y : Year) (s : Sound y) where
  pub columns_of : Columns y.weight y.list y.courses
  columns_of = record {
    few = s.courses_most;
    weighed = omega (arith, s);
    listed = omega (arith, s);
    light = λ i l. (s.course_sound i l).weight_most;
  }

  pub in_order : (order : List ℕ) → order ≡ up y → Ordered y.weight y.list order y.courses
  in_order order e = ordered_by y.weight y.list y.courses columns_of order (e ∙ rising_is y)

  module _ (j : ℕ) (l : j < y.terms) where
    pub range_of : (needs y j ≤ takes y j) × (takes y j ≤ 64000)
    range_of = let t = s.term_sound j l in (omega (arith, t), omega (arith, t))

    pub sums_of : get_or y.sums j no_sums ≡ sums_at y j
    sums_of = sums_read y y.sums s.sums_kept j (omega (arith, s))

    pub fixed_of : (get_or y.sums j no_sums).fixed.0 ≡ fixed_credits y j
    unfolding sums_at fixed_credits
    fixed_of = ap (λ (u : Sums). u.fixed.0) sums_of

    -- where its sums say so, no course is open
    pub none_of : (get_or y.sums j no_sums).free.0 ≡ 0 → (i : ℕ) → i < y.courses → open_in y.weight y.list j i ≡ false
    unfolding sums_at open_count
    none_of e = none_open_lem y.weight y.list j y.courses (sym (ap (λ (u : Sums). u.free.0) sums_of) ∙ e)
