-- Request A5: when rule 12's test fires on a set of courses, no subset of it sums to within a to b.
use Rattle.std.specs.Prelude.{ℕ, ◌≤◌, Bool, true, ◌≡◌, take}
use Rattle.theory.specs.Neighbours.{fires}
use Rattle.theory.specs.Order.{lighter, order, keep}
use Rattle.theory.specs.Sum.{pick, sum}

-- the set: of n courses those that pass a test, from lightest to heaviest. The subset: those of them that are chosen
abbrev pub NoSubsetWithin : Type 0
NoSubsetWithin =
    (n : ℕ) (weight : ℕ → ℕ) (test chosen : ℕ → Bool) (a b : ℕ) → n ≤ 64
    → fires weight (keep test (take n (order (lighter weight) n))) a b ≡ true
    → let s = sum n (λ i. pick (test i) (pick (chosen i) (weight i))) in a ≤ s → s ≤ b → ⊥
