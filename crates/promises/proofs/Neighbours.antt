-- Where rule 12's test fires no subset sums to within the range: over lists in `theory`, and so over courses.
use mathlib.Core.Path.{subst}
use Prim.Native.Nat.{◌≤◌}
use lib.ListN.{take}
use Rattle.theory.specs.Order.{lighter, order, keep}
use Rattle.theory.specs.Sum.{pick}
use Rattle.theory.proofs.OrderLaws.{lighter_up, lighter_sum}
use Rattle.theory.proofs.NeighbourLaws.{no_choice}
use Rattle.promises.specs.Neighbours.{NoSubsetWithin}

pub no_subset_within : NoSubsetWithin
no_subset_within n w test chosen a b few e =
    subst (λ s. a ≤ s → s ≤ b → ⊥) (lighter_sum w n few test (λ i. pick (chosen i) (w i)))
    (no_choice w chosen (keep test (take n (order (lighter w) n))) a b (lighter_up w n few test) e)
