-- The loop's invariant: the sum over the sizes gone by, of which each counts for at most 64,000.
use Prim.Native.Nat.{ℕ, ◌≤◌, ◌<◌, ◌*◌}
use mathlib.Core.Path.{◌≡◌}
use lib.ListN.{length, get_or}
use Rattle.theory.specs.Sum.{sum as total}
use Rattle.year.specs.declared.Credits.{Credits}
use Rattle.packing.proofs.sizes.sum_by.Given as goal

abbrev pub invariant-loop-size : goal.invariant-loop-size
invariant-loop-size g l = record {
  is : (f : ℕ → ℕ)
      → ((i : ℕ) (x r : Credits) → i < length l.sizes → x.0 ≡ get_or l.sizes i 0 → goal.F-post g l.count x r → r.0 ≡ f i)
      → l.sum.0 ≡ total l.size-index f;
  small : l.sum.0 ≤ 64000 * l.size-index;
}
