-- The loop's invariant: of the first t, none exceeds by more than the width what all before it weigh but the heaviest of those.
use Prim.Native.Nat.{ℕ, ◌+◌, ◌-◌, ◌≤◌, ◌<◌}
use Rattle.neighbours.specs.Opened.{at}
use Rattle.neighbours.proofs.Opened.is_calm.Given as goal

abbrev pub invariant-loop-t : goal.invariant-loop-t
invariant-loop-t l = (k : ℕ) → k < l.t → at l.self.upto (k + 1) ≤ l.width + at l.self.upto (k - 1) + at l.self.upto k
