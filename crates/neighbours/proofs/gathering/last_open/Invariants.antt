-- The loop's invariant: no course from place k on is open.
use Prim.Native.Nat.{ℕ, ◌≤◌, ◌<◌}
use mathlib.Core.Bool.{false}
use mathlib.Core.Path.{◌≡◌}
use Rattle.neighbours.specs.Opened.{at, open_in}
use Rattle.neighbours.proofs.gathering.last_open.Given as goal

abbrev pub invariant-loop-k : goal.invariant-loop-k
invariant-loop-k l = (t : ℕ) → l.k ≤ t → t < l.s.courses → open_in l.s.weight.now l.s.list l.j (at l.order t) ≡ false
