-- The loop's invariant: what is left to walk gives what the whole walk gives. Each course adds at most 1,000 credits.
use Prim.Native.Nat.{◌+◌, ◌*◌, ◌≤◌}
use mathlib.Core.Path.{◌≡◌}
use lib.ListN.{take, drop}
use Rattle.walks.specs.Walking.{walk_over}
use Rattle.walks.proofs.walking.walked.Given as goal

abbrev pub invariant-loop-i : goal.invariant-loop-i
invariant-loop-i l =
    let s = l.fn.s in
    let all = take s.courses l.way.order.now in
    record {
      rest : walk_over s.weight.now s.list l.j l.until (drop l.i-index all) l.w ≡ walk_over s.weight.now s.list l.j l.until all l.fn.begun;
      room : (l.w.credits.0 ≤ 64000 + 1000 * l.i-index) × (l.w.count.0 ≤ 64 + l.i-index);
    }
