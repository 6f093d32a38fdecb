-- The loop's invariant: the flag says whether the first i entries are good.
use Prim.Native.Nat.{◌≤◌, ◌-◌}
use mathlib.Core.Path.{◌≡◌}
use Rattle.theory.specs.Tests.{all}
use Rattle.year.specs.Sound.{course_good}
use Rattle.year.proofs.sound.courses_good.Given as goal

abbrev pub invariant-loop-i : goal.invariant-loop-i
invariant-loop-i l = (l.i ≤ 64) × (l.good ≡ all l.i (course_good l.y))

abbrev pub decreases-loop-i : goal.decreases-loop-i
decreases-loop-i l = 64 - l.i
