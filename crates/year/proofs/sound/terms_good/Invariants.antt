-- The loop's invariant: the flag says whether the first j entries are good.
use Prim.Native.Nat.{◌≤◌, ◌-◌}
use mathlib.Core.Path.{◌≡◌}
use Rattle.theory.specs.Tests.{all}
use Rattle.year.specs.Sound.{term_good}
use Rattle.year.proofs.sound.terms_good.Given as goal

abbrev pub invariant-loop-j : goal.invariant-loop-j
invariant-loop-j l = (l.j ≤ 16) × (l.good ≡ all l.j (term_good l.y))

abbrev pub decreases-loop-j : goal.decreases-loop-j
decreases-loop-j l = 16 - l.j
