-- `put_courses`: the blocks of the courses passed so far are laid behind the terms.
use Prim.Native.Nat.{◌*◌}
use mathlib.Core.Path.{◌≡◌}
use Rattle.records.specs.Writing.{course_block, joined}
use Rattle.records.specs.Laid.{laid}
use Rattle.records.proofs.blocks.put_courses.Given as goal

abbrev pub invariant-loop-i : goal.invariant-loop-i
invariant-loop-i l = l.buf ≡ laid l.initial.buf (l.y.year.terms * 16) (joined (course_block l.y.year) l.i)
