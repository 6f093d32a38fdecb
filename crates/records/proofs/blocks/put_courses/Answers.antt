-- `put_courses`: the blocks of the courses passed so far are laid behind the terms.
use Prim.Native.Nat.{ℕ, ◌+◌, ◌*◌}
use mathlib.Core.List.{List}
use mathlib.Core.Path.{◌∙◌, ap, ap₂, refl}
use native.Mathlib.Omega.{arith}
use Rattle.records.specs.Writing.{course_bytes, course_block, joined}
use Rattle.records.specs.Laid.{laid}
use Rattle.records.proofs.LayLaws as law
use Rattle.records.proofs.blocks.put_courses.Goals as goal

pub loop-i-init : goal.loop-i-init
unfolding joined
loop-i-init c = law.laid_nothing c.args.buf.now (c.args.y.now.year.terms * 16)

pub loop-i-preserved : goal.loop-i-preserved
loop-i-preserved c =
    let y = c.args.y.now.year in
    let i = c.loop-i.i in
    c.put.ensures
    ∙ ap₂ (λ (d r : List ℕ). laid d ((y.terms + i) * 16) r) c.loop-i.invariant (c.course_bytes.ensures ∙ ap (course_bytes i) c.course_of-c.ensures)
    ∙ law.laid_block c.args.buf.now (y.terms * 16) (course_block y) i ((y.terms + i) * 16) (λ k. refl) (omega arith) (omega (arith, c.requires.room))
