-- `write_sound`: the terms' records and then the courses' are what is written.
use Prim.Native.Nat.{ℕ, ◌*◌}
use mathlib.Core.List.{List}
use mathlib.Core.Path.{◌∙◌, ap}
use Rattle.records.specs.Writing.{course_block, joined}
use Rattle.records.specs.Laid.{laid}
use Rattle.records.proofs.WriteLaws.{laid_all}
use Rattle.records.proofs.write_sound.Goals as goal

pub returns : goal.returns
returns c =
    let y = c.args.y.now.year in
    c.put_courses.ensures
    ∙ ap (λ (d : List ℕ). laid d (y.terms * 16) (joined (course_block y) y.courses)) c.put_terms.ensures
    ∙ laid_all y c.args.buf.now c.args.y.now.sound c.requires.room
