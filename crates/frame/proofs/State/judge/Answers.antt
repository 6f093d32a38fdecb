-- A course that stays leaves the state as it is; of any other the new list and the sums are stored.
use mathlib.Core.Path.{◌≡◌}
use Rattle.year.specs.Year.{course_at}
use Rattle.year.specs.declared.Course.{Course}
use Rattle.rules.specs.Step.{joined, judged}
use Rattle.frame.specs.State.{year_in, step_in}
use Rattle.frame.proofs.VerdictLaws.{UnderVerdict, under_verdict, stored_sound}
use Rattle.frame.proofs.State.judge.Goals as goal
use Rattle.frame.proofs.State.judge.Goals.{Start}

-- the course under its verdict
under : (b : Start) (d : Course) → let a = b.args in
    let s = a.self.now in
    d ≡ course_at (year_in s) a.i → UnderVerdict a.v a.i a.j d (step_in s) (joined (step_in s) (judged (year_in s) a.i a.j a.v))
under b d e =
    let a = b.args in
    let s = a.self.now in
    under_verdict (year_in s) s.sound a.i a.j b.requires.in_range.0 a.v b.requires.only_open d e s.altered

pub list_after-after-requires-clause-is_listed : goal.list_after-after-requires-clause-is_listed
list_after-after-requires-clause-is_listed c =
    (under (goal.at.list_after-after-requires-clause-is_listed c).Start c.course_in-c.result c.course_in-c.ensures).is_listed

pub changed-self-requires-clause-counted : goal.changed-self-requires-clause-counted
changed-self-requires-clause-counted c =
    (under (goal.at.changed-self-requires-clause-counted c).Start c.course_in-c.result c.course_in-c.ensures).asks.1

pub invariant_of-self : goal.invariant_of-self
invariant_of-self c =
    let a = c.args in
    let s = a.self.now in
    record {
      sound =
          stored_sound (year_in s) s.sound a.i a.j c.requires.in_range.0 a.v c.requires.only_open c.course_in-c.result c.course_in-c.ensures
          c.requires.in_range.1 (λ e. let q = rw e at c.if-eq.ensures in cc) _ c.list_after-after.ensures _ c.changed-self.ensures;
    }

pub returns : goal.returns
returns c =
    (under (goal.at.returns c).Start c.course_in-c.result c.course_in-c.ensures).alters
    (λ e. let q = rw e at c.if-eq.ensures in cc)
    _
    c.list_after-after.ensures
    _
    c.changed-self.ensures
