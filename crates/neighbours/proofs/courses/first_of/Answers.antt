-- An open course's verdict is the one by its place, and a course that is not open has none.
use Prim.Native.Nat.{◌-◌}
use mathlib.Core.Bool.{true}
use mathlib.Core.Path.{◌≡◌, refl, sym, ap, subst, ◌∙◌}
use native.Mathlib.Omega.{arith}
use Rattle.rules.specs.declared.Verdict.{Verdict}
use Rattle.rules.specs.declared.Verdict.TheVariants.{Stays, Struck, Fixed}
use Rattle.year.specs.Year.{is_open}
use Rattle.year.specs.declared.Course.{Course}
use Rattle.frame.specs.State.{year_in}
use Rattle.neighbours.specs.Lightest.{Lent}
use Rattle.neighbours.specs.Opened.{at, open_in}
use Rattle.neighbours.specs.Verdicts.{verdict_in, verdict_by, Columns}
use Rattle.neighbours.proofs.ColumnLaws.{closed_stays, some_open, rest_lent, verdict_is}
use Rattle.neighbours.proofs.CourseLaws.{none_more}
use Rattle.neighbours.proofs.YearLaws.{columns_of}
use Rattle.neighbours.proofs.courses.first_of.Goals as goal
use Rattle.neighbours.proofs.courses.first_of.Goals.{After-is_open, then-is_open+else-ne, else-is_open}

verdict_stays : (v : Verdict) → (v ≡ Struck → ⊥) → (v ≡ Fixed → ⊥) → v ≡ Stays
verdict_stays Stays d e = refl
verdict_stays Struck d e = absurd (d refl)
verdict_stays Fixed d e = absurd (e refl)

columns : (c : After-is_open) → let s = c.args.s.now in Columns s.weight.now s.list s.courses
columns c = columns_of (year_in c.args.s.now) c.args.s.now.sound

-- whether it is open
open_is : (c : After-is_open) → open_in c.args.s.now.weight.now c.args.s.now.list c.args.j c.loop-course.course ≡ c.is_open.result
open_is c = sym (ap (λ x. is_open x c.args.j) c.course_in-c.ensures) ∙ sym c.is_open.ensures

weight_at : (c : After-is_open) → c.course_in-c.result.weight.0 ≡ at c.args.s.now.weight.now c.loop-course.course
weight_at c = ap (λ (x : Course). x.weight.0) c.course_in-c.ensures

-- the verdict on an open course
verdict_at : (c : After-is_open) (v : Verdict) → c.is_open.result ≡ true
    → v ≡ verdict_by c.args.opened.now.upto c.args.opened.now.count (at c.args.opened.now.place c.loop-course.course) c.course_in-c.result.weight.0 c.args.range.least.0 c.args.range.most.0
    → v ≡ verdict_in c.args.s.now.weight.now c.args.s.now.list c.args.s.now.courses c.args.j c.args.range.least.0 c.args.range.most.0 c.loop-course.course
verdict_at c v o e =
    let a = c.args in
    let s = a.s.now in
    let all = a.opened.now in
    e
    ∙ ap (λ w. verdict_by all.upto all.count (at all.place c.loop-course.course) w a.range.least.0 a.range.most.0) (weight_at c)
    ∙ verdict_is s.weight.now s.list s.courses (columns c) a.j c.requires.gathered c.loop-course.course c.loop-course-test.true (open_is c ∙ o) a.range.least.0 a.range.most.0

pub verdict-verdict-requires-clause-lent : goal.verdict-verdict-requires-clause-lent
verdict-verdict-requires-clause-lent c =
    let t = (goal.at.verdict-verdict-requires-clause-lent c).After-is_open in
    let a = c.args in
    let s = a.s.now in
    let lent = rest_lent s.weight.now s.list s.courses (columns t) a.j c.requires.gathered c.loop-course.course c.loop-course-test.true (open_is t ∙ c.if-is_open.true) in
    subst (Lent a.opened.now.upto (a.opened.now.count - 1) (at a.opened.now.place c.loop-course.course)) (sym (weight_at t)) lent

pub verdict-verdict-requires-clause-some : goal.verdict-verdict-requires-clause-some
verdict-verdict-requires-clause-some c =
    let t = (goal.at.verdict-verdict-requires-clause-some c).After-is_open in
    let s = c.args.s.now in
    some_open s.weight.now s.list s.courses (columns t) c.args.j c.requires.gathered c.loop-course.course c.loop-course-test.true (open_is t ∙ c.if-is_open.true)

pub returns-then-ne : goal.returns-then-ne
returns-then-ne c =
    let t = (goal.at.returns-then-ne c).After-is_open in
    record {
      from = omega arith;
      within = omega arith;
      before = c.loop-course.invariant;
      here = verdict_at t c.verdict-verdict.result c.if-is_open.true c.verdict-verdict.ensures;
      speaks = λ e. let q = rw e at c.if-ne.ensures in cc;
    }

pub loop-course-preserved : goal.loop-course-preserved
loop-course-preserved c =
    let t = (goal.at.loop-course-preserved c).After-is_open in
    let a = c.args in
    let s = a.s.now in
    let stays : verdict_in s.weight.now s.list s.courses a.j a.range.least.0 a.range.most.0 c.loop-course.course ≡ Stays =
    elim c.if-is_open.branch [
      | then-is_open+else-ne q ↦ sym (verdict_at t q.verdict-verdict.result q.if-is_open.true q.verdict-verdict.ensures) ∙ verdict_stays q.verdict-verdict.result (λ e. let r = rw e at q.if-ne.ensures in cc) (λ e. let r = rw e at q.if-ne.ensures in cc)
      | else-is_open q ↦ closed_stays s.weight.now s.list s.courses (columns t) a.j a.range.least.0 a.range.most.0 c.loop-course.course (open_is t ∙ q.if-is_open.false)
    ] in
    none_more (year_in s) a.j a.range.least.0 a.range.most.0 a.start c.loop-course.course c.loop-course.invariant stays
