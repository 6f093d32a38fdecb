-- The open courses of the state's year are gathered, and the range is what the term needs and takes.
use mathlib.Core.Path.{sym, ap₂, ◌∙◌}
use Rattle.frame.specs.State.{year_in}
use Rattle.neighbours.specs.Verdicts.{verdict_in}
use Rattle.neighbours.proofs.ColumnLaws.{quiet_says, gathered_quiet}
use Rattle.neighbours.proofs.YearLaws.{columns_of}
use Rattle.neighbours.proofs.courses.next_verdict.Goals as goal

pub returns-then-not-may_fire : goal.returns-then-not-may_fire
returns-then-not-may_fire c =
    let s = c.args.s.now in
    let j = c.args.j in
    let r = c.of-range.result in
    let e = c.of-range.ensures in
    let l = columns_of (year_in s) s.sound in
    let still =
    quiet_says s.weight.now s.list s.courses l j r.least.0 r.most.0
    (gathered_quiet s.weight.now s.list s.courses l j c.gathered-opened.ensures r.least.0 r.most.0 (c.may_fire.ensures c.if-not-may_fire.true))
    r.ordered in
    λ k h m. sym (ap₂ (λ least most. verdict_in s.weight.now s.list s.courses j least most k) e.0 e.1) ∙ still k m
