-- What is gathered are the open courses: their sums are calm, or it fires on all of them, or can on some rest, or on none.
use Prim.Native.Nat.{◌+◌, ◌-◌}
use mathlib.Core.Path.{◌≡◌, refl, sym, ◌∙◌}
use native.Mathlib.Omega.{arith}
use Rattle.theory.specs.Neighbours.{fires}
use Rattle.frame.specs.State.{year_in}
use Rattle.neighbours.specs.Opened.{at}
use Rattle.neighbours.specs.Verdicts.{set_in, Columns}
use Rattle.neighbours.proofs.ColumnLaws.{calm_says, quiet_says, gathered_calm, gathered_quiet, all_lent, all_fires}
use Rattle.neighbours.proofs.YearLaws.{columns_of}
use Rattle.neighbours.proofs.terms.of_open.Goals as goal
use Rattle.neighbours.proofs.terms.of_open.Goals.{After-fires, Start}

columns : (b : Start) → let s = b.args.s.now in Columns s.weight.now s.list s.courses
columns b = columns_of (year_in b.args.s.now) b.args.s.now.sound

pub returns-then-is_calm : goal.returns-then-is_calm
returns-then-is_calm c =
    let s = c.args.s.now in
    let r = c.args.range in
    let width = r.most.0 - r.least.0 + 1 in
    let l = columns (goal.at.returns-then-is_calm c).Start in
    calm_says s.weight.now s.list s.courses l c.args.j width r.least.0 r.most.0
    (gathered_calm s.weight.now s.list s.courses l c.args.j c.gathered-opened.ensures width r.most.0 (c.is_calm.ensures c.if-is_calm.true))
    (omega arith)
    (omega (arith, r.ordered))

pub fires-requires : goal.fires-requires
fires-requires c =
    let s = c.args.s.now in
    record { lent = all_lent s.weight.now s.list s.courses (columns (goal.at.fires-requires c).Start) c.args.j c.gathered-opened.ensures }

-- the test of the sums is that of the open courses
all : (c : After-fires) → let a = (goal.at.After-fires c).Start.args in
    let s = a.s.now in
    c.fires.result ≡ fires (at s.weight.now) (set_in s.weight.now s.list s.courses a.j) a.range.least.0 a.range.most.0
all c =
    let s = c.args.s.now in
    let r = c.args.range in
    c.fires.ensures
    ∙ all_fires s.weight.now s.list s.courses (columns (goal.at.After-fires c).Start) c.args.j c.gathered-opened.ensures r.least.0 r.most.0

pub returns-then-fires : goal.returns-then-fires
returns-then-fires c = (sym (all (goal.at.returns-then-fires c).After-fires) ∙ c.if-fires.true, refl)

pub returns-then-may_fire : goal.returns-then-may_fire
returns-then-may_fire c = sym (all (goal.at.returns-then-may_fire c).After-fires) ∙ c.if-fires.false

pub returns : goal.returns
returns c =
    let s = c.args.s.now in
    let r = c.args.range in
    let l = columns (goal.at.returns c).Start in (
      sym (all (goal.at.returns c).After-fires) ∙ c.if-fires.false,
      quiet_says s.weight.now s.list s.courses l c.args.j r.least.0 r.most.0
          (gathered_quiet s.weight.now s.list s.courses l c.args.j c.gathered-opened.ensures r.least.0 r.most.0 (c.may_fire.ensures c.if-may_fire.false))
          r.ordered,
    )
