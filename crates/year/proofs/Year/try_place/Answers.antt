-- What is due first is refused, or the year is sound and has the course and the term; then the definition's choice by the list.
use Prim.Native.Nat.{◌<◌}
use mathlib.Core.Path.{sym, ◌∙◌}
use native.Mathlib.Omega.{arith}
use Rattle.std.proofs.lemmas.Result.{err_from_is_err_and}
use Rattle.year.specs.Narrow.{place_of, placing}
use Rattle.year.proofs.CheckLaws.{named_there, named_in, named_done, named_refused}
use Rattle.year.proofs.Year.try_place.Goals as goal
use Rattle.year.proofs.Year.try_place.Goals.{In_ok-named}

pub returns-in_err-named : goal.returns-in_err-named
unfolding place_of
returns-in_err-named c =
    let a = c.args in
    let p = err_from_is_err_and c.from_residual.result c.from_residual.ensures.1 in
    rw (p.1, p.2) (named_refused a.self.now a.i a.j _ (sym c.in_err-named.was ∙ c.named.ensures) _)

there : (c : In_ok-named) → (c.args.i < 64) × (c.args.j < 16)
there c = named_in c.args.self.now c.args.i c.args.j _ (sym c.in_ok-named.was ∙ c.named.ensures)

pub offset_bounds-self-i : goal.offset_bounds-self-i
offset_bounds-self-i c = omega (arith, there (goal.at.offset_bounds-self-i c).In_ok-named)

pub bounds-self-i : goal.bounds-self-i
bounds-self-i c = (there (goal.at.bounds-self-i c).In_ok-named).0

pub lists-requires : goal.lists-requires
lists-requires c = (there (goal.at.lists-requires c).In_ok-named).1

pub returns-then-not-lists : goal.returns-then-not-lists
unfolding place_of
returns-then-not-lists c =
    let a = c.args in
    named_done a.self.now a.i a.j _ (sym c.in_ok-named.was ∙ c.named.ensures) _ (placing a.self.now a.i a.j)
    (simp (sym c.lists.ensures ∙ c.if-not-lists.true))

pub place-requires : goal.place-requires
place-requires c =
    let a = c.args in
    let s = named_there a.self.now a.i a.j _ (sym c.in_ok-named.was ∙ c.named.ensures) in
    record { sound = s.0; course_there = s.1.0; term_there = (there (goal.at.place-requires c).In_ok-named).1 }

pub returns : goal.returns
unfolding place_of
returns c =
    let a = c.args in
    named_done a.self.now a.i a.j _ (sym c.in_ok-named.was ∙ c.named.ensures) _ (placing a.self.now a.i a.j)
    (simp (sym c.lists.ensures ∙ c.if-not-lists.false, c.place.ensures))
