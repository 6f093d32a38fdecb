-- What is due first is refused, or the year is sound and has the course and the term; then the definition's choices: by the
-- list, and by whether it is the term alone.
use Prim.Native.Nat.{◌<◌}
use mathlib.Core.Bool.{true}
use mathlib.Core.Path.{◌≡◌, sym, ◌∙◌}
use native.Mathlib.Omega.{arith}
use borrow.Author.Tests.{eq-eqb, ne_eqb}
use Rattle.std.proofs.lemmas.Result.{err_from_is_err_and}
use Rattle.year.specs.Year.{course_at, lists}
use Rattle.year.specs.Narrow.{bar_of, barring}
use Rattle.year.proofs.CheckLaws.{named_there, named_in, named_done, named_refused}
use Rattle.year.proofs.Year.try_bar.Goals as goal
use Rattle.year.proofs.Year.try_bar.Goals.{Else-not-lists, In_ok-named}

pub returns-in_err-named : goal.returns-in_err-named
unfolding bar_of
returns-in_err-named c =
    let a = c.args in
    let p = err_from_is_err_and c.from_residual.result c.from_residual.ensures.1 in
    rw (p.1, p.2) (named_refused a.self.now a.i a.j _ (sym c.in_err-named.was ∙ c.named.ensures) _)

there : (c : In_ok-named) → (c.args.i < 64) × (c.args.j < 16)
there c = named_in c.args.self.now c.args.i c.args.j _ (sym c.in_ok-named.was ∙ c.named.ensures)

pub offset_bounds-self-i : goal.offset_bounds-self-i
offset_bounds-self-i c = omega (arith, there (goal.at.offset_bounds-self-i c).In_ok-named)

pub bounds-self-i : goal.bounds-self-i
bounds-self-i c = (there (goal.at.bounds-self-i c).In_ok-named).0

pub lists-requires : goal.lists-requires
lists-requires c = (there (goal.at.lists-requires c).In_ok-named).1

pub returns-then-not-lists : goal.returns-then-not-lists
unfolding bar_of
returns-then-not-lists c =
    let a = c.args in
    named_done a.self.now a.i a.j _ (sym c.in_ok-named.was ∙ c.named.ensures) _ (barring a.self.now a.i a.j)
    (simp (sym c.lists.ensures ∙ c.if-not-lists.true))

-- past that the term is listed
listed : (c : Else-not-lists)
    → lists (course_at c.args.self.now c.args.i) c.args.j ≡ true
listed c = sym c.lists.ensures ∙ c.if-not-lists.false

pub power-requires : goal.power-requires
power-requires c = (there (goal.at.power-requires c).In_ok-named).1

pub returns-then-list-power : goal.returns-then-list-power
unfolding bar_of
returns-then-list-power c =
    let l = (goal.at.returns-then-list-power c).Else-not-lists in
    let a = c.args in
    named_done a.self.now a.i a.j _ (sym c.in_ok-named.was ∙ c.named.ensures) _ (barring a.self.now a.i a.j)
    (simp (listed l, eq-eqb _ _ (c.if-list-power.true ∙ c.power.ensures)))

pub strike-requires : goal.strike-requires
strike-requires c =
    let l = (goal.at.strike-requires c).Else-not-lists in
    let a = c.args in
    let s = named_there a.self.now a.i a.j _ (sym c.in_ok-named.was ∙ c.named.ensures) in
    record { sound = s.0; course_there = s.1.0; term_there = (there (goal.at.strike-requires c).In_ok-named).1; listed = listed l }

pub returns : goal.returns
unfolding bar_of
returns c =
    let l = (goal.at.returns c).Else-not-lists in
    let a = c.args in
    named_done a.self.now a.i a.j _ (sym c.in_ok-named.was ∙ c.named.ensures) _ (barring a.self.now a.i a.j)
    (simp (listed l, ne_eqb _ _ (λ e. c.if-list-power.false (e ∙ sym c.power.ensures)), c.strike.ensures))
