-- What is due first is refused, and leaves the year as it was; else the move that is made is the definition's, by what is told of it.
use mathlib.Core.Path.{refl, sym, ap, ap₂, ◌∙◌}
use native.Mathlib.Omega.{arith}
use lib.Dec.{ltb}
use Rattle.std.specs.Prelude.{Ok}
use Rattle.std.proofs.lemmas.Result.{err_from_is_err_and}
use Rattle.year.specs.Narrow.{answered, tighten_of}
use Rattle.year.proofs.CheckLaws.{done, bound_in, bound_made, bound_refused}
use Rattle.year.proofs.Year.try_tighten.Goals as goal

pub returns-in_err-checked : goal.returns-in_err-checked
unfolding tighten_of
returns-in_err-checked g c =
    let a = c.args in
    let p = err_from_is_err_and c.from_residual.result c.from_residual.ensures.1 in
    let test = ap₂ ltb (c.number.ensures ∙ c.largest.ensures) c.number-2.ensures in
    rw (p.1, p.2) (bound_refused a.self.now a.j _ _ test _ (sym c.in_err-checked.was ∙ c.checked.ensures) _)

pub offset_bounds-self-j : goal.offset_bounds-self-j
offset_bounds-self-j g c = omega (arith, bound_in c.args.self.now c.args.j _ _ refl _ (sym c.in_ok-checked.was ∙ c.checked.ensures))

pub bounds-self-j : goal.bounds-self-j
bounds-self-j g c = bound_in c.args.self.now c.args.j _ _ refl _ (sym c.in_ok-checked.was ∙ c.checked.ensures)

pub returns-in-Err : goal.returns-in-Err
unfolding tighten_of
returns-in-Err g c =
    let a = c.args in
    let test = ap₂ ltb (c.number.ensures ∙ c.largest.ensures) c.number-2.ensures in
    bound_made a.self.now a.j _ _ test _ (sym c.in_ok-checked.was ∙ c.checked.ensures) _ _ (sym c.in-Err.is ∙ c.tighten.ensures)

pub bound-requires : goal.bound-requires
bound-requires g c = bound_in c.args.self.now c.args.j _ _ refl _ (sym c.in_ok-checked.was ∙ c.checked.ensures)

pub returns-in-Ok-None : goal.returns-in-Ok-None
unfolding tighten_of
returns-in-Ok-None g c =
    let a = c.args in
    let test = ap₂ ltb (c.number.ensures ∙ c.largest.ensures) c.number-2.ensures in
    bound_made a.self.now a.j _ _ test _ (sym c.in_ok-checked.was ∙ c.checked.ensures) _ _ (sym (c.in-Ok-None.is ∙ ap Ok c.in-Ok-None.field-0-is) ∙ c.tighten.ensures)

pub returns-in-Ok-Some : goal.returns-in-Ok-Some
unfolding tighten_of
returns-in-Ok-Some g c =
    let a = c.args in
    let test = ap₂ ltb (c.number.ensures ∙ c.largest.ensures) c.number-2.ensures in
    ap (answered done) c.bound.ensures
    ∙ bound_made a.self.now a.j _ _ test _ (sym c.in_ok-checked.was ∙ c.checked.ensures) _ _ (sym (c.in-Ok-Some.is ∙ ap Ok c.in-Ok-Some.field-0-is) ∙ c.tighten.ensures)
