-- The three outcomes are the definition's. An open course lists the term, so its list without the term names the other terms.
use Prim.Native.Nat.{◌+◌, ◌-◌}
use mathlib.Core.Bool.{true, not}
use mathlib.Core.Path.{◌≡◌, sym, ap, ◌∙◌}
use native.Mathlib.Omega.{arith}
use Rattle.std.proofs.Common.{Continue}
use Rattle.theory.specs.Tests.{any}
use Rattle.theory.proofs.TestLaws.{and_true}
use Rattle.theory.specs.Tab.{tab}
use Rattle.theory.proofs.BitLaws.{has_le}
use Rattle.year.specs.Year.{lists, is_fixed}
use Rattle.rules.specs.Spares.{blocked}
use Rattle.walks.specs.Sparing.{stuck, charged_at}
use Rattle.walks.specs.Walking.{walk_as, taken}
use Rattle.walks.proofs.SparingLaws.{blocked_is, charged_is}
use Rattle.walks.proofs.walking.walk_step.Goals as goal
use Rattle.walks.proofs.walking.walk_step.Goals.{After-blocked, Start}

is_listed : (c : Start) → lists c.args.c c.args.j ≡ true
is_listed c = (and_true (lists c.args.c c.args.j) (not (is_fixed c.args.c c.args.j)) c.requires.course_open).0

-- the test is the definition's
skipped : (c : After-blocked) → blocked c.args.j c.args.w.spare c.args.c ≡ c.blocked.result
skipped c =
    let a = c.args in
    sym (c.blocked.ensures ∙ ap (λ q. any 16 (stuck a.w.spare (a.c.list - q))) c.power.ensures ∙ blocked_is a.w.spare a.c a.j (is_listed (goal.at.After-blocked c).Start))

pub overflow_sub-others : goal.overflow_sub-others
overflow_sub-others c = omega (arith, c.power.ensures, has_le c.args.c.list c.args.j (is_listed (goal.at.overflow_sub-others c).Start))

pub returns-then-blocked : goal.returns-then-blocked
unfolding taken
returns-then-blocked c = simp (sym c.if-stops.ensures, skipped (goal.at.returns-then-blocked c).After-blocked ∙ c.if-blocked.true)

pub returns : goal.returns
unfolding taken
returns c =
    let a = c.args in
    let b = (goal.at.returns c).After-blocked in
    let rest =
    c.charged.ensures
    ∙ ap (λ q. tab 16 (charged_at a.w.spare (a.c.list - q))) c.power.ensures
    ∙ charged_is a.w.spare a.c a.j (is_listed (goal.at.returns c).Start) in
    simp (sym c.if-stops.ensures, skipped b ∙ c.if-blocked.false) (ap (λ s. Continue (walk_as s (a.w.credits.0 + a.c.weight.0) (a.w.count.0 + 1))) rest)
