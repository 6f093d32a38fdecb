-- The bounds that are stored are within the sizes.
use mathlib.Core.Path.{ap, subst, ◌∙◌}
use Rattle.std.specs.Prelude.{Ok}
use Rattle.year.proofs.DoorLaws.{with_term_sound}
use Rattle.frame.specs.Bounds.{Fits}
use Rattle.frame.specs.State.{year_in}
use Rattle.frame.proofs.State.tighten.Goals as goal

pub invariant_of-self : goal.invariant_of-self
invariant_of-self c =
    let a = c.args in
    let fits = subst Fits (c.in_ok-term.was ∙ ap Ok c.in-Some.is) c.requires.fits in
    record { sound = with_term_sound (year_in a.self.now) a.j c.in-Some.term a.self.now.sound c.requires.in_range fits }
