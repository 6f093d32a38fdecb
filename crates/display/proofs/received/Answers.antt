-- `received`: a list that reads is filtered, and a refused one is told by number and place.
use Rattle.std.proofs.Common.{◌++◌, sym, ap, subst, ◌∙◌}
use Rattle.text.specs.Page.{Room}
use Rattle.display.proofs.ListingLaws as law
use Rattle.display.proofs.received.Goals as goal

pub filtered-requires : goal.filtered-requires
filtered-requires c = record { room = subst (Room c.args.page.now) (law.received_by _ _ (sym c.in-Ok.ensures)) c.requires }

pub overflow_cast-refusal : goal.overflow_cast-refusal
overflow_cast-refusal c = record { fits = law.place_small _ _ (sym c.in-Err.ensures) }

pub with_pair-requires : goal.with_pair-requires
with_pair-requires c =
    subst (Room c.args.page.now) (law.refused_by _ _ _ (sym c.in-Err.ensures) c.fault_number-number.ensures.number) c.requires

pub returns-in-Ok : goal.returns-in-Ok
returns-in-Ok c = c.filtered.ensures ∙ ap (λ t. c.args.page.now ++ t) (sym (law.received_by _ _ (sym c.in-Ok.ensures)))

pub returns-in-Err : goal.returns-in-Err
returns-in-Err c =
    c.with_pair.ensures ∙ ap (λ t. c.args.page.now ++ t) (sym (law.refused_by _ _ _ (sym c.in-Err.ensures) c.fault_number-number.ensures.number))
