-- `codes::imbalance`: each arm packs what its case holds; an imbalance is small.
use mathlib.Core.Path.{sym, ap, ◌∙◌}
use Rattle.boundary.specs.Packed.{packed, measured_told}
use Rattle.year.proofs.ImbalanceLaws.{imbalance_small}
use native.Mathlib.Omega.{arith}
use borrow.Author.Rules.{rules}
use Rattle.boundary.proofs.codes.imbalance.Goals as goal

pub pack-requires : goal.pack-requires
pack-requires c = (search rules, search rules, omega (arith, imbalance_small _ _ (sym c.in-Ok.ensures)))

pub returns-in-Ok : goal.returns-in-Ok
returns-in-Ok c = c.pack.ensures ∙ ap (λ a. packed (measured_told a)) c.in-Ok.ensures
