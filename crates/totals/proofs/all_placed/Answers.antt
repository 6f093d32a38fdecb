-- The sums that a sound year carries say which courses are open.
use mathlib.Core.Path.{◌∙◌}
use Rattle.year.proofs.OnePlacing.{none_open_is}
use Rattle.totals.proofs.all_placed.Goals as goal

pub returns : goal.returns
returns c = c.none_open.ensures ∙ none_open_is c.args.y.now.year c.args.y.now.sound
