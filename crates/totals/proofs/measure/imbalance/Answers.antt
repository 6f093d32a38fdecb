-- A year that is not sound is refused; otherwise it is measured.
use mathlib.Core.Path.{sym, ap, ◌∙◌}
use Rattle.year.specs.Imbalance.{imbalance_of}
use Rattle.year.proofs.SoundYearLaws.{inside_same, none_unsound}
use Rattle.year.proofs.ImbalanceLaws.{imbalance_unsound}
use Rattle.totals.proofs.measure.imbalance.Goals as goal

pub returns : goal.returns
returns c = c.imbalance_sound.ensures ∙ ap imbalance_of (inside_same c.args.y c.sound.result c.sound.ensures c.in-Some.y c.in-Some.is)

pub returns-in_default : goal.returns-in_default
returns-in_default c = sym (imbalance_unsound c.args.y (none_unsound c.args.y c.sound.result c.sound.ensures c.in_default.is))
