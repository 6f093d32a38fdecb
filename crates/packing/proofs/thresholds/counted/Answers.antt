-- Where even the heaviest counts itself, what the sizes count for is the sum of those from t on; elsewhere it is added up.
use mathlib.Core.Path.{◌∙◌}
use native.Mathlib.Omega.{arith}
use Rattle.packing.proofs.ThresholdLaws.{from_counts}
use Rattle.packing.proofs.thresholds.counted.Goals as goal

pub returns-then-load-t : goal.returns-then-load-t
returns-then-load-t c =
    let l = c.args.load in
    let rest = c.requires.rest_is in
    (rest.0 ∙ from_counts l.course.now l.c.0 c.args.t.0 l.heaviest.0 l.fits.top c.if-load-t.true, omega (arith, rest.1))
