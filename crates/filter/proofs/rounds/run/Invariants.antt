-- The loop's invariant is `BeforeRound`; each altering round lowers the leeway.
use Rattle.frame.specs.State.{year_in}
use Rattle.rules.proofs.Leeway.{leeway}
use Rattle.filter.proofs.BeforeRound.{BeforeRound}
use Rattle.filter.proofs.rounds.run.Given as goal

abbrev pub invariant-loop-rule : goal.invariant-loop-rule
invariant-loop-rule l = BeforeRound l.fn.y.year l.kept l.s l.n

abbrev pub decreases-loop-rule : goal.decreases-loop-rule
decreases-loop-rule l = leeway (year_in l.s)
