-- `hours_by_itself`: the edition's byte chooses as the definition does.
use native.Mathlib.Omega.{arith}
use borrow.Author.Tests.{ne_eqb}
use Rattle.records.specs.Bytes.{byte_at}
use Rattle.hours.specs.Entries.{hours_by_itself}
use Rattle.hours.proofs.entries.hours_by_itself.Goals as goal

pub returns-in-1 : goal.returns-in-1
unfolding hours_by_itself
returns-in-1 c = rw c.in-1.is c.weighed_by.ensures

pub returns-in-2 : goal.returns-in-2
unfolding hours_by_itself
returns-in-2 c = rw c.in-2.is c.weighed_by-in-2.ensures

pub returns-in_default : goal.returns-in_default
unfolding hours_by_itself
returns-in_default c =
    let b = byte_at c.args.s.now c.args.at 2 in
    simp (ne_eqb b 1 (λ e. omega arith), ne_eqb b 2 (λ e. omega arith))
