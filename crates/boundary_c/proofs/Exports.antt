-- To be read: each call as C calls it gets an answer, and its own contract, as the kit takes it from the source, asks nothing and allows
-- one end. That is what EachAnswers and OneResult (`promises`) say of the calls of `boundary`, said of the exports themselves.
-- (A file of specs/ may not name its own crate's contracts as a caller reads them, so it stands here.)
use contract.Lifetimes.{Lfts}
use Rattle.promises.specs.Unique.{One, result, and_second, and_third, and_fifth}
use Rattle.boundary_c.proofs.turfsteeple_read.Statement as read-answers
use Rattle.boundary_c.proofs.turfsteeple_filter.Statement as filter-answers
use Rattle.boundary_c.proofs.turfsteeple_narrow.Statement as narrow-answers
use Rattle.boundary_c.proofs.turfsteeple_imbalance.Statement as imbalance-answers
use Rattle.boundary_c.proofs.turfsteeple_join.Statement as join-answers
use Rattle.boundary_c.proofs.turfsteeple_read.Reads as read-contract
use Rattle.boundary_c.proofs.turfsteeple_filter.Reads as filter-contract
use Rattle.boundary_c.proofs.turfsteeple_narrow.Reads as narrow-contract
use Rattle.boundary_c.proofs.turfsteeple_imbalance.Reads as imbalance-contract
use Rattle.boundary_c.proofs.turfsteeple_join.Reads as join-contract

pub record ExportsAnswer (M : Type 1) : Type 2 where
  pub turfsteeple_read : read-answers.statement M
  pub turfsteeple_filter : filter-answers.statement M
  pub turfsteeple_narrow : narrow-answers.statement M
  pub turfsteeple_imbalance : imbalance-answers.statement M
  pub turfsteeple_join : join-answers.statement M

pub record ExportsHaveOneResult : Type 0 where
  pub turfsteeple_read : (κs : Lfts 1) → One (read-contract.Pre κs) (read-contract.Post κs) result
  pub turfsteeple_filter : (κs : Lfts 2) → One (filter-contract.Pre κs) (filter-contract.Post κs) and_second
  pub turfsteeple_narrow : (κs : Lfts 2) → One (narrow-contract.Pre κs) (narrow-contract.Post κs) and_fifth
  pub turfsteeple_imbalance : (κs : Lfts 1) → One (imbalance-contract.Pre κs) (imbalance-contract.Post κs) result
  pub turfsteeple_join : (κs : Lfts 3) → One (join-contract.Pre κs) (join-contract.Post κs) and_third
