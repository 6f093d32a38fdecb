-- Each export's own theorem, and that its contract is an equation for the result, or one for the result and one for the lent list.
use Rattle.promises.proofs.Unique.{by_one, by_two}
use Rattle.boundary_c.proofs.Exports.{ExportsAnswer, ExportsHaveOneResult}
use Rattle.boundary_c.proofs.turfsteeple_read.Met as read-call
use Rattle.boundary_c.proofs.turfsteeple_filter.Met as filter-call
use Rattle.boundary_c.proofs.turfsteeple_narrow.Met as narrow-call
use Rattle.boundary_c.proofs.turfsteeple_imbalance.Met as imbalance-call
use Rattle.boundary_c.proofs.turfsteeple_join.Met as join-call

pub exports_answer : (M : Type 1) → ExportsAnswer M
exports_answer M = record {
  turfsteeple_read = read-call.met;
  turfsteeple_filter = filter-call.met;
  turfsteeple_narrow = narrow-call.met;
  turfsteeple_imbalance = imbalance-call.met;
  turfsteeple_join = join-call.met;
}

pub exports_have_one_result : ExportsHaveOneResult
exports_have_one_result = record {
  turfsteeple_read = λ κs. by_one _;
  turfsteeple_filter = λ κs. by_two _ _ _;
  turfsteeple_narrow = λ κs. by_two _ _ _;
  turfsteeple_imbalance = λ κs. by_one _;
  turfsteeple_join = λ κs. by_two _ _ _;
}
