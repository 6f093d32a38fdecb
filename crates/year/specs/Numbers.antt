-- The paper's numbers given back, for each case of each answer. A number that an answer does not name is 0.
use Rattle.std.specs.Prelude.{ℕ, Result, Ok, Err}
use Rattle.year.specs.declared.NarrowingRefusal.{NarrowingRefusal}
use Rattle.year.specs.declared.NarrowingRefusal.TheVariants as narrowing
use Rattle.year.specs.declared.ImbalanceRefusal.{ImbalanceRefusal}
use Rattle.year.specs.declared.ImbalanceRefusal.TheVariants as imbalance

abbrev pub narrowing_number : Result (Unit {0}) NarrowingRefusal → ℕ
narrowing_number (Ok done) = 0
narrowing_number (Err narrowing.Unsound) = 8
narrowing_number (Err narrowing.Missing) = 10
narrowing_number (Err narrowing.Outside) = 11
narrowing_number (Err narrowing.Crossing) = 12

abbrev pub imbalance_number : Result ℕ ImbalanceRefusal → ℕ
imbalance_number (Ok v) = 0
imbalance_number (Err imbalance.Unsound) = 8
imbalance_number (Err imbalance.Unsettled) = 14

abbrev pub imbalance_value : Result ℕ ImbalanceRefusal → ℕ
imbalance_value (Ok v) = v
imbalance_value (Err refusal) = 0
