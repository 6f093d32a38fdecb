-- The codes of the calls for other languages, taken apart, are what the inner calls answer: nothing is lost in packing.
use Rattle.std.specs.Prelude.{ℕ, ◌^◌, ◌<◌, List, ◌≡◌}
use Rattle.boundary.specs.Packed.{Told, apart}
use Rattle.boundary.specs.Calls.{read_told, read_code, imbalance_told, imbalance_code, filter_told, filter_code, narrow_told, narrow_code, join_told, join_code}

-- a byte for the number, a byte for the detail, 48 bits for the value; and taking the code apart gives what was told
pub record Tells (code : ℕ) (t : Told) : Type 0 where
  pub number_fits : t.number < 256
  pub detail_fits : t.detail < 256
  pub value_fits : t.value < 2 ^ 48
  pub undone : apart code ≡ t

pub record CodesDue : Type 0 where
  pub by_reading : (list : List ℕ) → Tells (read_code list) (read_told list)
  pub by_imbalance : (list : List ℕ) → Tells (imbalance_code list) (imbalance_told list)
  pub by_filtering : (list : List ℕ) (room : ℕ) → Tells (filter_code list room) (filter_told list room)
  pub by_narrowing : (list : List ℕ) (kind a b room : ℕ) → Tells (narrow_code list kind a b room) (narrow_told list kind a b room)
  pub by_joining : (terms hours : List ℕ) (room : ℕ) → Tells (join_code terms hours room) (join_told terms hours room)
