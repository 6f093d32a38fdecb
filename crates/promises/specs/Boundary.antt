-- What the calls for other languages leave in a lent buffer. Done: the records of the year in front, as many bytes as the list has (as
-- both lists have, of a joining), and behind them what stood there. Refused, or with no plan: every byte as it was.
use Rattle.std.specs.Prelude.{ℕ, ◌+◌, ◌≤◌, ◌<◌, List, ◌++◌, ◌≡◌, length, drop}
use Rattle.year.specs.Numbers.{narrowing_number}
use Rattle.records.specs.Numbers.{reading_number}
use Rattle.records.specs.Reading.{read_list, year_read}
use Rattle.records.specs.Writing.{records_of}
use Rattle.hours.specs.Numbers.{joining_number}
use Rattle.hours.specs.Joining.{join_of, year_joined}
use Rattle.filter.specs.Filter.{filter_of}
use Rattle.filter.specs.Numbers.{filter_number}
use Rattle.boundary.specs.Calls.{filter_out, narrow_of, narrow_out, join_out}

-- a filtering of a list into the buffer out
pub record FilterLeaves (list out : List ℕ) : Type 0 where
  pub fills : reading_number (read_list list) ≡ 0 → length list ≤ length out
      → filter_number (filter_of (year_read (read_list list))).answer ≡ 0
      → filter_out list out ≡ records_of (filter_of (year_read (read_list list))).year ++ drop (length list) out
  pub unread : (reading_number (read_list list) ≡ 0 → ⊥) → filter_out list out ≡ out
  pub short : length out < length list → filter_out list out ≡ out
  pub no_plan : (filter_number (filter_of (year_read (read_list list))).answer ≡ 0 → ⊥) → filter_out list out ≡ out

-- a narrowing of a list, of any kind and with any two numbers, into the buffer out
pub record NarrowLeaves (list : List ℕ) (kind a b : ℕ) (out : List ℕ) : Type 0 where
  pub fills : reading_number (read_list list) ≡ 0 → length list ≤ length out
      → narrowing_number (narrow_of (year_read (read_list list)) kind a b).answer ≡ 0
      → narrow_out list kind a b out ≡ records_of (narrow_of (year_read (read_list list)) kind a b).year ++ drop (length list) out
  pub unread : (reading_number (read_list list) ≡ 0 → ⊥) → narrow_out list kind a b out ≡ out
  pub short : length out < length list → narrow_out list kind a b out ≡ out
  pub refused : (narrowing_number (narrow_of (year_read (read_list list)) kind a b).answer ≡ 0 → ⊥) → narrow_out list kind a b out ≡ out

-- a joining of a terms' list and an hours list into the buffer out
pub record JoinLeaves (terms hours out : List ℕ) : Type 0 where
  pub fills : joining_number (join_of terms hours) ≡ 0 → length terms + length hours ≤ length out
      → join_out terms hours out ≡ records_of (year_joined (join_of terms hours)) ++ drop (length terms + length hours) out
  pub refused : (joining_number (join_of terms hours) ≡ 0 → ⊥) → join_out terms hours out ≡ out
  pub short : length out < length terms + length hours → join_out terms hours out ≡ out

pub record BufferLeft : Type 0 where
  pub by_filtering : (list out : List ℕ) → FilterLeaves list out
  pub by_narrowing : (list : List ℕ) (kind a b : ℕ) (out : List ℕ) → NarrowLeaves list kind a b out
  pub by_joining : (terms hours out : List ℕ) → JoinLeaves terms hours out
