-- Which year values, buffers and filterings are answered by 8, 9 and 13, exactly; the narrowings' numbers stand in Narrowings, the
-- imbalance's in ImbalancePlan, those of byte strings in Refusals.
use Rattle.std.specs.Prelude.{ℕ, ◌≤◌, ◌<◌, true, ◌↔◌, ◌≡◌, length}
use Rattle.year.specs.Sound.{Sound, is_sound}
use Rattle.year.specs.declared.Year.{Year}
use Rattle.records.specs.Numbers.{writing_number}
use Rattle.records.specs.Writing.{records_of, write_answer}
use Rattle.filter.specs.Filter.{filter_of}
use Rattle.filter.specs.Numbers.{filter_number, filter_rule, filter_rounds}

-- is_sound tells sound years from others
abbrev pub SoundTold : Type 0
SoundTold = (y : Year) → (is_sound y ≡ true) ↔ Sound y

-- a writing into a buffer of `room` bytes
pub record WritingDue : Type 0 where
  pub unsound : (y : Year) (room : ℕ) → (writing_number (write_answer y room) ≡ 8) ↔ (Sound y → ⊥)
  pub short : (y : Year) (room : ℕ) → (writing_number (write_answer y room) ≡ 9) ↔ (Sound y × (room < length (records_of y)))
  pub done : (y : Year) (room : ℕ) → (writing_number (write_answer y room) ≡ 0) ↔ (Sound y × (length (records_of y) ≤ room))

-- a filtering: a no plan comes with one of the twelve rules and a round that was run
pub record FilteringDue : Type 0 where
  pub unsound : (y : Year) → (filter_number (filter_of y).answer ≡ 8) ↔ (Sound y → ⊥)
  pub named : (y : Year) → filter_number (filter_of y).answer ≡ 13
      → (1 ≤ filter_rule (filter_of y).answer) × (filter_rule (filter_of y).answer ≤ 12) × (1 ≤ filter_rounds (filter_of y).answer)
