-- A year carries the sums of its terms (request A4): wherever it comes from and whatever calls are made on it, they are those over its
-- lists.
use Rattle.std.specs.Prelude.{false, List, ◌≡◌, ℕ}
use Rattle.theory.specs.Tab.{tab}
use Rattle.year.specs.Doors.{empty_year}
use Rattle.year.specs.Sums.{sums_at}
use Rattle.year.specs.Sound.{is_sound}
use Rattle.year.specs.declared.Year.{Year}
use Rattle.records.specs.Reading.{read_list, year_read}
use Rattle.hours.specs.Joining.{join_of, year_joined}
use Rattle.promises.specs.Sequence.{Call, after}

-- the sums of all sixteen entries are those over the lists; past the last term they are 0
abbrev pub Carries : Year → Type 0
Carries y = y.sums ≡ tab 16 (sums_at y)

pub record SumsKept : Type 0 where
  pub empty : Carries empty_year
  -- the year of any list, and of any terms' list and hours list, also one that is refused
  pub imported : (s : List ℕ) → Carries (year_read (read_list s))
  pub joined : (t h : List ℕ) → Carries (year_joined (join_of t h))
  -- and the year in hand after any calls, refused ones among them
  pub kept : (cs : List Call) (y : Year) → Carries y → Carries (after cs y)
  -- a year value that carries others is not sound: refusal 8
  pub others_refused : (y : Year) → (Carries y → ⊥) → is_sound y ≡ false
