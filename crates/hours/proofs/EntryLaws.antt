-- What one record that was taken says of its bytes, and what it holds.
use Prim.Native.Nat.{ℕ, ◌<◌}
use mathlib.Core.Bool.{Bool, true, false, ◌&&◌}
use mathlib.Core.List.{List}
use mathlib.Core.Path.{◌≡◌, refl}
use native.Mathlib.Omega.{arith}
use lib.Dec.{eqb}
use borrow.Author.Tests.{eqb-true}
use Rattle.theory.specs.Choice.{choose}
use Rattle.year.specs.declared.Term.{Term}
use Rattle.year.specs.declared.Course.{Course}
use Rattle.records.specs.Bytes.{letter_at, byte_at, word_at, blank_from}
use Rattle.records.specs.Reading.{bears_next, term_record}
use Rattle.records.specs.declared.Fault.TheVariants as fault
use Rattle.std.specs.Prelude.{Ok, Err}
use Rattle.records.proofs.EntryLaws.{number_is, TermRead, term_read, CourseHeld, course_held}
use Rattle.hours.specs.Numbers.{edition_number}
use Rattle.hours.specs.Entries.{weight_by, weighed, hours_by_itself, hours_record, term_alone}
use Rattle.hours.specs.declared.Edition.{Edition}
use Rattle.hours.specs.declared.Edition.TheVariants.{First, Second}

-- ---- a term's record

pub alone_read : (s : List ℕ) (at next : ℕ) (t : Term) → term_alone s at next ≡ Ok t → (letter_at s at ≡ 84) × TermRead s at next t
unfolding term_alone
alone_read s at next t e = go (eqb (letter_at s at) 84) refl e
  where
    go : (a : Bool) → eqb (letter_at s at) 84 ≡ a → choose a (term_record s at next) (Err fault.Letter) ≡ Ok t → (letter_at s at ≡ 84) × TermRead s at next t
    go true p e = (eqb-true _ _ p, term_read s at next t e)
    go false p e = let x : ◌≡◌ {A = ℕ} 0 1 = cc in absurd (omega arith)

-- ---- an hours record

-- the edition that it names, and the course by that edition
pub record HoursHeld (s : List ℕ) (at terms : ℕ) (c : Course) : Type 0 where
  pub edition : Edition
  pub named : byte_at s at 2 ≡ edition_number edition
  pub held : CourseHeld (weight_by edition (word_at s at 4) (word_at s at 6)) (word_at s at 8) (eqb (byte_at s at 3) 0 && blank_from s at 10) terms c

pub record HoursRead (s : List ℕ) (at next terms : ℕ) (c : Course) : Type 0 where
  pub letter : letter_at s at ≡ 72
  pub number : byte_at s at 1 ≡ next
  pub room : next < 64
  pub held : HoursHeld s at terms c

hours_held : (s : List ℕ) (at terms : ℕ) (c : Course) → hours_by_itself s at terms ≡ Ok c → HoursHeld s at terms c
unfolding hours_by_itself
hours_held s at terms c e = go (eqb (byte_at s at 2) 1) refl (eqb (byte_at s at 2) 2) refl e
  where
    go : (a : Bool) → eqb (byte_at s at 2) 1 ≡ a → (b : Bool) → eqb (byte_at s at 2) 2 ≡ b → choose a (weighed First s at terms) (choose b (weighed Second s at terms) (Err fault.Size)) ≡ Ok c → HoursHeld s at terms c
    go true p b q e = record { edition = First; named = eqb-true _ _ p; held = course_held (weight_by First (word_at s at 4) (word_at s at 6)) (word_at s at 8) (eqb (byte_at s at 3) 0 && blank_from s at 10) terms c e }
    go false p true q e = record { edition = Second; named = eqb-true _ _ q; held = course_held (weight_by Second (word_at s at 4) (word_at s at 6)) (word_at s at 8) (eqb (byte_at s at 3) 0 && blank_from s at 10) terms c e }
    go false p false q e = let x : ◌≡◌ {A = ℕ} 0 1 = cc in absurd (omega arith)

pub hours_read : (s : List ℕ) (at next terms : ℕ) (c : Course) → hours_record s at next terms ≡ Ok c → HoursRead s at next terms c
unfolding hours_record
hours_read s at next terms c e = go (eqb (letter_at s at) 72) refl (bears_next s at next 64) refl e
  where
    go : (a : Bool) → eqb (letter_at s at) 72 ≡ a → (b : Bool) → bears_next s at next 64 ≡ b → choose a (choose b (hours_by_itself s at terms) (Err fault.Number)) (Err fault.Letter) ≡ Ok c → HoursRead s at next terms c
    go true p true q e =
        let n = number_is s at next 64 q in
        record { letter = eqb-true _ _ p; number = n.0; room = n.1; held = hours_held s at terms c e }
    go true p false q e = let x : ◌≡◌ {A = ℕ} 0 1 = cc in absurd (omega arith)
    go false p b q e = let x : ◌≡◌ {A = ℕ} 0 1 = cc in absurd (omega arith)
