-- What a write leaves of a lent buffer; and what a refused reading hands back.
use Prim.Native.Nat.{ℕ}
use mathlib.Core.Bool.{Bool, true, false}
use mathlib.Core.List.{List}
use mathlib.Core.Path.{◌≡◌, refl, ap}
use native.Mathlib.Omega.{arith}
use lib.Dec.{leb}
use lib.ListN.{length, take, drop}
use lib.Seq.{take-append_seam, drop-append_seam}
use Rattle.std.specs.Prelude.{Result, Err}
use Rattle.year.specs.Doors.{empty_year}
use Rattle.year.specs.Sound.{is_sound}
use Rattle.year.specs.declared.Year.{Year}
use Rattle.records.specs.Numbers.{reading_number, writing_number}
use Rattle.records.specs.Reading.{read_list, received, year_read}
use Rattle.records.specs.Writing.{records_of, write_answer, written}
use Rattle.records.specs.declared.Refusal.{Refusal}
use Rattle.records.proofs.GatherLaws.{is_refused}

-- ---- the lent buffer

-- what a write does to a buffer b: done, the records fill its front and no byte behind them is touched; refused, none is
pub record Wrote (y : Year) (b : List ℕ) : Type 0 where
  pub front : writing_number (write_answer y (length b)) ≡ 0 → take (length (records_of y)) (written y b) ≡ records_of y
  pub behind : writing_number (write_answer y (length b)) ≡ 0 → drop (length (records_of y)) (written y b) ≡ drop (length (records_of y)) b
  pub untouched : (writing_number (write_answer y (length b)) ≡ 0 → ⊥) → written y b ≡ b

pub wrote : (y : Year) (b : List ℕ) → Wrote y b
unfolding write_answer written
wrote y b = go (is_sound y) (leb (length (records_of y)) (length b)) refl refl
  where
    go : (p q : Bool) → is_sound y ≡ p → leb (length (records_of y)) (length b) ≡ q → Wrote y b
    go true true e f = record {
      front = λ z. rw (e, f) (take-append_seam (records_of y) (drop (length (records_of y)) b));
      behind = λ z. rw (e, f) (drop-append_seam (records_of y) (drop (length (records_of y)) b));
      untouched = λ n. absurd (n (rw (e, f) refl));
    }
    go true false e f = record {
      front = λ z. absurd (omega (arith, rw (e, f) at z));
      behind = λ z. absurd (omega (arith, rw (e, f) at z));
      untouched = λ n. rw (e, f) refl;
    }
    go false q e f = record {
      front = λ z. absurd (omega (arith, rw e at z));
      behind = λ z. absurd (omega (arith, rw e at z));
      untouched = λ n. rw e refl;
    }

-- ---- readings

-- a refused reading hands back the year of one term, all bounds 0, no course
pub read_refused : (s : List ℕ) → (reading_number (read_list s) ≡ 0 → ⊥)
    → (year_read (read_list s) ≡ empty_year) × (r : Refusal) × (read_list s ≡ Err r) × ((received (read_list s)).answer ≡ Err r)
read_refused s n =
    let r = is_refused (read_list s) n in
    (ap year_read r.1, r.0, r.1, ap (λ (x : Result Year Refusal). (received x).answer) r.1)
