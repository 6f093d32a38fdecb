-- How each call ends, as equations on its definition: the list is refused, the buffer is short, or the call does its own.
use Prim.Native.Nat.{ℕ, ◌+◌, ◌*◌, ◌≤◌, ◌<◌}
use mathlib.Core.List.{List}
use mathlib.Core.Path.{◌≡◌, refl}
use native.Mathlib.Omega.{arith}
use lib.ListN.{length}
use borrow.Author.Tests.{lt-ltb, le-ltb}
use Rattle.std.specs.Prelude.{Ok, Err}
use Rattle.year.specs.Imbalance.{imbalance_of}
use Rattle.year.specs.Sound.{Sound}
use Rattle.year.specs.declared.Year.{Year}
use Rattle.records.specs.declared.Refusal.{Refusal}
use Rattle.records.specs.Reading.{read_list}
use Rattle.records.proofs.ListLaws.{read_sound, read_length}
use Rattle.records.specs.Writing.{written}
use Rattle.hours.specs.Joining.{join_of}
use Rattle.hours.specs.declared.JoiningRefusal.{JoiningRefusal}
use Rattle.hours.specs.Numbers.{joining_place}
use Rattle.hours.proofs.JoinLaws.{joint, place_few}
use Rattle.filter.specs.Filter.{filter_of}
use Rattle.boundary.specs.Packed.{packed, reading_told, joining_told, short_told, narrowing_told, measured_told, answer_told}
use Rattle.boundary.specs.Calls.{read_code, imbalance_code, filter_left, filter_code, filter_out, narrow_of, narrow_left, narrow_code, narrow_out, join_code, join_out}

-- ---- a list that is refused

module _ (s : List ℕ) (r : Refusal) (is : read_list s ≡ Err r) (c : ℕ) (said : c ≡ packed (reading_told (Err r))) where
  pub read_refused : c ≡ read_code s
  unfolding read_code
  read_refused = rw is said

  pub imbalance_refused : c ≡ imbalance_code s
  unfolding imbalance_code
  imbalance_refused = rw is said

  module _ (b : List ℕ) where
    pub filter_refused : (c ≡ filter_code s (length b)) × (b ≡ filter_out s b)
    unfolding filter_code filter_out
    filter_refused = (rw is said, rw is refl)

    pub narrow_refused : (kind i j : ℕ) → (c ≡ narrow_code s kind i j (length b)) × (b ≡ narrow_out s kind i j b)
    unfolding narrow_code narrow_out
    narrow_refused kind i j = (rw is said, rw is refl)

-- ---- a list that holds year y

module _ (s : List ℕ) (y : Year) (is : read_list s ≡ Ok y) where
  -- it is sound, and its records are the list
  pub read_year : Sound y × ((y.terms + y.courses) * 16 ≡ length s)
  read_year = (read_sound s y is, read_length s y is)

  pub read_done : 0 ≡ read_code s
  unfolding read_code
  read_done = rw is refl

  pub imbalance_done : (c : ℕ) → c ≡ packed (measured_told (imbalance_of y)) → c ≡ imbalance_code s
  unfolding imbalance_code
  imbalance_done c e = rw is e

  -- the buffer b is shorter than the list, or it is not, and the call has code c and leaves o
  module _ (b : List ℕ) where
    pub filter_short : length b < length s → (packed short_told ≡ filter_code s (length b)) × (b ≡ filter_out s b)
    unfolding filter_code filter_out
    filter_short h = let t = lt-ltb (length b) (length s) h in (rw (is, t) refl, rw (is, t) refl)

    pub filter_done : length s ≤ length b → (c : ℕ) (o : List ℕ) → c ≡ packed (answer_told (filter_of y).answer)
        → o ≡ filter_left (filter_of y).answer (filter_of y).year b → (c ≡ filter_code s (length b)) × (o ≡ filter_out s b)
    unfolding filter_code filter_out
    filter_done h c o e w = let t = le-ltb (length b) (length s) h in (rw (is, t) e, rw (is, t) w)

    module _ (kind i j : ℕ) where
      pub narrow_short : length b < length s → (packed short_told ≡ narrow_code s kind i j (length b)) × (b ≡ narrow_out s kind i j b)
      unfolding narrow_code narrow_out
      narrow_short h = let t = lt-ltb (length b) (length s) h in (rw (is, t) refl, rw (is, t) refl)

      pub narrow_done : length s ≤ length b → (c : ℕ) (o : List ℕ) → c ≡ packed (narrowing_told (narrow_of y kind i j).answer)
          → o ≡ narrow_left (narrow_of y kind i j).answer (narrow_of y kind i j).year b
          → (c ≡ narrow_code s kind i j (length b)) × (o ≡ narrow_out s kind i j b)
      unfolding narrow_code narrow_out
      narrow_done h c o e w = let t = le-ltb (length b) (length s) h in (rw (is, t) e, rw (is, t) w)

-- ---- two lists

pub join_refused : (t h : List ℕ) (r : JoiningRefusal) → join_of t h ≡ Err r → (c : ℕ) → c ≡ packed (joining_told (Err r)) → (b : List ℕ)
    → (c ≡ join_code t h (length b)) × (b ≡ join_out t h b)
unfolding join_code join_out
join_refused t h r is c e b = (rw is e, rw is refl)

pub join_place : (t h : List ℕ) (r : JoiningRefusal) → join_of t h ≡ Err r → joining_place (Err r) < 4294967296
join_place t h r is = let few = rw is at (place_few t h) in omega (arith, few)

module _ (t h : List ℕ) (y : Year) (is : join_of t h ≡ Ok y) where
  -- a joined year is sound, and its records are as long as both lists, which are short
  pub join_year : Sound y × ((y.terms + y.courses) * 16 ≡ length t + length h) × (length t + length h ≤ 1280)
  join_year =
      let j = joint t h y is in
      (j.sound, omega (arith, j.term_bytes_lem, j.course_bytes_lem), omega (arith, j.term_bytes_lem, j.course_bytes_lem, j.sound.terms_most, j.sound.courses_most))

  module _ (b : List ℕ) where
    pub join_short : length b < length t + length h → (packed short_told ≡ join_code t h (length b)) × (b ≡ join_out t h b)
    unfolding join_code join_out
    join_short l = let q = lt-ltb (length b) (length t + length h) l in (rw (is, q) refl, rw (is, q) refl)

    pub join_done : length t + length h ≤ length b → (o : List ℕ) → o ≡ written y b → (0 ≡ join_code t h (length b)) × (o ≡ join_out t h b)
    unfolding join_code join_out
    join_done l o w = let q = le-ltb (length b) (length t + length h) l in (rw (is, q) refl, rw (is, q) w)
