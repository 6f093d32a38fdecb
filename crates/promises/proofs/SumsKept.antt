-- The sums stay with the year: a reading and a joining end with filling them in; a call hands back a sound year where it got one, and
-- otherwise what it got.
use Prim.Native.Nat.{ℕ}
use mathlib.Core.Bool.{Bool, true, false}
use mathlib.Core.List.{List, [], ◌∷◌}
use mathlib.Core.Path.{◌≡◌, refl, sym, subst}
use native.Mathlib.Omega.{arith}
use lib.Dec.{eqb}
use lib.ListN.{length, take}
use Rattle.std.specs.Prelude.{Result, Ok, Err}
use Rattle.theory.proofs.ChoiceLaws.{choose_any}
use Rattle.year.specs.Doors.{empty_year}
use Rattle.year.specs.Computing.{computing}
use Rattle.year.specs.Sums.{fixed_credits, open_credits, fixed_count, open_count, sums_at}
use Rattle.year.specs.Sound.{is_sound}
use Rattle.year.specs.declared.Year.{Year}
use Rattle.year.proofs.SoundLaws.{sound_of}
use Rattle.records.specs.Numbers.{writing_number}
use Rattle.records.specs.Reading.{summed, read_list, year_read}
use Rattle.records.specs.Writing.{records_of, write_answer, written}
use Rattle.records.specs.declared.Refusal.{Refusal}
use Rattle.hours.specs.Joining.{term_list, hours_list, in_hours, behind_terms, join_of, year_joined}
use Rattle.filter.specs.Filter.{filter_of}
use Rattle.filter.proofs.RoundLaws.{filter_narrower}
use Rattle.promises.specs.Narrowings.{Narrow, narrow}
use Rattle.promises.specs.Sequence.{Call, narrow_by, filter, write_and_read, result, after}
use Rattle.promises.specs.SumsKept.{Carries, SumsKept}
use Rattle.promises.proofs.Narrowings.{each_narrowing, narrow_narrower}

-- ---- where years come from

empty : Carries empty_year
unfolding computing
empty = refl

summed_carry : (r : Result Year Refusal) → Carries (year_read (summed r))
unfolding sums_at fixed_credits open_credits fixed_count open_count
summed_carry (Ok y) = refl
summed_carry (Err q) = empty

imported : (s : List ℕ) → Carries (year_read (read_list s))
unfolding read_list
imported s = summed_carry _

joined : (t h : List ℕ) → Carries (year_joined (join_of t h))
unfolding join_of hours_list
joined t h = go (term_list t)
  where
    under : (r : Result Year Refusal) → Carries (year_read r) → Carries (year_joined (in_hours r))
    under (Ok y) c = c
    under (Err q) c = c

    go : (r : Result Year Refusal) → Carries (year_joined (behind_terms r h))
    go (Ok y) = under (hours_list y h) (summed_carry _)
    go (Err q) = empty

-- ---- calls

module _ (y : Year) (c : Carries y) where
  -- of a sound year a narrowing and a filtering leave a sound one, and any other they hand back
  narrowed : (n : Narrow) → Carries (narrow n y).year
  narrowed n = go (is_sound y) refl
    where
      go : (b : Bool) → is_sound y ≡ b → Carries (narrow n y).year
      go true e = (narrow_narrower n y (sound_of y e)).sound.sums_kept
      go false e = subst Carries (sym ((each_narrowing n y).refused (λ z. let q = (each_narrowing n y).number in absurd (omega (arith, (rw e at q)))))) c

  filtered : Carries (filter_of y).year
  unfolding filter_of
  filtered = go (is_sound y) refl
    where
      go : (b : Bool) → is_sound y ≡ b → Carries (filter_of y).year
      go true e = (filter_narrower y (sound_of y e)).sound.sums_kept
      go false e = rw e c

  called : (k : Call) → Carries (result k y).year
  called (narrow_by n) = narrowed n
  called filter = filtered
  called (write_and_read b) =
      choose_any Carries (eqb (writing_number (write_answer y (length b))) 0) (year_read (read_list (take (length (records_of y)) (written y b)))) y
      (imported (take (length (records_of y)) (written y b))) c

kept : (cs : List Call) (y : Year) → Carries y → Carries (after cs y)
kept [] y c = c
kept (k ∷ ks) y c = kept ks (result k y).year (called y c k)

pub sums_kept : SumsKept
sums_kept = record { empty = empty; imported = imported; joined = joined; kept = kept; others_refused = others }
  where
    others : (y : Year) → (Carries y → ⊥) → is_sound y ≡ false
    others y d = go (is_sound y) refl
      where
        go : (b : Bool) → is_sound y ≡ b → is_sound y ≡ false
        go true e = absurd (d (sound_of y e).sums_kept)
        go false e = e
