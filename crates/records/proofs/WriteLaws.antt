-- How long the records of a year are, and the three endings of a writing.
use Prim.Native.Nat.{ℕ, ◌+◌, ◌*◌, ◌≤◌, ◌<◌}
use mathlib.Core.Bool.{Bool, true, false, ◌&&◌}
use mathlib.Core.List.{List, ◌++◌}
use mathlib.Core.Path.{◌≡◌, refl, ap, ◌∙◌}
use native.Mathlib.Nat.{zero-add}
use native.Mathlib.Omega.{arith}
use lib.Dec.{leb}
use lib.ListN.{length, drop, length-append}
use borrow.Author.Tests.{le-leb, lt-leb}
use Rattle.theory.specs.Choice.{choose}
use Rattle.year.specs.Sound.{is_sound, Sound}
use Rattle.year.proofs.SoundLaws.{sound_to}
use Rattle.year.specs.declared.Year.{Year}
use Rattle.std.specs.Prelude.{Ok, Err}
use Rattle.records.specs.declared.WritingRefusal.TheVariants.{Unsound, Short}
use Rattle.records.specs.Writing.{term_block, course_block, joined, records_of, write_answer, written}
use Rattle.records.specs.Laid.{laid}
use Rattle.records.proofs.LayLaws.{length_joined, laid_more}

-- sixteen bytes a record
pub records_length : (y : Year) → length (records_of y) ≡ (y.terms + y.courses) * 16
unfolding records_of
records_length y =
    length-append (joined (term_block y) y.terms) (joined (course_block y) y.courses)
    ∙ omega (arith, length_joined (term_block y) y.terms (λ i. refl), length_joined (course_block y) y.courses (λ i. refl))

-- 80 records at most
pub records_most : (y : Year) → Sound y → length (records_of y) ≤ 1280
records_most y s = omega (arith, records_length y, s.terms_most, s.courses_most)

pub write_unsound : (y : Year) (b : List ℕ) → is_sound y ≡ false → (Err Unsound ≡ write_answer y (length b)) × (b ≡ written y b)
unfolding write_answer written
write_unsound y b e = (rw e refl, rw e refl)

pub write_short : (y : Year) (b : List ℕ) → is_sound y ≡ true → length b < (y.terms + y.courses) * 16 → (Err Short ≡ write_answer y (length b)) × (b ≡ written y b)
unfolding write_answer written
write_short y b e h =
    let n = lt-leb (length (records_of y)) (length b) (omega (arith, records_length y)) in
    (rw (e, n) refl, rw (e, n) refl)

laid_front : (b l : List ℕ) → laid b 0 l ≡ l ++ drop (length l) b
unfolding laid
laid_front b l = ap (λ (n : ℕ). l ++ drop n b) (zero-add (length l))

pub write_done : (y : Year) (b : List ℕ) → is_sound y ≡ true → (y.terms + y.courses) * 16 ≤ length b → Ok tt ≡ write_answer y (length b)
unfolding write_answer
write_done y b e h = let n = le-leb (length (records_of y)) (length b) (omega (arith, records_length y)) in rw (e, n) refl

pub laid_all : (y : Year) (b : List ℕ) → Sound y → (y.terms + y.courses) * 16 ≤ length b → laid (laid b 0 (joined (term_block y) y.terms)) (y.terms * 16) (joined (course_block y) y.courses) ≡ written y b
unfolding written records_of
laid_all y b s h =
    let t = joined (term_block y) y.terms in
    let d = joined (course_block y) y.courses in
    let n = le-leb (length (t ++ d)) (length b) (omega (arith, records_length y)) in
    let long : length t ≡ y.terms * 16 = length_joined (term_block y) y.terms (λ i. refl) in
    let at : y.terms * 16 ≡ 0 + length t = omega arith in
    let all : laid (laid b 0 t) (y.terms * 16) d ≡ (t ++ d) ++ drop (length (t ++ d)) b =
    ap (λ (k : ℕ). laid (laid b 0 t) k d) at ∙ laid_more b 0 t (omega arith) d ∙ laid_front b (t ++ d) in
    rw (sound_to y s, n) all

-- ---- the buffer afterwards

-- a sound year and room enough: the records, and behind them what stood there
pub written_is : (y : Year) (b : List ℕ) → Sound y → length (records_of y) ≤ length b → written y b ≡ records_of y ++ drop (length (records_of y)) b
unfolding written
written_is y b s h = rw (sound_to y s, le-leb (length (records_of y)) (length b) h) refl

-- refused, the buffer is as it was
pub unwritten : (y : Year) (b : List ℕ) → (write_answer y (length b) ≡ Ok tt → ⊥) → written y b ≡ b
unfolding write_answer written
unwritten y b h = go (is_sound y) (leb (length (records_of y)) (length b)) h
  where
    go : (s l : Bool) → (choose s (choose l (Ok (tt {0})) (Err Short)) (Err Unsound) ≡ Ok (tt {0}) → ⊥) → choose (s && l) (records_of y ++ drop (length (records_of y)) b) b ≡ b
    go true true h = absurd (h refl)
    go true false h = refl
    go false l h = refl
