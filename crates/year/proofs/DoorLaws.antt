-- What a year reads after a door was opened, and that it stays sound.
use Prim.Native.Nat.{ℕ, ◌-◌, ◌^◌, ◌≤◌, ◌<◌}
use mathlib.Core.Bool.{true}
use mathlib.Core.Path.{◌≡◌, refl, ap, ◌∙◌}
use native.Mathlib.Omega.{arith}
use native.Mathlib.Decide.{ℕ_discrete}
use lib.ListN.{length, length-set}
use lib.Seq.{get_or-set_same, get_or-set_other}
use lib.Pow.{pow_pos}
use Rattle.theory.proofs.BitLaws.{has_le, power_below}
use Rattle.year.specs.Year.{term_at, course_at, zero_term, course_of, weight, list, lists}
use Rattle.year.specs.Doors.{with_term, with_list, placed, struck}
use Rattle.year.specs.Sums.{fixed_credits, open_credits, fixed_count, open_count, sums_at}
use Rattle.year.specs.Sound.{Sound, TermSound, CourseSound}
use Rattle.year.specs.declared.Term.{Term}
use Rattle.year.specs.declared.Year.{Year}

-- ---- the bounds of term j replaced

pub term_same : (y : Year) (j : ℕ) (t : Term) → j < length y.term → term_at (with_term y j t) j ≡ t
term_same y j t h = get_or-set_same y.term j t zero_term h

pub term_other : (y : Year) (j : ℕ) (t : Term) (k : ℕ) → (k ≡ j → ⊥) → term_at (with_term y j t) k ≡ term_at y k
term_other y j t k ne = get_or-set_other y.term j k t zero_term ne

module _ (y : Year) (j : ℕ) (t : Term) (s : Sound y) (h : j < y.terms) (sound : TermSound t) where
  term : (k : ℕ) → k < y.terms → Dec (k ≡ j) → TermSound (term_at (with_term y j t) k)
  term k m (yes e) = rw (e, term_same y j t (omega (arith, s))) sound
  term k m (no ne) = rw (term_other y j t k ne) (s.term_sound k m)

  pub with_term_sound : Sound (with_term y j t)
  unfolding sums_at fixed_credits open_credits fixed_count open_count
  with_term_sound =
      record {
        terms_least = s.terms_least;
        terms_most = s.terms_most;
        courses_most = s.courses_most;
        term_length = length-set y.term j t ∙ s.term_length;
        weight_length = s.weight_length;
        list_length = s.list_length;
        term_sound = λ k m. term k m (ℕ_discrete k j);
        course_sound = s.course_sound;
        term_blank = λ k m n. term_other y j t k (λ e. absurd (omega arith)) ∙ s.term_blank k m n;
        course_blank = s.course_blank;
        sums_kept = s.sums_kept;
      }

-- ---- the list of course i replaced

pub list_same : (y : Year) (i l : ℕ) → i < length y.list → list (with_list y i l) i ≡ l
list_same y i l h = get_or-set_same y.list i l 0 h

pub list_other : (y : Year) (i l k : ℕ) → (k ≡ i → ⊥) → list (with_list y i l) k ≡ list y k
list_other y i l k ne = get_or-set_other y.list i k l 0 ne

module _ (y : Year) (i l : ℕ) (s : Sound y) (h : i < y.courses) (some : 1 ≤ l) (within : l < 2 ^ y.terms) where
  course : (k : ℕ) → k < y.courses → Dec (k ≡ i) → CourseSound (course_at (with_list y i l) k) y.terms
  course k m (yes e) =
      rw (e, list_same y i l (omega (arith, s)))
      (record { weight_least = (s.course_sound i h).weight_least; weight_most = (s.course_sound i h).weight_most; list_some = some; list_within = within })
  course k m (no ne) = rw (list_other y i l k ne) (s.course_sound k m)

  pub with_list_sound : Sound (with_list y i l)
  unfolding sums_at fixed_credits open_credits fixed_count open_count
  with_list_sound =
      record {
        terms_least = s.terms_least;
        terms_most = s.terms_most;
        courses_most = s.courses_most;
        term_length = s.term_length;
        weight_length = s.weight_length;
        list_length = length-set y.list i l ∙ s.list_length;
        term_sound = s.term_sound;
        course_sound = λ k m. course k m (ℕ_discrete k i);
        term_blank = s.term_blank;
        course_blank = λ k m n. ap (course_of (weight y k)) (list_other y i l k (λ e. absurd (omega arith))) ∙ s.course_blank k m n;
        sums_kept = refl;
      }

-- a course placed in a term of the year; a course struck from a term that is not its only one
pub placed_sound : (y : Year) (i j : ℕ) → Sound y → i < y.courses → j < y.terms → Sound (placed y i j)
placed_sound y i j s h l = with_list_sound y i (2 ^ j) s h (pow_pos j) (power_below j y.terms l)

pub struck_sound : (y : Year) (i j : ℕ) → Sound y → i < y.courses → lists (course_at y i) j ≡ true → (list y i ≡ 2 ^ j → ⊥) → Sound (struck y i j)
struck_sound y i j s h e ne =
    let le : 2 ^ j ≤ list y i = has_le (list y i) j e in
    let some : 1 ≤ list y i - 2 ^ j = omega (arith, ne) in
    let within : list y i - 2 ^ j < 2 ^ y.terms = omega (arith, (s.course_sound i h).list_within) in
    with_list_sound y i (list y i - 2 ^ j) s h some within
