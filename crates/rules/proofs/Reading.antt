-- A year as the theory reads it: tests of a course's number and a term's, and what a plan keeps of them.
use Prim.Native.Nat.{ℕ, ◌^◌}
use mathlib.Core.Bool.{Bool, true}
use mathlib.Core.Path.{◌≡◌, sym, ap, ◌∙◌}
use lib.Dec.{eqb}
use borrow.Author.Tests.{eqb-true}
use Rattle.theory.specs.Bits.{has}
use Rattle.theory.proofs.BitLaws.{has_power}
use Rattle.theory.proofs.Open.{Alone, Ins, Fix, ins_of, fix_of}
use Rattle.year.specs.Year.{course_at, lists, is_fixed}
use Rattle.year.specs.Plans.{Placing, Plan}
use Rattle.year.specs.declared.Course.{Course}
use Rattle.year.specs.declared.Year.{Year}

-- ---- a course and a term

-- a course fixed in k lists k and no other
pub fixed_lists : (c : Course) (k l : ℕ) → is_fixed c k ≡ true → lists c l ≡ eqb l k
fixed_lists c k l e = ap (λ x. has x l) (eqb-true c.list (2 ^ k) e) ∙ has_power k l

-- ---- a year and a plan

abbrev pub lists_at : Year → ℕ → ℕ → Bool
lists_at y i k = lists (course_at y i) k

abbrev pub fixed_at : Year → ℕ → ℕ → Bool
fixed_at y i k = is_fixed (course_at y i) k

pub alone : (y : Year) → Alone y.courses (lists_at y) (fixed_at y)
alone y i k l h a b = eqb-true l k (sym (fixed_lists (course_at y i) k l a) ∙ b)

pub ins : (y : Year) (p : Placing) → Plan y p → (k : ℕ) → Ins y.courses (lists_at y) p k
ins y p h = ins_of y.courses (lists_at y) p h.listed

pub fix : (y : Year) (p : Placing) → Plan y p → (k : ℕ) → Fix y.courses (fixed_at y) p k
fix y p h = fix_of y.courses (lists_at y) p h.listed (fixed_at y) (alone y)
