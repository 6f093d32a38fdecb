-- A rule and its number determine each other.
use Prim.Native.Nat.{ℕ, ◌≤◌}
use mathlib.Core.Path.{◌≡◌, refl, sym, ap, ◌∙◌}
use native.Mathlib.Omega.{arith}
use native.Mathlib.Decide.{ℕ_discrete}
use Rattle.rules.specs.declared.Rule.{Rule}
use Rattle.rules.specs.declared.Rule.TheVariants.{OwnCredits, OtherCredits, CourseCredits, OwnCounts, OtherCounts, LeastCount}
use Rattle.rules.specs.declared.Rule.TheVariants.{MostCount, LeastLoad, MostLoad, CourseCounts, Packing, Neighbours}
use Rattle.rules.specs.RuleNumbers.{rule_number, rule_named}

-- the rule that its number names
pub named_number : (r : Rule) → rule_named (rule_number r) ≡ r
unfolding rule_named
named_number OwnCredits = refl
named_number OtherCredits = refl
named_number CourseCredits = refl
named_number OwnCounts = refl
named_number OtherCounts = refl
named_number LeastCount = refl
named_number MostCount = refl
named_number LeastLoad = refl
named_number MostLoad = refl
named_number CourseCounts = refl
named_number Packing = refl
named_number Neighbours = refl

pub number_within : (r : Rule) → (1 ≤ rule_number r) × (rule_number r ≤ 12)
number_within OwnCredits = (omega arith, omega arith)
number_within OtherCredits = (omega arith, omega arith)
number_within CourseCredits = (omega arith, omega arith)
number_within OwnCounts = (omega arith, omega arith)
number_within OtherCounts = (omega arith, omega arith)
number_within LeastCount = (omega arith, omega arith)
number_within MostCount = (omega arith, omega arith)
number_within LeastLoad = (omega arith, omega arith)
number_within MostLoad = (omega arith, omega arith)
number_within CourseCounts = (omega arith, omega arith)
number_within Packing = (omega arith, omega arith)
number_within Neighbours = (omega arith, omega arith)

-- a number that is one of the twelve
at : (k n : ℕ) → Dec (n ≡ k) → rule_number (rule_named k) ≡ k → (((n ≡ k) → ⊥) → rule_number (rule_named n) ≡ n) → rule_number (rule_named n) ≡ n
at k n (yes e) here there = ap (λ m. rule_number (rule_named m)) e ∙ here ∙ sym e
at k n (no d) here there = there d

pub number_named : (n : ℕ) → 1 ≤ n → n ≤ 12 → rule_number (rule_named n) ≡ n
unfolding rule_named
number_named n l h =
    at 1 n (ℕ_discrete n 1) refl (λ a.
    at 2 n (ℕ_discrete n 2) refl (λ b.
    at 3 n (ℕ_discrete n 3) refl (λ c.
    at 4 n (ℕ_discrete n 4) refl (λ d.
    at 5 n (ℕ_discrete n 5) refl (λ e.
    at 6 n (ℕ_discrete n 6) refl (λ f.
    at 7 n (ℕ_discrete n 7) refl (λ g.
    at 8 n (ℕ_discrete n 8) refl (λ i.
    at 9 n (ℕ_discrete n 9) refl (λ j.
    at 10 n (ℕ_discrete n 10) refl (λ k.
    at 11 n (ℕ_discrete n 11) refl (λ m.
    at 12 n (ℕ_discrete n 12) refl (λ o. absurd (omega (arith, l, h, a, b, c, d, e, f, g, i, j, k, m, o))))))))))))))
