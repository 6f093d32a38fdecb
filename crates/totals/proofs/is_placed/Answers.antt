-- A list of one term is a power of two, and one of its digits is set.
use Prim.Native.Nat.{ℕ, zero, suc, ◌/◌, ◌%◌, ◌^◌, ◌<◌}
use mathlib.Core.Bool.{Bool, true, false}
use mathlib.Core.Path.{◌≡◌, refl, ap, ◌∙◌}
use native.Mathlib.Omega.{arith}
use lib.Dec.{eqb}
use lib.Count.{ones, ones_step}
use borrow.Author.Rules.{rules}
use borrow.Author.Tests.{eq-eqb, eqb-true, eqb-false}
use Rattle.std.proofs.lemmas.Nat.{zero_from_ones, ones_le_self}
use Rattle.theory.specs.Tests.{any}
use Rattle.theory.proofs.TestLaws.{any_true, any_of, same_tests}
use Rattle.year.specs.Year.{is_fixed}
use Rattle.year.specs.Sums.{is_placed}
use Rattle.totals.proofs.is_placed.Goals as goal

of_power : (j : ℕ) → ones (2 ^ j) ≡ 1
of_power zero = omega (arith, ones_step 1, ones_le_self 0)
of_power (suc j) = let half : 2 ^ suc j / 2 ≡ 2 ^ j = omega arith in omega (arith, ones_step (2 ^ suc j), ap ones half, of_power j)

a_power : (m l : ℕ) → l < 2 ^ m → ones l ≡ 1 → (k : ℕ) × (k < m) × (l ≡ 2 ^ k)
a_power zero l h e = absurd (omega (arith, ones_le_self l))
a_power (suc m) l h e = go (eqb (l % 2) 0) refl (λ q. a_power m (l / 2) (omega arith) q)
  where
    go : (b : Bool) → eqb (l % 2) 0 ≡ b → (ones (l / 2) ≡ 1 → (k : ℕ) × (k < m) × (l / 2 ≡ 2 ^ k)) → (k : ℕ) × (k < suc m) × (l ≡ 2 ^ k)
    go true q ih =
        let even : l % 2 ≡ 0 = eqb-true (l % 2) 0 q in
        let r = ih (omega (arith, ones_step l)) in
        (suc r.0, omega (arith, r.1), omega (arith, r.2))
    go false q ih =
        let odd : l % 2 ≡ 1 = omega (arith, eqb-false (l % 2) 0 q) in
        let none : l / 2 ≡ 0 = zero_from_ones (l / 2) (omega (arith, ones_step l)) in
        (0, omega arith, omega arith)

pub returns : goal.returns
unfolding is_placed
returns c =
    let l = c.args.c in
    let small : l.list < 2 ^ 16 = search rules in
    c.is_power_of_two.ensures
    ∙ same_tests (eqb (ones l.list) 1) (any 16 (is_fixed l))
    (λ e. let r = a_power 16 l.list small (eqb-true (ones l.list) 1 e) in any_of 16 (is_fixed l) r.0 r.1 (eq-eqb l.list (2 ^ r.0) r.2))
    (λ e. let r = any_true 16 (is_fixed l) e in eq-eqb (ones l.list) 1 (ap ones (eqb-true l.list (2 ^ r.0) r.2) ∙ of_power r.0))
