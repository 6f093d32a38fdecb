-- Each rule narrows and keeps exactly the plans, because its reasons are good. Rules 3, 10 and 12, over their courses: `ListsKept`.
use Prim.Native.Nat.{◌+◌, ◌/◌}
use mathlib.Core.Bool.{Bool, true, false}
use mathlib.Core.Path.{◌≡◌, refl, sym, subst}
use native.Mathlib.Omega.{arith}
use lib.Dec.{eqb}
use Rattle.theory.specs.Choice.{choose}
use Rattle.theory.specs.Tests.{any}
use Rattle.year.specs.Sound.{Sound}
use Rattle.year.specs.declared.Quantity.TheVariants.{Credits, Counts}
use Rattle.year.specs.declared.Year.{Year}
use Rattle.rules.specs.Step.{rests, fails, live, dead, applied}
use Rattle.rules.specs.Bounds.{rule1, rule2, rule4, rule5}
use Rattle.rules.specs.Spares.{rule6, rule7, rule8, rule9}
use Rattle.rules.specs.Packing.{burst, room, bursts, rule11}
use Rattle.rules.specs.Reasons.{reason, reason14, reason25, reason6, reason7, reason8, reason9, basis11, reason11}
use Rattle.rules.proofs.PlansKept.{Held}
use Rattle.rules.proofs.KeptOver.{AtTerms}
use Rattle.rules.proofs.ReasonsGood.{good14, good25, good6, good7, good8, good9, good11}
use Rattle.rules.proofs.ReasonsKept.{good_held, both_held}

pub rule1_held : AtTerms Held rule1
unfolding rule1
rule1_held = both_held 1 (reason14 Credits) (λ s y j a l. good14 y j a l Credits s) (λ e. omega arith)

pub rule2_held : AtTerms Held rule2
unfolding rule2
rule2_held = both_held 2 (reason25 Credits) (λ s y j a l. good25 y j a l Credits s) (λ e. omega arith)

pub rule4_held : AtTerms Held rule4
unfolding rule4
rule4_held = both_held 4 (reason14 Counts) (λ s y j a l. good14 y j a l Counts s) (λ e. omega arith)

pub rule5_held : AtTerms Held rule5
unfolding rule5
rule5_held = both_held 5 (reason25 Counts) (λ s y j a l. good25 y j a l Counts s) (λ e. omega arith)

pub rule6_held : AtTerms Held rule6
rule6_held y j s l = good_held 6 y s (λ e. omega arith) (reason6 y j) (good6 y j s l)

pub rule7_held : AtTerms Held rule7
rule7_held y j s l = good_held 7 y s (λ e. omega arith) (reason7 y j) (good7 y j s l)

pub rule8_held : AtTerms Held rule8
rule8_held y j s l = good_held 8 y s (λ e. omega arith) (reason8 y j) (good8 y j s l)

pub rule9_held : AtTerms Held rule9
rule9_held y j s l = good_held 9 y s (λ e. omega arith) (reason9 y j) (good9 y j s l)

pub rule11_is : (y : Year) → rule11 y ≡ applied 11 y (reason11 y).change
unfolding rule11 reason11
rule11_is y = go (any y.terms (burst y)) (eqb (room y) 0) (any (room y / 2 + 1) (bursts y (room y)))
  where
    go : (a b c : Bool) → choose a (dead 11 y) (choose b (live y) (choose c (dead 11 y) (live y)))
        ≡ applied 11 y (choose a (reason fails basis11) (choose b (reason rests basis11) (choose c (reason fails basis11) (reason rests basis11)))).change
    go true b c = refl
    go false true c = refl
    go false false true = refl
    go false false false = refl

pub rule11_held : (y : Year) → Sound y → Held y (rule11 y)
rule11_held y s = subst (Held y) (sym (rule11_is y)) (good_held 11 y s (λ e. omega arith) (reason11 y) (good11 y s))
