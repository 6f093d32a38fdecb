-- What a narrowing is refused by, and what it gives by that.
use Prim.Native.Nat.{ℕ, ◌<◌}
use mathlib.Core.Bool.{Bool, true, false}
use mathlib.Core.List.{[], ◌∷◌}
use mathlib.Core.Path.{◌≡◌, refl, ap, ◌∙◌}
use native.Mathlib.Omega.{arith}
use lib.Dec.{leb}
use types.Run.{OneOf, miss}
use borrow.Author.Tests.{leb-false}
use Rattle.std.specs.Prelude.{Option, Some, None, Result, Ok, Err}
use Rattle.theory.specs.Choice.{choose}
use Rattle.theory.proofs.TestLaws.{or_false}
use Rattle.year.specs.Bound.{Tight, moved_of}
use Rattle.year.specs.Doors.{with_term}
use Rattle.year.specs.Sound.{is_sound, Sound}
use Rattle.year.specs.Narrow.{answered, checked, no_such, moving}
use Rattle.year.specs.Numbers.{narrowing_number}
use Rattle.year.specs.declared.Crossed.{Crossed}
use Rattle.year.specs.declared.Term.{Term}
use Rattle.year.specs.declared.Year.{Year}
use Rattle.year.specs.declared.NarrowingRefusal.{NarrowingRefusal}
use Rattle.year.specs.declared.NarrowingRefusal.TheVariants.{Unsound, Missing, Outside, Crossing}
use Rattle.year.specs.declared.Narrowed.{Narrowed}
use Rattle.year.proofs.SoundLaws.{sound_of}

-- an answer of a narrowing
abbrev pub Answer : Type 0
Answer = Result (Unit {0}) NarrowingRefusal

abbrev pub done : Answer
done = Ok tt

-- what is given, by its tests
abbrev tested : Year → Bool → Bool → Bool → Narrowed → Narrowed
tested y s m o n =
    choose s (choose m (answered (Err Missing) y) (choose o (answered (Err Outside) y) n)) (answered (Err Unsound) y)

passed : (y : Year) (s m o : Bool) (u : Unit {0}) → Ok u ≡ (tested y s m o (answered done y)).answer
    → (s ≡ true) × (m ≡ false) × (o ≡ false)
passed y true false false u e = (refl, refl, refl)
passed y true false true u e = absurd (omega (arith, ap narrowing_number e))
passed y true true o u e = absurd (omega (arith, ap narrowing_number e))
passed y false m o u e = absurd (omega (arith, ap narrowing_number e))

stopped : (y : Year) (s m o : Bool) (r : NarrowingRefusal) (n : Narrowed) → Err r ≡ (tested y s m o (answered done y)).answer
    → answered (Err r) y ≡ tested y s m o n
stopped y true false false r n e = absurd (refused r e)
  where
    refused : (r : NarrowingRefusal) → Err r ≡ done → ⊥
    refused Unsound e = omega (arith, ap narrowing_number e)
    refused Missing e = omega (arith, ap narrowing_number e)
    refused Outside e = omega (arith, ap narrowing_number e)
    refused Crossing e = omega (arith, ap narrowing_number e)
stopped y true false true r n e = ap (λ a. answered a y) e
stopped y true true o r n e = ap (λ a. answered a y) e
stopped y false m o r n e = ap (λ a. answered a y) e

module _ (y : Year) (missing outside : Bool) where
  abbrev due : Answer
  due = (checked y missing outside (answered done y)).answer

  -- done is due: no test refuses, and the narrowing itself is what is given
  pub due_passed : (u : Unit {0}) → Ok u ≡ due → (is_sound y ≡ true) × (missing ≡ false) × (outside ≡ false)
  due_passed = passed y (is_sound y) missing outside

  pub due_done : (u : Unit {0}) → Ok u ≡ due → (n : Narrowed) → n ≡ checked y missing outside n
  due_done u e n = let p = due_passed u e in rw (p.0, p.1, p.2) refl

  -- a refusal is due: it is given, beside the year as it was
  pub due_refused : (r : NarrowingRefusal) → Err r ≡ due → (n : Narrowed) → answered (Err r) y ≡ checked y missing outside n
  due_refused r e n = stopped y (is_sound y) missing outside r n e

-- no refusal's key is the key of done, where done and the four refusals are the cases of one enum
pub no_refusal : OneOf (1 ∷ 2 ∷ 3 ∷ 4 ∷ []) 0 → ⊥
no_refusal h = miss (1 ∷ 2 ∷ 3 ∷ 4 ∷ []) 0 tt h

-- ---- a narrowing that names course i and term j

module _ (y : Year) (i j : ℕ) where
  abbrev named : Answer
  named = (checked y (no_such y i j) false (answered done y)).answer

  pub named_there : (u : Unit {0}) → Ok u ≡ named → Sound y × ((i < y.courses) × (j < y.terms))
  named_there u e =
      let p = due_passed y (no_such y i j) false u e in
      let h = or_false _ _ p.1 in
      (sound_of y p.0, (leb-false _ _ h.0, leb-false _ _ h.1))

  -- both are entries of the arrays
  pub named_in : (u : Unit {0}) → Ok u ≡ named → (i < 64) × (j < 16)
  named_in u e = let t = named_there u e in (omega (arith, t), omega (arith, t))

  pub named_done : (u : Unit {0}) → Ok u ≡ named → (r n : Narrowed) → r ≡ n → r ≡ checked y (no_such y i j) false n
  named_done u e r n h = h ∙ due_done y (no_such y i j) false u e n

  pub named_refused : (r : NarrowingRefusal) → Err r ≡ named → (n : Narrowed) → answered (Err r) y ≡ checked y (no_such y i j) false n
  named_refused = due_refused y (no_such y i j) false

-- ---- a narrowing of a bound of term j, which is outside or not, by a move w

-- what is made of the year by what is told of the move
abbrev pub made : Year → ℕ → Result (Option Term) Crossed → Narrowed
made y j (Err c) = answered (Err Crossing) y
made y j (Ok None) = answered done y
made y j (Ok (Some t)) = answered done (with_term y j t)

made_moving : (y : Year) (j : ℕ) (w : Tight) → made y j (moved_of w) ≡ moving y j w
made_moving y j w = go w.crossed w.altered
  where
    go : (c a : Bool) → made y j (choose c (Err (record {})) (Ok (choose a (Some w.term) None)))
        ≡ choose c (answered (Err Crossing) y) (choose a (answered done (with_term y j w.term)) (answered done y))
    go true a = refl
    go false true = refl
    go false false = refl

-- the test of the code is that of the definition
module _ (y : Year) (j : ℕ) (outside o : Bool) (test : outside ≡ o) where
  abbrev bound : Answer
  bound = (checked y (leb y.terms j) outside (answered done y)).answer

  pub bound_in : (u : Unit {0}) → Ok u ≡ bound → j < 16
  bound_in u e =
      let p = due_passed y (leb y.terms j) outside u e in
      omega (arith, sound_of y p.0, leb-false y.terms j p.1)

  -- r is what was told of the move, as it was matched
  pub bound_made : (u : Unit {0}) → Ok u ≡ bound → (w : Tight) (r : Result (Option Term) Crossed) → r ≡ moved_of w
      → made y j r ≡ checked y (leb y.terms j) o (moving y j w)
  bound_made u e w r is =
      ap (made y j) is
      ∙ made_moving y j w
      ∙ due_done y (leb y.terms j) outside u e _
      ∙ ap (λ b. checked y (leb y.terms j) b (moving y j w)) test

  pub bound_refused : (r : NarrowingRefusal) → Err r ≡ bound → (n : Narrowed) → answered (Err r) y ≡ checked y (leb y.terms j) o n
  bound_refused r e n = due_refused y (leb y.terms j) outside r e n ∙ ap (λ b. checked y (leb y.terms j) b n) test
