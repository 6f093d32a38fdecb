-- The six narrowings: each keeps what is promised of it. The four on bounds go by one law, the two on lists each by its door.
use Prim.Native.Nat.{ℕ, ◌^◌, ◌<◌}
use mathlib.Core.Bool.{Bool, true, false, true≢false}
use mathlib.Core.Logic.{◌↔◌}
use mathlib.Core.Path.{◌≡◌, refl, sym, ap, subst, ◌∙◌}
use native.Mathlib.Omega.{arith}
use lib.Dec.{eqb, leb}
use lib.Seq.{set-get_or}
use borrow.Author.Tests.{eqb-true, leb-false, eq-eqb}
use Rattle.std.specs.Prelude.{Ok, Err}
use Rattle.theory.specs.Choice.{choose}
use Rattle.theory.proofs.ChoiceLaws.{choose_case}
use Rattle.theory.proofs.TestLaws.{or_false}
use Rattle.theory.specs.Bits.{has}
use Rattle.theory.proofs.BitLaws.{has_power}
use Rattle.year.specs.Year.{term_at, course_at, list, lists, is_fixed}
use Rattle.year.specs.Bound.{Tight, bound_of, bound, opposite, Keeps, beyond, tightened}
use Rattle.year.specs.Doors.{with_sums, with_list, with_term, placed, struck}
use Rattle.year.specs.Narrow.{answered, checked, no_such, placing, barring, place_of, bar_of, moving, tighten_of}
use Rattle.year.specs.Plans.{Placing, put_in, Plan}
use Rattle.year.specs.Sound.{is_sound, Sound, TermSound}
use Rattle.year.specs.Numbers.{narrowing_number}
use Rattle.year.specs.declared.Quantity.{Quantity}
use Rattle.year.specs.declared.Side.{Side}
use Rattle.year.specs.declared.Term.{Term}
use Rattle.year.specs.declared.Year.{Year}
use Rattle.year.specs.declared.NarrowingRefusal.{NarrowingRefusal}
use Rattle.year.specs.declared.NarrowingRefusal.TheVariants.{Unsound, Missing, Outside, Crossing}
use Rattle.year.specs.declared.Narrowed.{Narrowed}
use Rattle.year.proofs.BoundLaws.{tight_beyond, tight_crossed, loose_within}
use Rattle.year.proofs.SoundLaws.{sound_of, with_sums_same}
use Rattle.rules.specs.Narrower.{Narrower}
use Rattle.rules.proofs.Narrows.{keeps_then, not_beyond, narrower_self}
use Rattle.rules.proofs.Steps.{narrows_moved, narrows_struck, narrows_placed}
use Rattle.rules.proofs.DoorPlans.{moved_plans, placed_plans, struck_plans}
use Rattle.promises.specs.Narrowings.{Narrow, place, bar, tighten, narrow, Meets, missing, outside, crossing, number_due, NarrowedBy, EachNarrowing}

-- ---- refused, or done

-- a refusal has a number
pub refusal_some : (r : NarrowingRefusal) → narrowing_number (Err r) ≡ 0 → ⊥
refusal_some Unsound e = omega arith
refusal_some Missing e = omega arith
refusal_some Outside e = omega arith
refusal_some Crossing e = omega arith

module _ (y : Year) (n : Narrow) where
  when_refused : (r : NarrowingRefusal) → narrowing_number (Err r) ≡ number_due y n → NarrowedBy y n (answered (Err r) y)
  when_refused r e = record {
    narrower = λ s. narrower_self y s;
    plans = λ z p. absurd (refusal_some r z);
    refused = λ q. refl;
    number = e;
  }

  when_done : (z : Year) → Narrower y z → ((p : Placing) → Plan z p ↔ (Plan y p × Meets y n p)) → 0 ≡ number_due y n → NarrowedBy y n (answered (Ok tt) z)
  when_done z w h e = record { narrower = λ s. w; plans = λ q p. h p; refused = λ q. absurd (q refl); number = e }

  -- refusals 8, 10 and 11 are in order: it is left to show what the narrowing does then
  past_refusals : (r : Narrowed) → (Sound y → missing y n ≡ false → number_due y n ≡ choose (crossing y n) 12 0 → NarrowedBy y n r)
      → NarrowedBy y n (checked y (missing y n) (outside n) r)
  past_refusals r h =
      choose_case (NarrowedBy y n) (is_sound y) (choose (missing y n) (answered (Err Missing) y) (choose (outside n) (answered (Err Outside) y) r)) (answered (Err Unsound) y)
      (λ e. choose_case (NarrowedBy y n) (missing y n) (answered (Err Missing) y) (choose (outside n) (answered (Err Outside) y) r)
      (λ m. when_refused Missing (rw (e, m)))
      (λ m. choose_case (NarrowedBy y n) (outside n) (answered (Err Outside) y) r
      (λ o. when_refused Outside (rw (e, m, o)))
      (λ o. h (sound_of y e) m (rw (e, m, o)))))
      (λ e. when_refused Unsound (rw e))

-- ---- bounds: one law for the four

-- in a sound term it crosses exactly if v passes the opposite bound
crossed_is : (s : Side) (q : Quantity) (t : Term) (v : ℕ) → TermSound t → (tightened s q t v).crossed ≡ beyond s v (bound_of (opposite s) q t)
crossed_is s q t v o = go (tightened s q t v).crossed refl (tightened s q t v).altered refl
  where
    go : (c : Bool) → (tightened s q t v).crossed ≡ c → (a : Bool) → (tightened s q t v).altered ≡ a → c ≡ beyond s v (bound_of (opposite s) q t)
    go true e a f = sym (tight_crossed s q t v o e)
    go false e true f = sym (tight_beyond s q t v f e).1
    go false e false f = sym (loose_within s q t v o f)

module _ (s : Side) (q : Quantity) (y : Year) (j v : ℕ) where
  abbrev w : Tight
  w = tightened s q (term_at y j) v

  abbrev n : Narrow
  n = tighten s q j v

  -- no tighter: every plan keeps v
  kept : w.altered ≡ false → j < y.terms → (p : Placing) → Plan y p → Keeps s v (put_in q y p j)
  unfolding tightened
  kept e l p h = keeps_then s v (bound s q y j) (put_in q y p j) (not_beyond s v (bound s q y j) e) (h.bounds s q j l)

  moving_narrows : Sound y → j < y.terms → number_due y n ≡ choose (crossing y n) 12 0 → NarrowedBy y n (moving y j w)
  moving_narrows sound l due =
      let number : number_due y n ≡ choose w.crossed 12 0 = due ∙ ap (λ b. choose b 12 0) (sym (crossed_is s q (term_at y j) v (sound.term_sound j l))) in
      choose_case (NarrowedBy y n) w.crossed (answered (Err Crossing) y) (choose w.altered (answered (Ok tt) (with_term y j w.term)) (answered (Ok tt) y))
      (λ c. when_refused y n Crossing (rw (number, c)))
      (λ c.
      choose_case (NarrowedBy y n) w.altered (answered (Ok tt) (with_term y j w.term)) (answered (Ok tt) y)
      (λ e.
      let t = tight_beyond s q (term_at y j) v e c in
      when_done y n (with_term y j w.term) (narrows_moved y s q j v sound (l, t.0, t.1)).year (λ p. moved_plans y s q j v p sound l) (rw (number, c)))
      (λ e. when_done y n y (narrower_self y sound) (λ p. (λ h. (h, kept e l p h), λ h. h.0)) (rw (number, c))))

  tightening_narrows : NarrowedBy y n (tighten_of s q y j v)
  unfolding tighten_of
  tightening_narrows = past_refusals y n (moving y j w) (λ sound m due. moving_narrows sound (leb-false y.terms j m) due)

-- ---- lists

there_are : (y : Year) (i j : ℕ) → no_such y i j ≡ false → (i < y.courses) × (j < y.terms)
there_are y i j e =
    let r = or_false (leb y.courses i) (leb y.terms j) e in
    (leb-false y.courses i r.0, leb-false y.terms j r.1)

module _ (y : Year) (i j : ℕ) where
  own_list : Sound y → with_list y i (list y i) ≡ y
  own_list s =
      (λ k. with_sums (record { terms = y.terms; courses = y.courses; term = y.term; weight = y.weight; list = set-get_or y.list i 0 k; sums = y.sums }))
      ∙ with_sums_same y s.sums_kept

  placed_narrower : Sound y → i < y.courses → j < y.terms → lists (course_at y i) j ≡ true → Narrower y (placed y i j)
  placed_narrower s h l e = go (is_fixed (course_at y i) j) refl
    where
      go : (b : Bool) → is_fixed (course_at y i) j ≡ b → Narrower y (placed y i j)
      go true q = subst (Narrower y) (sym (ap (with_list y i) (sym (eqb-true (list y i) (2 ^ j) q)) ∙ own_list s)) (narrower_self y s)
      go false q = (narrows_placed y i j s h l (rw (e, q) refl)).year

  placing_narrows : NarrowedBy y (place i j) (place_of y i j)
  unfolding place_of
  placing_narrows =
      past_refusals y (place i j) (placing y i j)
      (λ s m due.
      let k = there_are y i j m in
      choose_case (NarrowedBy y (place i j)) (lists (course_at y i) j) (answered (Ok tt) (placed y i j)) (answered (Err Crossing) y)
      (λ e. when_done y (place i j) (placed y i j) (placed_narrower s k.0 k.1 e) (λ p. placed_plans y i j p s k.0 e) (rw (due, e)))
      (λ e. when_refused y (place i j) Crossing (rw (due, e))))

  -- a course that does not list j is not in j, and j alone is not its list
  unlisted : lists (course_at y i) j ≡ false → eqb (list y i) (2 ^ j) ≡ false
  unlisted e = go (eqb (list y i) (2 ^ j)) refl
    where
      go : (b : Bool) → eqb (list y i) (2 ^ j) ≡ b → b ≡ false
      go true q = sym (ap (λ l. has l j) (eqb-true (list y i) (2 ^ j) q) ∙ has_power j j ∙ eq-eqb j j refl) ∙ e
      go false q = refl

  barring_narrows : NarrowedBy y (bar i j) (bar_of y i j)
  unfolding bar_of
  barring_narrows =
      past_refusals y (bar i j) (barring y i j)
      (λ s m due.
      let k = there_are y i j m in
      choose_case (NarrowedBy y (bar i j)) (lists (course_at y i) j)
      (choose (eqb (list y i) (2 ^ j)) (answered (Err Crossing) y) (answered (Ok tt) (struck y i j))) (answered (Ok tt) y)
      (λ e.
      choose_case (NarrowedBy y (bar i j)) (eqb (list y i) (2 ^ j)) (answered (Err Crossing) y) (answered (Ok tt) (struck y i j))
      (λ q. when_refused y (bar i j) Crossing (rw (due, q)))
      (λ q.
      when_done y (bar i j) (struck y i j) (narrows_struck y i j s k.0 k.1 (rw (e, q) refl)).year
      (λ p. struck_plans y i j p s k.0 e) (rw (due, q))))
      (λ e.
      when_done y (bar i j) y (narrower_self y s)
      (λ p. (λ h. (h, λ q. true≢false (sym (h.listed i k.0) ∙ ap (lists (course_at y i)) q ∙ e)), λ h. h.0))
      (rw (due, unlisted e))))

-- ---- all six

pub each_narrowing : EachNarrowing
each_narrowing (place i j) y = placing_narrows y i j
each_narrowing (bar i j) y = barring_narrows y i j
each_narrowing (tighten s q j v) y = tightening_narrows s q y j v

pub narrow_narrower : (n : Narrow) (y : Year) → Sound y → Narrower y (narrow n y).year
narrow_narrower n y s = (each_narrowing n y).narrower s
