-- Every change that finds what it alters narrows the year: a move, a strike and a fixing.
use Prim.Native.Nat.{ℕ, ◌+◌, ◌-◌, ◌^◌, ◌≤◌, ◌<◌}
use mathlib.Core.Bool.{Bool, true, false, not, true≢false}
use mathlib.Core.Path.{◌≡◌, refl, sym, ap, subst, ◌∙◌}
use native.Mathlib.Omega.{arith}
use native.Mathlib.Decide.{ℕ_discrete}
use lib.Dec.{eqb}
use borrow.Author.Tests.{eqb-true, eq-eqb, ltb-true, ltb-false}
use Rattle.theory.proofs.SumLaws.{sum_change}
use Rattle.theory.proofs.TestLaws.{and_true}
use Rattle.theory.specs.Bits.{has}
use Rattle.theory.proofs.BitLaws.{has_struck, has_power, power_below}
use Rattle.year.specs.Year.{term_at, course_at, list, lists, is_fixed, is_open}
use Rattle.year.specs.Bound.{bound_of, with_bound, bound, opposite, beyond, Keeps, tightened}
use Rattle.year.specs.Doors.{with_term, with_list, placed, struck}
use Rattle.year.specs.Sound.{Sound, TermSound}
use Rattle.year.specs.declared.Quantity.{Quantity}
use Rattle.year.specs.declared.Quantity.TheVariants.{Credits, Counts}
use Rattle.year.specs.declared.Side.{Side}
use Rattle.year.specs.declared.Side.TheVariants.{Low, High}
use Rattle.year.specs.declared.Term.{Term}
use Rattle.year.specs.declared.Year.{Year}
use Rattle.year.proofs.BoundLaws.{tight_new}
use Rattle.year.proofs.DoorLaws.{term_same, term_other, with_term_sound, list_same, list_other, placed_sound, struck_sound}
use Rattle.rules.specs.Step.{Change, rests, moves, strikes, fixes, crosses, fails, applied, ruled, judged, step}
use Rattle.rules.specs.Reasons.{Alters}
use Rattle.rules.specs.declared.Verdict.{Verdict}
use Rattle.rules.specs.declared.Verdict.TheVariants.{Stays, Struck, Fixed}
use Rattle.rules.proofs.Leeway.{slack, slack_at, choices, choices_at, leeway, choices_struck, choices_placed}
use Rattle.rules.proofs.Narrows.{keeps_self, Narrows, narrows_rest}

-- ---- bounds

-- u is t with no bound looser, and with less between them
record Tighter (t u : Term) : Type 0 where
  sound : TermSound u
  bounds : (s : Side) (q : Quantity) → Keeps s (bound_of s q t) (bound_of s q u)
  falls : slack u + 1 ≤ slack t

each : (t u : Term) → t.low.0 ≤ u.low.0 → u.high.0 ≤ t.high.0 → t.least.0 ≤ u.least.0 → u.most.0 ≤ t.most.0
    → (s : Side) (q : Quantity) → Keeps s (bound_of s q t) (bound_of s q u)
each t u a b c d Low Credits = a
each t u a b c d High Credits = b
each t u a b c d Low Counts = c
each t u a b c d High Counts = d

-- one bound replaced by n, which is beyond it and not beyond its opposite
bound_tighter : (s : Side) (q : Quantity) (t : Term) (n : ℕ) → TermSound t → beyond s n (bound_of s q t) ≡ true → beyond s n (bound_of (opposite s) q t) ≡ false
    → Tighter t (with_bound s q t n)
bound_tighter Low Credits t n o e f =
    let a : t.low.0 < n = ltb-true _ _ e in
    let b : n ≤ t.high.0 = ltb-false _ _ f in
    record { sound = omega (arith, o); bounds = each t _ (omega arith) (omega arith) (omega arith) (omega arith); falls = omega (arith, o) }
bound_tighter High Credits t n o e f =
    let a : n < t.high.0 = ltb-true _ _ e in
    let b : t.low.0 ≤ n = ltb-false _ _ f in
    record { sound = omega (arith, o); bounds = each t _ (omega arith) (omega arith) (omega arith) (omega arith); falls = omega (arith, o) }
bound_tighter Low Counts t n o e f =
    let a : t.least.0 < n = ltb-true _ _ e in
    let b : n ≤ t.most.0 = ltb-false _ _ f in
    record { sound = omega (arith, o); bounds = each t _ (omega arith) (omega arith) (omega arith) (omega arith); falls = omega (arith, o) }
bound_tighter High Counts t n o e f =
    let a : n < t.most.0 = ltb-true _ _ e in
    let b : t.least.0 ≤ n = ltb-false _ _ f in
    record { sound = omega (arith, o); bounds = each t _ (omega arith) (omega arith) (omega arith) (omega arith); falls = omega (arith, o) }

module _ (y : Year) (j : ℕ) (u : Term) (s : Sound y) (h : j < y.terms) (w : Tighter (term_at y j) u) where
  at : (k : ℕ) (P : Term → Term → Type 0) → P (term_at y j) u → P (term_at y k) (term_at y k) → P (term_at y k) (term_at (with_term y j u) k)
  at k P new old = go (ℕ_discrete k j)
    where
      go : Dec (k ≡ j) → P (term_at y k) (term_at (with_term y j u) k)
      go (yes e) = rw (e, term_same y j u (omega (arith, s))) new
      go (no ne) = rw (term_other y j u k ne) old

  leeway_falls : leeway (with_term y j u) + 1 ≤ leeway y
  unfolding leeway
  leeway_falls =
      let new : slack_at (with_term y j u) j ≡ slack u = ap slack (term_same y j u (omega (arith, s))) in
      omega (
        arith,
        w.falls,
        sum_change y.terms j (slack_at (with_term y j u)) (slack_at y) h (λ k m ne. ap slack (term_other y j u k ne)),
      )

  narrows_term : Narrows y (step (with_term y j u) true 0)
  narrows_term = record {
    year = record {
      sound = with_term_sound y j u s h w.sound;
      terms_same = refl;
      courses_same = refl;
      weight_same = refl;
      bounds = λ r q k. at k (λ t v. Keeps r (bound_of r q t) (bound_of r q v)) (w.bounds r q) (keeps_self r (bound r q y k));
      lists_less = λ i k e. e;
    };
    falls = leeway_falls;
    still = λ e. absurd (true≢false e);
  }

pub narrows_moved : (y : Year) (s : Side) (q : Quantity) (j n : ℕ) → Sound y → Alters y (moves s q j n) → Narrows y (applied 0 y (moves s q j n))
unfolding tightened
narrows_moved y s q j n sound a =
    subst (λ u. Narrows y (step (with_term y j u) true 0)) (sym (tight_new s q (term_at y j) n a.1))
    (narrows_term y j (with_bound s q (term_at y j) n) sound a.0 (bound_tighter s q (term_at y j) n (sound.term_sound j a.0) a.1 a.2))

-- ---- lists

-- course i, open in j, with a list l that names no more terms and leaves fewer choices
module _ (y : Year) (i l : ℕ) (s : Sound y) (h : i < y.courses) (sound : Sound (with_list y i l))
    (less : (k : ℕ) → has l k ≡ true → lists (course_at y i) k ≡ true) (fewer : choices l + 1 ≤ choices (list y i)) where
  list_falls : leeway (with_list y i l) + 1 ≤ leeway y
  unfolding leeway
  list_falls =
      let new : choices_at (with_list y i l) i ≡ choices l = ap choices (list_same y i l (omega (arith, s))) in
      omega (
        arith,
        fewer,
        sum_change y.courses i (choices_at (with_list y i l)) (choices_at y) h (λ k m ne. ap choices (list_other y i l k ne)),
      )

  narrows_list : Narrows y (step (with_list y i l) true 0)
  narrows_list = record {
    year = record {
      sound = sound;
      terms_same = refl;
      courses_same = refl;
      weight_same = refl;
      bounds = λ r q k. keeps_self r (bound r q y k);
      lists_less = λ a k e. named a k (ℕ_discrete a i) e;
    };
    falls = list_falls;
    still = λ e. absurd (true≢false e);
  }
    where
      named : (a k : ℕ) → Dec (a ≡ i) → lists (course_at (with_list y i l) a) k ≡ true → lists (course_at y a) k ≡ true
      named a k (yes q) e = rw q (less k (rw (q, list_same y i l (omega (arith, s))) at e))
      named a k (no ne) e = rw (list_other y i l a ne) at e

module _ (y : Year) (i j : ℕ) (s : Sound y) (h : i < y.courses) (l : j < y.terms) (e : is_open (course_at y i) j ≡ true) where
  is_listed : lists (course_at y i) j ≡ true
  is_listed = (and_true (lists (course_at y i) j) (not (is_fixed (course_at y i) j)) e).0

  not_alone : list y i ≡ 2 ^ j → ⊥
  not_alone q = true≢false (sym (and_true (lists (course_at y i) j) (not (is_fixed (course_at y i) j)) e).1 ∙ ap not (eq-eqb (list y i) (2 ^ j) q))

  small : list y i < 2 ^ 16
  small = go (ℕ_discrete y.terms 16)
    where
      go : Dec (y.terms ≡ 16) → list y i < 2 ^ 16
      go (yes q) = rw q at (s.course_sound i h).list_within
      go (no d) = let m : y.terms < 16 = omega (arith, s, d) in omega (arith, power_below y.terms 16 m, (s.course_sound i h).list_within)

  pub narrows_struck : Narrows y (step (struck y i j) true 0)
  narrows_struck =
      narrows_list y i (list y i - 2 ^ j) s h (struck_sound y i j s h is_listed not_alone)
      (λ k q. (and_true (lists (course_at y i) k) (not (eqb k j)) (sym (has_struck (list y i) j k is_listed) ∙ q)).0)
      (choices_struck (list y i) j (omega (arith, s)) small is_listed not_alone)

  pub narrows_placed : Narrows y (step (placed y i j) true 0)
  narrows_placed =
      narrows_list y i (2 ^ j) s h (placed_sound y i j s h l)
      (λ k q. let r : k ≡ j = eqb-true k j (sym (has_power j k) ∙ q) in rw r is_listed)
      (choices_placed (list y i) j (omega (arith, s)) small is_listed not_alone)

-- ---- changes

pub change_narrows : (r : ℕ) (y : Year) → Sound y → (c : Change) → Alters y c → Narrows y (applied r y c)
change_narrows r y s rests a = narrows_rest y 0 s
change_narrows r y s (moves d q j n) a = narrows_moved y d q j n s a
change_narrows r y s (strikes i j) a = narrows_struck y i j s a.0 a.1 a.2
change_narrows r y s (fixes i j) a = narrows_placed y i j s a.0 a.1 a.2
change_narrows r y s (crosses d q j) a = narrows_rest y r s
change_narrows r y s fails a = narrows_rest y r s

-- ---- verdicts, whatever is known of the term

-- a verdict that lets a course that is not open stay
pub judged_narrows : (y : Year) (i j : ℕ) (v : Verdict) → Sound y → i < y.courses → j < y.terms → (is_open (course_at y i) j ≡ false → v ≡ Stays) → Narrows y (judged y i j v)
judged_narrows y i j v s h l stays = change_narrows 0 y s (ruled i j v) (go (is_open (course_at y i) j) refl v stays)
  where
    go : (o : Bool) → is_open (course_at y i) j ≡ o → (v : Verdict) → (is_open (course_at y i) j ≡ false → v ≡ Stays) → Alters y (ruled i j v)
    go o e Stays k = tt
    go true e Struck k = (h, l, e)
    go true e Fixed k = (h, l, e)
    go false e Struck k = let z : Struck ≡ Stays = k e in absurd (let d : ◌≡◌ {A = ℕ} 0 1 = cc in omega arith)
    go false e Fixed k = let z : Fixed ≡ Stays = k e in absurd (let d : ◌≡◌ {A = ℕ} 0 1 = cc in omega arith)
