-- Within a round, at rules 6 to 9, every term has fixed ≤ low count ≤ fixed + open, so no difference in a spare is cut off; and rule 8
-- always reaches the low count, since rule 7 walked as far.
use Prim.Native.Nat.{ℕ, zero, suc, ◌+◌, ◌-◌, ◌^◌, ◌≤◌, ◌<◌}
use mathlib.Core.Bool.{Bool, true, false, not, ◌&&◌}
use mathlib.Core.List.{List, [], ◌∷◌}
use mathlib.Core.Path.{◌≡◌, refl, sym, ap, ap₂, ◌∙◌, fun_ext}
use native.Mathlib.Omega.{arith}
use native.Mathlib.Nat.{le_trans, le_of_eq}
use native.Mathlib.Decide.{ℕ_discrete}
use lib.Dec.{eqb, leb, ltb}
use lib.ListN.{get_or}
use borrow.Author.Tests.{eqb-true, eqb-false, leb-true, leb-false}
use Rattle.theory.specs.Bits.{has}
use Rattle.theory.specs.Choice.{choose}
use Rattle.theory.specs.Fold.{fold}
use Rattle.theory.specs.Sum.{pick, sum}
use Rattle.theory.specs.Tab.{tab}
use Rattle.theory.specs.Walk.{Table, Reached, walk}
use Rattle.theory.proofs.ChoiceLaws.{choose_case, choose_any}
use Rattle.theory.proofs.FoldLaws.{fold_keeps}
use Rattle.year.specs.Year.{term_at, weight, low_credits, low_count, high_count}
use Rattle.year.specs.Bound.{tightened}
use Rattle.year.specs.Doors.{with_term}
use Rattle.year.specs.Sums.{fixed_credits, fixed_count, open_count}
use Rattle.year.specs.Sound.{Sound}
use Rattle.year.specs.declared.Credits.{Credits}
use Rattle.year.specs.declared.Quantity.{Quantity}
use Rattle.year.specs.declared.Quantity.TheVariants as quantity
use Rattle.year.specs.declared.Side.{Side}
use Rattle.year.specs.declared.Side.TheVariants.{Low, High}
use Rattle.year.specs.declared.Term.{Term}
use Rattle.year.specs.declared.Year.{Year}
use Rattle.year.proofs.DoorLaws.{term_same, term_other}
use Rattle.rules.specs.Step.{fails, applied, move, goes, then, live, over_to, Step}
use Rattle.rules.specs.Bounds.{own_sums, rule4, others_of, other_terms, rule5}
use Rattle.rules.specs.Spares.{spare, spares, table, stops, open_of, walk_of, down, up, least_count, most_count, least_load, most_load, rule6, rule7, rule8, rule9}
use Rattle.rules.specs.Round.{passes_of}
use Rattle.rules.specs.declared.Until.{Until}
use Rattle.rules.specs.declared.Until.TheVariants as until
use Rattle.rules.specs.Narrower.{Narrower}
use Rattle.rules.proofs.Narrows.{narrower_self, narrower_then, Narrows}
use Rattle.rules.proofs.Steps.{change_narrows}
use Rattle.rules.proofs.PlansKept.{Held}
use Rattle.rules.proofs.KeptOver.{AtTerms}
use Rattle.rules.proofs.ReasonsGood.{good14}
use Rattle.rules.proofs.RulesHeld.{rule4_held, rule5_held, rule6_held, rule7_held, rule8_held, rule9_held}
use Rattle.rules.proofs.Moved.{move_case, move_lists, both_lists, move_keeps, both_keep}
use Rattle.rules.proofs.Passes.{lawful_part, row_narrower}
use Rattle.promises.specs.SpareRoom.{after_rule, seen_at, Spared, SparedAt, SpareRoom}

-- ---- a rule on bounds, over the terms: what it makes known of each term, and what it keeps

module _ (y : Year) (A : Year → ℕ → Type 0) (f : Year → ℕ → Step) (law : AtTerms Held f)
    (stays : (z : Year) (j k : ℕ) → Sound z → j < z.terms → A z k → A (f z j).year k) where
  -- kept
  known_over : (s : Step) (m : ℕ) → m ≤ y.terms → Narrower y s.year × ((k : ℕ) → k < y.terms → A s.year k)
      → Narrower y (over_to f s m).year × ((k : ℕ) → k < y.terms → A (over_to f s m).year k)
  known_over s m h =
      fold_keeps goes (then f) s (λ t. Narrower y t.year × ((k : ℕ) → k < y.terms → A t.year k)) m
      (λ t j l e a. let z = t.year in (
        narrower_then y z (f z j).year a.0 (law z j a.0.sound (omega (arith, a.0.terms_same))).0.year,
        λ k q. stays z j k a.0.sound (omega (arith, a.0.terms_same)) (a.1 k q),
      ))

  -- made
  module _ (makes : (z : Year) (j : ℕ) → Sound z → j < z.terms → (f z j).rule ≡ 0 → A (f z j).year j) where
    abbrev Made : ℕ → Step → Type 0
    Made m t = Narrower y t.year × (t.rule ≡ 0 → (k : ℕ) → k < m → A t.year k)

    made_more : (t : Step) (m : ℕ) → Made m t → m < y.terms → Narrower y (f t.year m).year × ((f t.year m).rule ≡ 0 → t.rule ≡ 0 → (k : ℕ) → k < suc m → A (f t.year m).year k)
    made_more t m b h =
        let l : m < t.year.terms = omega (arith, b.0.terms_same) in (
          narrower_then y t.year (f t.year m).year b.0 (law t.year m b.0.sound l).0.year,
          λ r e k q. go k q (ℕ_discrete k m) (makes t.year m b.0.sound l r) (λ n. stays t.year m k b.0.sound l (b.1 e k n)),
        )
      where
        go : (k : ℕ) → k < suc m → Dec (k ≡ m) → A (f t.year m).year m → (k < m → A (f t.year m).year k) → A (f t.year m).year k
        go k q (yes e) new old = rw e new
        go k q (no d) new old = old (omega arith)

    made_over : (s : Step) → Narrower y s.year → (m : ℕ) → m ≤ y.terms → Made m (over_to f s m)
    unfolding fold
    made_over s a zero h = (a, λ e k l. absurd (omega arith))
    made_over s a (suc m) h =
        let t : Step = over_to f s m in
        let b = made_over s a m (omega arith) in
        let c = made_more t m b (omega arith) in
        choose_case (Made (suc m)) (eqb t.rule 0) _ t (λ e. (c.0, λ r. c.1 r (eqb-true t.rule 0 e))) (λ e. (b.0, λ r. absurd (eqb-false t.rule 0 e r)))

-- ---- rules on bounds leave the lists

abbrev KeepsLists : (Year → ℕ → Step) → Type 0
KeepsLists f = (z : Year) (j : ℕ) → (f z j).year.list ≡ z.list

-- a rule's own no plan, or a move: the lists stay
fails_or_move : (r : ℕ) (b : Bool) (z : Year) (s : Side) (q : Quantity) (j n : ℕ) → (applied r z (choose b fails (move s q z j n))).year.list ≡ z.list
fails_or_move r b z s q j n = choose_any (λ c. (applied r z c).year.list ≡ z.list) b fails (move s q z j n) refl (move_lists r z s q j n)

lists_4 : KeepsLists rule4
unfolding rule4
lists_4 z j = both_lists 4 (own_sums quantity.Counts) z j go
  where
    go : (s : Side) (x : Year) → (applied 4 x (own_sums quantity.Counts s x j)).year.list ≡ x.list
    go Low x = move_lists 4 x Low quantity.Counts j _
    go High x = move_lists 4 x High quantity.Counts j _

lists_5 : KeepsLists rule5
unfolding rule5
lists_5 z j = both_lists 5 (other_terms quantity.Counts) z j go
  where
    go : (s : Side) (x : Year) → (applied 5 x (other_terms quantity.Counts s x j)).year.list ≡ x.list
    go Low x = move_lists 5 x Low quantity.Counts j (x.courses - others_of High quantity.Counts x j)
    go High x = let n = others_of Low quantity.Counts x j in fails_or_move 5 (ltb x.courses n) x High quantity.Counts j (x.courses - n)

lists_6 : KeepsLists rule6
unfolding least_count
lists_6 z j =
    let w = walk_of z j (until.Credits (term_at z j).low) (down z) in
    fails_or_move 6 (ltb w.credits (low_credits z j)) z Low quantity.Counts j w.count

lists_7 : KeepsLists rule7
unfolding most_count
lists_7 z j = move_lists 7 z High quantity.Counts j _

lists_8 : KeepsLists rule8
unfolding least_load
lists_8 z j =
    let w = walk_of z j (until.Count (term_at z j).least) (up z) in
    fails_or_move 8 (ltb w.count (low_count z j)) z Low quantity.Credits j w.credits

lists_9 : KeepsLists rule9
unfolding most_load
lists_9 z j = move_lists 9 z High quantity.Credits j _

-- ---- rule 4 leaves room for the spares, and rules on bounds leave it

abbrev Room : Year → ℕ → Type 0
Room z k = (fixed_count z k ≤ low_count z k) × (high_count z k ≤ fixed_count z k + open_count z k)

-- the counts, while the lists stay
counts_stay : (y z : Year) (k : ℕ) → Narrower y z → z.list ≡ y.list → (fixed_count z k ≡ fixed_count y k) × (open_count z k ≡ open_count y k)
unfolding fixed_count open_count
counts_stay y z k w e = (
  ap₂ (λ (l : List ℕ) (n : ℕ). sum n (λ i. pick (eqb (get_or l i 0) (2 ^ k)) 1)) e w.courses_same,
  ap₂ (λ (l : List ℕ) (n : ℕ). sum n (λ i. pick (has (get_or l i 0) k && not (eqb (get_or l i 0) (2 ^ k))) 1)) e w.courses_same,
)

room_stays : (f : Year → ℕ → Step) → AtTerms Held f → KeepsLists f → (z : Year) (j k : ℕ) → Sound z → j < z.terms → Room z k → Room (f z j).year k
room_stays f law same z j k s l r =
    let w = (law z j s l).0.year in
    let c = counts_stay z (f z j).year k w (same z j) in
    (omega (arith, r, c, w.bounds Low quantity.Counts k), omega (arith, r, c, w.bounds High quantity.Counts k))

kept_4 : (z : Year) (j : ℕ) → Sound z → j < z.terms → (rule4 z j).rule ≡ 0
    → (fixed_count z j ≤ low_count (rule4 z j).year j) × (high_count (rule4 z j).year j ≤ fixed_count z j + open_count z j)
unfolding rule4
kept_4 z j s l e =
    let n = narrows Low z s l in
    let b = both_keep 4 (own_sums quantity.Counts) z j quantity.Counts (fixed_count z j) (λ x. fixed_count x j + open_count x j) (λ q. omega arith) s l refl (λ x. refl) n (narrows High) e in
    let c = counts_stay z (applied 4 z (own_sums quantity.Counts Low z j)).year j n.year (move_lists 4 z Low quantity.Counts j (fixed_count z j)) in
    (b.0, omega (arith, b.1, c))
  where
    narrows : (d : Side) (x : Year) → Sound x → j < x.terms → Narrows x (applied 4 x (own_sums quantity.Counts d x j))
    narrows d x q m = change_narrows 4 x q (own_sums quantity.Counts d x j) (good14 x j q m quantity.Counts d).alters

room_made : (z : Year) (j : ℕ) → Sound z → j < z.terms → (rule4 z j).rule ≡ 0 → Room (rule4 z j).year j
room_made z j s l e =
    let c = counts_stay z (rule4 z j).year j (rule4_held z j s l).0.year (lists_4 z j) in
    let k = kept_4 z j s l e in
    (omega (arith, c, k), omega (arith, c, k))

module _ (y : Year) (sound : Sound y) where
  narrower_after : (a : ℕ) → Narrower y (after_rule y a).year
  narrower_after a = row_narrower (passes_of 1 a) (lawful_part 1 a) y (live y) (narrower_self y sound)

  terms_after : (a : ℕ) → (after_rule y a).year.terms ≤ y.terms
  terms_after a = le_of_eq (narrower_after a).terms_same

  module _ (alive : (after_rule y 4).rule ≡ 0) where
    abbrev Roomy : Year → Type 0
    Roomy z = Narrower y z × ((k : ℕ) → k < y.terms → Room z k)

    spared_of : (z : Year) → Roomy z → Spared z
    spared_of z a k l = let r = a.1 k (omega (arith, a.0.terms_same)) in (r.0, omega (arith, r, a.0.sound.term_sound k l))

    -- a rule on bounds leaves room, at each of its terms and behind the last
    roomy_at : (f : Year → ℕ → Step) → AtTerms Held f → KeepsLists f → (s : Step) → Roomy s.year → (j : ℕ) → j ≤ y.terms → Roomy (seen_at f s j)
    roomy_at f law same s a j h = known_over y Room f law (room_stays f law same) s j h a

    roomy_4 : Roomy (after_rule y 4).year
    roomy_4 =
        let b = made_over y Room rule4 rule4_held (room_stays rule4 rule4_held lists_4) room_made (after_rule y 3) (narrower_after 3) (after_rule y 3).year.terms (terms_after 3) in
        (b.0, λ k l. b.1 alive k (omega (arith, (narrower_after 3).terms_same)))

    roomy_5 : Roomy (after_rule y 5).year
    roomy_5 = roomy_at rule5 rule5_held lists_5 (after_rule y 4) roomy_4 (after_rule y 4).year.terms (terms_after 4)

    roomy_6 : Roomy (after_rule y 6).year
    roomy_6 = roomy_at rule6 rule6_held lists_6 (after_rule y 5) roomy_5 (after_rule y 5).year.terms (terms_after 5)

    roomy_7 : Roomy (after_rule y 7).year
    roomy_7 = roomy_at rule7 rule7_held lists_7 (after_rule y 6) roomy_6 (after_rule y 6).year.terms (terms_after 6)

    roomy_8 : Roomy (after_rule y 8).year
    roomy_8 = roomy_at rule8 rule8_held lists_8 (after_rule y 7) roomy_7 (after_rule y 7).year.terms (terms_after 7)

-- the years that rules 6 to 9 see at each of their terms
spared_6 : SparedAt rule6 5
spared_6 y s alive j h = spared_of y s alive _ (roomy_at y s alive rule6 rule6_held lists_6 (after_rule y 5) (roomy_5 y s alive) j h)

spared_7 : SparedAt rule7 6
spared_7 y s alive j h = spared_of y s alive _ (roomy_at y s alive rule7 rule7_held lists_7 (after_rule y 6) (roomy_6 y s alive) j h)

spared_8 : SparedAt rule8 7
spared_8 y s alive j h = spared_of y s alive _ (roomy_at y s alive rule8 rule8_held lists_8 (after_rule y 7) (roomy_7 y s alive) j h)

spared_9 : SparedAt rule9 8
spared_9 y s alive j h = spared_of y s alive _ (roomy_at y s alive rule9 rule9_held lists_9 (after_rule y 8) (roomy_8 y s alive) j h)

-- ---- rule 8 reaches the low count

-- a walk that its count alone stops gets as far as any other
module _ {S : Type 0} (T : Table S) (w : ℕ → ℕ) (stop : ℕ → ℕ → ℕ → Bool) (low : ℕ) where
  farther : (L : List ℕ) (s : S) (c n : ℕ) → low ≤ (walk T w stop L s c n).count → low ≤ (walk T w (λ c n x. leb low n) L s c n).count
  unfolding walk
  farther [] s c n h = h
  farther (g ∷ L) s c n h = go (λ s' c' n'. farther L s' c' n') (leb low n) (stop c n (w g)) (T.blocked s g) refl h
    where
      go : ((s' : S) (c' n' : ℕ) → low ≤ (walk T w stop L s' c' n').count → low ≤ (walk T w (λ c n x. leb low n) L s' c' n').count)
          → (x u b : Bool) → leb low n ≡ x
          → let a : Reached = elim u [
            | true ↦ record { credits = c; count = n }
            | false ↦ elim b [ true ↦ walk T w stop L s c n | false ↦ walk T w stop L (T.charge s g) (c + w g) (suc n) ]
          ] in
          let d : Reached = elim x [
            | true ↦ record { credits = c; count = n }
            | false ↦ elim b [ true ↦ walk T w (λ c n x. leb low n) L s c n | false ↦ walk T w (λ c n x. leb low n) L (T.charge s g) (c + w g) (suc n) ]
          ] in
          low ≤ a.count → low ≤ d.count
      go ih true u b e h = leb-true low n e
      go ih false true b e h = absurd (omega (arith, leb-false low n e))
      go ih false false true e h = ih s c n h
      go ih false false false e h = ih (T.charge s g) (c + w g) (suc n) h

-- of the bounds, walks see the low counts alone
walk_same : (z x : Year) → Narrower z x → x.list ≡ z.list → ((i : ℕ) → low_count x i ≡ low_count z i) → (k : ℕ) (u : Until) → walk_of x k u (up x) ≡ walk_of z k u (up z)
unfolding walk_of spares up fixed_credits fixed_count open_count
walk_same z x w e lows k u =
    (λ i. walk_of (like i) k u (up (like i)))
    ∙ ap (λ (s : List ℕ). walk (table z k) (weight z) (stops u) (open_of z k (up z)) s (fixed_credits z k) (fixed_count z k)) (ap (tab 16) (fun_ext spare_is))
  where
    like : x ≡ record { terms = x.terms; courses = z.courses; term = x.term; weight = z.weight; list = z.list; sums = x.sums }
    like = λ i. record { terms = x.terms; courses = w.courses_same i; term = x.term; weight = w.weight_same i; list = e i; sums = x.sums }

    spare_is : (i : ℕ) → open_count z i - (low_count x i - fixed_count z i) ≡ spare z i
    spare_is i = ap (λ n. open_count z i - (n - fixed_count z i)) (lows i)

-- the high count is at most what some walk up, whatever its high credits, counts
abbrev Within : Year → ℕ → Type 0
Within z k = (h : Credits) × (high_count z k ≤ (walk_of z k (until.Past h) (up z)).count)

-- rules 7 and 8 leave the low counts
abbrev KeepsLow : (Year → ℕ → Step) → Type 0
KeepsLow f = (z : Year) (j : ℕ) → Sound z → j < z.terms → (k : ℕ) → low_count (f z j).year k ≡ low_count z k

low_put : (z : Year) (j : ℕ) (t : Term) → Sound z → j < z.terms → t.least.0 ≡ low_count z j → (k : ℕ) → low_count (with_term z j t) k ≡ low_count z k
low_put z j t s l e k = go (ℕ_discrete k j)
  where
    go : Dec (k ≡ j) → low_count (with_term z j t) k ≡ low_count z k
    go (yes q) = ap (low_count (with_term z j t)) q ∙ ap (λ (x : Term). x.least.0) (term_same z j t (omega (arith, s))) ∙ e ∙ ap (low_count z) (sym q)
    go (no d) = ap (λ (x : Term). x.least.0) (term_other z j t k d)

low_7 : KeepsLow rule7
unfolding most_count tightened
low_7 z j s l k = move_case (λ (t : Step). low_count t.year k ≡ low_count z k) 7 z High quantity.Counts j _ refl refl (low_put z j _ s l refl k)

low_8 : KeepsLow rule8
unfolding least_load tightened
low_8 z j s l k =
    let w = walk_of z j (until.Count (term_at z j).least) (up z) in
    choose_any (λ c. low_count (applied 8 z c).year k ≡ low_count z k) (ltb w.count (low_count z j)) fails (move Low quantity.Credits z j w.credits) refl
    (move_case (λ (t : Step). low_count t.year k ≡ low_count z k) 8 z Low quantity.Credits j w.credits refl refl (low_put z j _ s l refl k))

walks_as : (f : Year → ℕ → Step) → AtTerms Held f → KeepsLists f → KeepsLow f → (z : Year) (j : ℕ) → Sound z → j < z.terms → (k : ℕ) (u : Until)
    → (walk_of z k u (up z)).count ≡ (walk_of (f z j).year k u (up (f z j).year)).count
walks_as f law same low z j s l k u = ap (λ (x : Reached). x.count) (sym (walk_same z (f z j).year (law z j s l).0.year (same z j) (low z j s l) k u))

within_stays : (f : Year → ℕ → Step) → AtTerms Held f → KeepsLists f → KeepsLow f → (z : Year) (j k : ℕ) → Sound z → j < z.terms → Within z k → Within (f z j).year k
within_stays f law same low z j k s l r = (
  r.0,
  le_trans ((law z j s l).0.year.bounds High quantity.Counts k) (le_trans r.1 (le_of_eq (walks_as f law same low z j s l k (until.Past r.0)))),
)

lowered_7 : (z : Year) (j : ℕ) → Sound z → j < z.terms → (rule7 z j).rule ≡ 0 → high_count (rule7 z j).year j ≤ (walk_of z j (until.Past (term_at z j).high) (up z)).count
unfolding most_count
lowered_7 z j s l e = move_keeps 7 z High quantity.Counts j _ s l (λ q. omega arith) e

within_made : (z : Year) (j : ℕ) → Sound z → j < z.terms → (rule7 z j).rule ≡ 0 → Within (rule7 z j).year j
within_made z j s l e = ((term_at z j).high, le_trans (lowered_7 z j s l e) (le_of_eq (walks_as rule7 rule7_held lists_7 low_7 z j s l j (until.Past (term_at z j).high))))

module _ (y : Year) (sound : Sound y) (alive : (after_rule y 7).rule ≡ 0) (j : ℕ) (h : j < y.terms) where
  -- the year that rule 8 sees at term j
  abbrev seen : Year
  seen = seen_at rule8 (after_rule y 7) j

  within : Narrower y seen × ((k : ℕ) → k < y.terms → Within seen k)
  within =
      let n = narrower_after y sound 6 in
      let b = made_over y Within rule7 rule7_held (within_stays rule7 rule7_held lists_7 low_7) within_made (after_rule y 6) n (after_rule y 6).year.terms (le_of_eq n.terms_same) in
      known_over y Within rule8 rule8_held (within_stays rule8 rule8_held lists_8 low_8) (after_rule y 7) j (omega arith)
      (b.0, λ k l. b.1 alive k (omega (arith, n.terms_same)))

  rule8_reaches : low_count seen j ≤ (walk_of seen j (until.Count (term_at seen j).least) (up seen)).count
  unfolding walk_of
  rule8_reaches =
      let r = within.1 j h in
      let s = within.0.sound.term_sound j (omega (arith, within.0.terms_same)) in
      farther (table seen j) (weight seen) (stops (until.Past r.0)) (low_count seen j) (open_of seen j (up seen)) (spares seen) (fixed_credits seen j) (fixed_count seen j)
      (le_trans s.count_ordered r.1)

pub spare_room : SpareRoom
spare_room = record { spared_6 = spared_6; spared_7 = spared_7; spared_8 = spared_8; spared_9 = spared_9; rule8_reaches = rule8_reaches }
