-- The open courses of a term out of the columns of a year: where each stands among them, and the verdict on it by its place.
use Prim.Native.Nat.{ℕ, zero, suc, ◌+◌, ◌-◌, ◌≤◌, ◌<◌}
use mathlib.Core.Bool.{Bool, true, false}
use mathlib.Core.List.{List, [], ◌∷◌}
use mathlib.Core.Path.{◌≡◌, refl, sym, ap, ap₂, ◌∙◌, subst}
use native.Mathlib.Omega.{arith}
use lib.ListN.{length, get_or, take}
use lib.Seq.{get_or-take, length-take-le, take-length}
use borrow.Author.Tests.{le-ltb}
use Rattle.theory.specs.Choice.{choose}
use Rattle.theory.specs.Order.{lighter, rank, keep}
use Rattle.theory.specs.Sum.{weigh}
use Rattle.theory.specs.Neighbours.{fires}
use Rattle.theory.proofs.OrderLaws.{weight_key, lightness, lighter_keyed, lighter_up, rank_within, order_at, placed}
use Rattle.theory.proofs.WalkLaws.{Up}
use Rattle.rules.specs.declared.Verdict.TheVariants.{Stays}
use Rattle.orders.proofs.OrderLaws.{order_long}
use Rattle.neighbours.specs.Lightest.{upto, Rising, left_out, Lent, Summed, fires_by, Calm, Quiet}
use Rattle.neighbours.specs.Opened.{at, open_in, opened, Ordered, Gathers}
use Rattle.neighbours.specs.Verdicts.{rising_in, set_in, rest_in, verdict_in, verdict_by, Columns}
use Rattle.neighbours.proofs.SetLaws.{Apart, Weighed, upto_more, rising_of, rising_same, lent_all, fires_all, lent_rest, fires_rest, calm_still, quiet_same, quiet_still}
use Rattle.neighbours.proofs.GatheringLaws.{kept_from, keep_short, keep_light}

-- ---- what is kept of a list

-- each in the list that passes is kept
kept_at : (test : ℕ → Bool) (L : List ℕ) (r : ℕ) → r < length L → test (get_or L r 0) ≡ true → (k : ℕ) × (k < length (keep test L)) × (get_or (keep test L) k 0 ≡ get_or L r 0)
unfolding keep
kept_at test [] r l e = absurd (omega arith)
kept_at test (g ∷ L) zero l e = rw e (0, omega arith, refl)
kept_at test (g ∷ L) (suc r) l e = go (test g) (kept_at test L r (omega arith) e)
  where
    go : (b : Bool) → (k : ℕ) × (k < length (keep test L)) × (get_or (keep test L) k 0 ≡ get_or L r 0)
        → (k : ℕ) × (k < length (choose b (g ∷ keep test L) (keep test L))) × (get_or (choose b (g ∷ keep test L) (keep test L)) k 0 ≡ get_or L r 0)
    go true a = (suc a.0, omega (arith, a.1), a.2)
    go false a = a

-- each that is kept passes
kept_passes : (test : ℕ → Bool) (L : List ℕ) (k : ℕ) → k < length (keep test L) → test (get_or (keep test L) k 0) ≡ true
unfolding keep
kept_passes test [] k l = absurd (omega arith)
kept_passes test (g ∷ L) k l = go (test g) refl k l (kept_passes test L)
  where
    go : (b : Bool) → test g ≡ b → (k : ℕ) → k < length (choose b (g ∷ keep test L) (keep test L))
        → ((k : ℕ) → k < length (keep test L) → test (get_or (keep test L) k 0) ≡ true) → test (get_or (choose b (g ∷ keep test L) (keep test L)) k 0) ≡ true
    go true e zero l ih = e
    go true e (suc k) l ih = ih k (omega arith)
    go false e k l ih = ih k l

-- no two are the same if none of the list are
keep_apart : (test : ℕ → Bool) (L : List ℕ) → Apart L → Apart (keep test L)
unfolding keep
keep_apart test [] h = λ r q l m e. absurd (omega arith)
keep_apart test (g ∷ L) h = go (test g) (keep_apart test L (λ r q l m e. omega (arith, h (suc r) (suc q) (omega arith) (omega arith) e)))
  where
    front : (k : ℕ) → k < length (keep test L) → g ≡ get_or (keep test L) k 0 → ⊥
    front k l e = let a = kept_from test L k l in omega (arith, h 0 (suc a.0) (omega arith) (omega (arith, a.1)) (e ∙ sym a.2))

    with_it : Apart (keep test L) → Apart (g ∷ keep test L)
    with_it ih zero zero l m e = refl
    with_it ih zero (suc q) l m e = absurd (front q (omega arith) e)
    with_it ih (suc r) zero l m e = absurd (front r (omega arith) (sym e))
    with_it ih (suc r) (suc q) l m e = ap suc (ih r q (omega arith) (omega arith) e)

    go : (b : Bool) → Apart (keep test L) → Apart (choose b (g ∷ keep test L) (keep test L))
    go false ih = ih
    go true ih = with_it ih

-- ---- the order

module _ (weight list : List ℕ) (n : ℕ) (c : Columns weight list n) where
  abbrev o : List ℕ
  o = rising_in weight n

  abbrev key : ℕ → ℕ
  key = weight_key (lightness (at weight) n)

  order_length : length o ≡ 64
  order_length = order_long (lighter (at weight)) n n

  -- each place holds one of the n courses, and no two the same
  place_at : (r : ℕ) → r < n → (at o r < n)
  place_at r l = let a = placed (lighter (at weight)) n key (lighter_keyed (at weight) n c.few) r l in omega (arith, a.1, a.3)

  place_apart : (r q : ℕ) → r < n → q < n → at o r ≡ at o q → r ≡ q
  place_apart r q l m e =
      let a = placed (lighter (at weight)) n key (lighter_keyed (at weight) n c.few) r l in
      let b = placed (lighter (at weight)) n key (lighter_keyed (at weight) n c.few) q m in
      let same : a.0 ≡ b.0 = sym a.3 ∙ e ∙ b.3 in
      sym a.2 ∙ ap (rank (lighter (at weight)) n) same ∙ b.2

  pub ordered : Ordered weight list o n
  ordered = record {
    few = c.few;
    long = omega (arith, order_length, c.few);
    weighed = λ r l. omega (arith, place_at r l, c.weighed);
    listed = λ r l. omega (arith, place_at r l, c.listed);
    numbered = λ r l. omega (arith, place_at r l, c.few);
    light = λ r l. c.light (at o r) (place_at r l);
    apart = place_apart;
  }

  pub ordered_by : (order : List ℕ) → order ≡ o → Ordered weight list order n
  ordered_by order is = subst (λ r. Ordered weight list r n) (sym is) ordered

  -- course i stands somewhere
  pub stands : (i : ℕ) → i < n → (r : ℕ) × (r < n) × (at o r ≡ i)
  stands i l =
      let k = lighter_keyed (at weight) n c.few in
      (rank (lighter (at weight)) n i, rank_within (lighter (at weight)) n key k i l, order_at (lighter (at weight)) n key k i l)

  -- ---- the open courses of a term

  module _ (j : ℕ) where
    abbrev set : List ℕ
    set = set_in weight list n j

    front_long : length (take n o) ≡ n
    front_long = length-take-le n o (omega (arith, order_length, c.few))

    pub set_up : Up (at weight) 0 set
    set_up = lighter_up (at weight) n c.few (open_in weight list j)

    pub set_few : length set ≤ 64
    set_few = omega (arith, keep_short (open_in weight list j) (take n o), front_long, c.few)

    pub set_small : upto (at weight) set (length set) ≤ 64000
    set_small =
        omega (
          arith,
          ap (weigh (at weight)) (take-length set),
          keep_light (at weight) (open_in weight list j) (take n o)
              (λ s l. let m : s < n = omega (arith, front_long) in rw (get_or-take n o s 0 m) (c.light (at o s) (place_at s m))),
          front_long,
          c.few,
        )

    -- what is kept of a list with no two the same has no two the same
    pub set_apart : Apart set
    set_apart = keep_apart (open_in weight list j) (take n o) apart_front
      where
        apart_front : Apart (take n o)
        apart_front r q l m e =
            let a : r < n = omega (arith, front_long) in
            let b : q < n = omega (arith, front_long) in
            place_apart r q a b (sym (get_or-take n o r 0 a) ∙ e ∙ get_or-take n o q 0 b)

    -- an open course stands among them
    pub stands_open : (i : ℕ) → i < n → open_in weight list j i ≡ true → (r : ℕ) × (r < length set) × (get_or set r 0 ≡ i)
    stands_open i l e =
        let a = stands i l in
        let is : get_or (take n o) a.0 0 ≡ i = get_or-take n o a.0 0 a.1 ∙ a.2 in
        let b = kept_at (open_in weight list j) (take n o) a.0 (omega (arith, a.1, front_long)) (ap (open_in weight list j) is ∙ e) in
        (b.0, b.1, b.2 ∙ is)

    -- each of them is a course of the year, and open
    member : (t : ℕ) → t < length set → (at set t < n) × (open_in weight list j (at set t) ≡ true)
    member t l =
        let a = kept_from (open_in weight list j) (take n o) t l in
        let m : a.0 < n = omega (arith, a.1, front_long) in
        (omega (arith, a.2, get_or-take n o a.0 0 m, place_at a.0 m), kept_passes (open_in weight list j) (take n o) t l)

    -- ---- verdicts

    pub closed_stays : (a b i : ℕ) → open_in weight list j i ≡ false → verdict_in weight list n j a b i ≡ Stays
    closed_stays a b i e = rw e

    -- every course stays where nothing shows, whichever is left out
    still_stays : (a b : ℕ)
        → ((r i : ℕ) → Apart set → r < length set → get_or set r 0 ≡ i
        → (at weight i ≤ b) × (fires (at weight) (rest_in weight list n j i) (a - at weight i) (b - at weight i) ≡ false) × (fires (at weight) (rest_in weight list n j i) a b ≡ false))
        → (i : ℕ) → i < n → verdict_in weight list n j a b i ≡ Stays
    still_stays a b still i l = go (open_in weight list j i) refl
      where
        go : (o : Bool) → open_in weight list j i ≡ o → verdict_in weight list n j a b i ≡ Stays
        go false e = closed_stays a b i e
        go true e =
            let r = stands_open i l e in
            let f = still r.0 i set_apart r.1 r.2 in
            rw (e, le-ltb b (at weight i) f.0, f.1, f.2)

    -- where their sums are calm
    pub calm_says : (s a b : ℕ) → Calm (upto (at weight) set) (length set) s b → 0 < s → b + 1 ≡ a + s
        → (fires (at weight) set a b ≡ false) × ((i : ℕ) → i < n → verdict_in weight list n j a b i ≡ Stays)
    calm_says s a b calm some wide =
        let still = calm_still (at weight) set s a b set_up calm some wide in
        (still.0, still_stays a b still.1)

    -- where they are quiet
    pub quiet_says : (a b : ℕ) → Quiet (upto (at weight) set) (length set) a b → a ≤ b → (i : ℕ) → i < n → verdict_in weight list n j a b i ≡ Stays
    quiet_says a b quiet range = still_stays a b (quiet_still (at weight) set a b set_up quiet range)

    -- where no open course is heavier than what the term still takes, nor than the range is wide
    pub light_calm : (top s b : ℕ) → ((i : ℕ) → i < n → open_in weight list j i ≡ true → at weight i ≤ top) → top ≤ s → top ≤ b
        → Calm (upto (at weight) set) (length set) s b
    light_calm top s b light l m t h =
        let x = light (at set t) (member t h).0 (member t h).1 in
        (omega (arith, upto_more (at weight) set t h), omega (arith, upto_more (at weight) set t h))

    -- ---- the open courses gathered

    pub gathers_by : (order : List ℕ) → order ≡ o → {count : ℕ} {u p : List ℕ} → Gathers (at weight) (opened weight list order n j) count u p → Gathers (at weight) set count u p
    gathers_by order is {count} {u} {p} g = subst (λ x. Gathers (at weight) (opened weight list x n j) count u p) is g

    module _ {count : ℕ} {u p : List ℕ} (g : Gathers (at weight) set count u p) where
      weighed : Weighed (at weight) set u
      weighed = record { few = set_few; long = g.upto_long; sums = g.sums; up = set_up; small = set_small }

      pub count_few : count ≤ 64
      count_few = omega (arith, g.counted, set_few)

      pub gathered_calm : (s b : ℕ) → Calm (at u) count s b → Calm (upto (at weight) set) (length set) s b
      gathered_calm s b calm t l =
          let now : at u t ≡ upto (at weight) set t = g.sums t (omega arith) in
          let next : at u (t + 1) ≡ upto (at weight) set (t + 1) = g.sums (t + 1) (omega arith) in
          let last : at u (t - 1) ≡ upto (at weight) set (t - 1) = g.sums (t - 1) (omega arith) in
          let c = calm t (omega (arith, g.counted)) in
          (omega (arith, c), omega (arith, c))

      pub gathered_quiet : (a b : ℕ) → Quiet (at u) count a b → Quiet (upto (at weight) set) (length set) a b
      gathered_quiet a b quiet = quiet_same (length set) (at u) (upto (at weight) set) g.sums a b (subst (λ k. Quiet (at u) k a b) g.counted quiet)

      pub summed : Summed count u
      summed = record {
        few = count_few;
        rising = subst (λ k. Rising k (at u)) (sym g.counted) (rising_same (length set) (upto (at weight) set) (at u) (λ t l. sym (g.sums t l)) (rising_of (at weight) 0 set set_up));
        small = omega (arith, ap (at u) g.counted, g.sums (length set) (omega arith), set_small);
      }

      pub all_lent : Lent u count count 0
      all_lent = subst (λ k. Lent u k k 0) (sym g.counted) (lent_all (at weight) set u weighed)

      pub all_fires : (a b : ℕ) → fires_by (left_out u count 0) count a b ≡ fires (at weight) set a b
      all_fires a b = ap (λ k. fires_by (left_out u k 0) k a b) g.counted ∙ fires_all (at weight) set u weighed a b

      -- an open course, by its place
      module _ (i : ℕ) (l : i < n) (e : open_in weight list j i ≡ true) where
        abbrev r : ℕ
        r = (stands_open i l e).0

        within : r < length set
        within = (stands_open i l e).1

        is : get_or set r 0 ≡ i
        is = (stands_open i l e).2

        place_is : at p i ≡ r
        place_is = ap (at p) (sym is) ∙ g.places r within

        pub place_few : at p i < 64
        place_few = omega (arith, place_is, within, set_few)

        pub some_open : 0 < count
        some_open = omega (arith, g.counted, within)

        pub rest_lent : Lent u (count - 1) (at p i) (at weight i)
        rest_lent = rw (g.counted, place_is) (lent_rest (at weight) set u weighed r i set_apart within is)

        rest_fires : (a b : ℕ) → fires_by (left_out u (at p i) (at weight i)) (count - 1) a b ≡ fires (at weight) (rest_in weight list n j i) a b
        rest_fires a b =
            ap₂ (λ k q. fires_by (left_out u q (at weight i)) (k - 1) a b) g.counted place_is
            ∙ fires_rest (at weight) set u weighed r i set_apart within is a b

        pub verdict_is : (a b : ℕ) → verdict_by u count (at p i) (at weight i) a b ≡ verdict_in weight list n j a b i
        verdict_is a b = rw (e, rest_fires (a - at weight i) (b - at weight i), rest_fires a b)
