-- What gathering the open courses of a term goes by: one place of the order more, and sums that rise.
use Prim.Native.Nat.{ℕ, zero, suc, ◌+◌, ◌-◌, ◌*◌, ◌≤◌, ◌<◌}
use mathlib.Core.Bool.{Bool, true, false}
use mathlib.Core.List.{List, [], ◌∷◌, ◌++◌, append-nil}
use mathlib.Core.Path.{◌≡◌, refl, sym, ap, ap₂, ◌∙◌, subst}
use native.Mathlib.Numerals.{add-one}
use native.Mathlib.Decide.{ℕ_discrete, dec_lt}
use native.Mathlib.Omega.{arith}
use lib.ListN.{length, get_or, take, set, length-set, length-append, get_or-append}
use lib.Seq.{get_or-set_same, get_or-set_other, get_or-take, get_or-append_seam, take-suc, take-length, take-append-le, length-take-le}
use Rattle.std.specs.Int.{from_bool}
use Rattle.theory.specs.Choice.{choose}
use Rattle.theory.specs.Order.{keep}
use Rattle.theory.specs.Sum.{weigh}
use Rattle.neighbours.specs.Lightest.{upto, Rising, Calm}
use Rattle.neighbours.specs.Opened.{at, open_in, opened, Ordered, Gathers}
use Rattle.neighbours.proofs.SetLaws.{weigh_append}
use Rattle.neighbours.proofs.FiresLaws.{rises}

-- ---- from the last place downwards

-- one place before those that fail
pub none_from : (test : ℕ → Bool) (order : List ℕ) (n k : ℕ) → ((t : ℕ) → k ≤ t → t < n → test (at order t) ≡ false) → test (at order (k - 1)) ≡ false
    → (t : ℕ) → k - 1 ≤ t → t < n → test (at order t) ≡ false
none_from test order n k none this t h l = go (ℕ_discrete t (k - 1))
  where
    go : Dec (t ≡ k - 1) → test (at order t) ≡ false
    go (yes e) = ap (λ x. test (at order x)) e ∙ this
    go (no d) = none t (omega (arith, d)) l

-- ---- what is kept of a list

keep_more : (test : ℕ → Bool) (L : List ℕ) (i : ℕ) → keep test (L ++ i ∷ []) ≡ keep test L ++ choose (test i) (i ∷ []) []
unfolding keep
keep_more test [] i = refl
keep_more test (g ∷ L) i = go (test g) (keep_more test L i)
  where
    go : (b : Bool) → keep test (L ++ i ∷ []) ≡ keep test L ++ choose (test i) (i ∷ []) []
        → choose b (g ∷ keep test (L ++ i ∷ [])) (keep test (L ++ i ∷ [])) ≡ choose b (g ∷ keep test L) (keep test L) ++ choose (test i) (i ∷ []) []
    go true e = ap (λ r. g ∷ r) e
    go false e = e

-- each that is kept stands in the list
pub kept_from : (test : ℕ → Bool) (L : List ℕ) (r : ℕ) → r < length (keep test L) → (s : ℕ) × (s < length L) × (get_or L s 0 ≡ get_or (keep test L) r 0)
unfolding keep
kept_from test [] r h = absurd (omega arith)
kept_from test (g ∷ L) r h = go (test g) r h (λ q l. kept_from test L q l)
  where
    go : (b : Bool) (r : ℕ) → r < length (choose b (g ∷ keep test L) (keep test L))
        → ((q : ℕ) → q < length (keep test L) → (s : ℕ) × (s < length L) × (get_or L s 0 ≡ get_or (keep test L) q 0))
        → (s : ℕ) × (s < suc (length L)) × (get_or (g ∷ L) s 0 ≡ get_or (choose b (g ∷ keep test L) (keep test L)) r 0)
    go true zero h ih = (0, omega arith, refl)
    go true (suc r) h ih = let a = ih r (omega arith) in (suc a.0, omega (arith, a.1), a.2)
    go false r h ih = let a = ih r h in (suc a.0, omega (arith, a.1), a.2)

pub keep_short : (test : ℕ → Bool) (L : List ℕ) → length (keep test L) ≤ length L
unfolding keep
keep_short test [] = omega arith
keep_short test (g ∷ L) = go (test g) (keep_short test L)
  where
    go : (b : Bool) → length (keep test L) ≤ length L → length (choose b (g ∷ keep test L) (keep test L)) ≤ suc (length L)
    go true h = omega arith
    go false h = omega arith

pub keep_light : (w : ℕ → ℕ) (test : ℕ → Bool) (L : List ℕ) → ((s : ℕ) → s < length L → w (get_or L s 0) ≤ 1000) → weigh w (keep test L) ≤ 1000 * length L
unfolding keep
keep_light w test [] h = omega arith
keep_light w test (g ∷ L) h = go (test g) (keep_light w test L (λ s l. h (suc s) (omega arith)))
  where
    go : (b : Bool) → weigh w (keep test L) ≤ 1000 * length L → weigh w (choose b (g ∷ keep test L) (keep test L)) ≤ 1000 * suc (length L)
    go true e = omega (arith, h 0 (omega arith))
    go false e = omega arith

-- ---- one place more

pub gathers_none : (w : ℕ → ℕ) (u p : List ℕ) → length u ≡ 65 → at u 0 ≡ 0 → length p ≡ 64 → Gathers w [] 0 u p
gathers_none w u p long none short = record {
  counted = refl;
  sums = λ t h. let e : t ≡ 0 = omega arith in rw e none;
  places = λ k h. absurd (omega arith);
  upto_long = long;
  place_long = short;
}

module _ (weight list order : List ℕ) (n j k : ℕ) (o : Ordered weight list order n) (l : k < n) where
  abbrev i : ℕ
  i = at order k

  abbrev before : List ℕ
  before = opened weight list order k j

  -- the course at the next place is none of those before it
  other : (r : ℕ) → r < length before → at before r ≡ i → ⊥
  other r h e =
      let a = kept_from (open_in weight list j) (take k order) r h in
      let few : a.0 < k = omega (arith, a.1, length-take-le k order (omega (arith, o.long))) in
      let is : at order a.0 ≡ i = sym (get_or-take k order a.0 0 few) ∙ a.2 ∙ e in
      omega (arith, o.apart a.0 k (omega arith) l is)

  opened_more : opened weight list order (k + 1) j ≡ before ++ choose (open_in weight list j i) (i ∷ []) []
  opened_more =
      ap (keep (open_in weight list j)) (ap (λ m. take m order) (add-one k) ∙ take-suc order k 0 (omega (arith, o.long)))
      ∙ keep_more (open_in weight list j) (take k order) i

  module _ {c : ℕ} {u p : List ℕ} (g : Gathers (at weight) before c u p) where
    pub count_few : c ≤ k
    count_few = omega (arith, g.counted, keep_short (open_in weight list j) (take k order), length-take-le k order (omega (arith, o.long)))

    pub sum_light : at u c ≤ 1000 * k
    sum_light =
        let long = length-take-le k order (omega (arith, o.long)) in
        omega (
          arith,
          g.sums c (omega (arith, g.counted)),
          ap (upto (at weight) before) g.counted,
          ap (weigh (at weight)) (take-length before),
          long,
          keep_light (at weight) (open_in weight list j) (take k order)
              (λ s h. rw (get_or-take k order s 0 (omega (arith, long))) (o.light s (omega (arith, long)))),
        )

    -- what is stored at each place
    abbrev u' : List ℕ
    u' = set u (c + 1) (at u c + at weight i)

    abbrev p' : List ℕ
    p' = set p i c

    kept_sum : (t : ℕ) → t ≤ c → at u' t ≡ upto (at weight) before t
    kept_sum t h =
        get_or-set_other u (c + 1) t (at u c + at weight i) 0 (λ e. omega arith)
        ∙ g.sums t (omega (arith, g.counted))

    kept_place : (t : ℕ) → t < length before → at p' (at before t) ≡ t
    kept_place t h = get_or-set_other p i (at before t) c 0 (other t h) ∙ g.places t h

    upto_long : length u' ≡ 65
    upto_long = length-set u (c + 1) (at u c + at weight i) ∙ g.upto_long

    place_long : length p' ≡ 64
    place_long = length-set p i c ∙ g.place_long

    -- where the course is not open
    passed : Gathers (at weight) before c u' p'
    passed = record {
      counted = g.counted;
      sums = λ t h. kept_sum t (omega (arith, g.counted));
      places = kept_place;
      upto_long = upto_long;
      place_long = place_long;
    }

    -- where it is open
    joined : Gathers (at weight) (before ++ i ∷ []) (c + 1) u' p'
    joined = record {
      counted = omega (arith, g.counted, long);
      sums = λ t h. sum t h (dec_lt c t);
      places = λ t h. place t h (dec_lt t c);
      upto_long = upto_long;
      place_long = place_long;
    }
      where
        long : length (before ++ i ∷ []) ≡ length before + 1
        long = length-append before (i ∷ [])

        all : upto (at weight) (before ++ i ∷ []) (length (before ++ i ∷ [])) ≡ upto (at weight) before (length before) + at weight i
        all =
            ap (weigh (at weight)) (take-length (before ++ i ∷ []))
            ∙ weigh_append (at weight) before (i ∷ [])
            ∙ ap₂ ◌+◌ (ap (weigh (at weight)) (sym (take-length before))) (omega arith)

        sum : (t : ℕ) → t ≤ length (before ++ i ∷ []) → Dec (c < t) → at u' t ≡ upto (at weight) (before ++ i ∷ []) t
        sum t h (yes d) =
            let last : t ≡ c + 1 = omega (arith, long, g.counted) in
            let same : c + 1 ≡ length (before ++ i ∷ []) = omega (arith, long, g.counted) in
            ap (at u') last
            ∙ get_or-set_same u (c + 1) (at u c + at weight i) 0 (omega (arith, g.upto_long, count_few, o.few))
            ∙ ap (λ x. x + at weight i) (g.sums c (omega (arith, g.counted)) ∙ ap (upto (at weight) before) g.counted)
            ∙ sym all
            ∙ ap (upto (at weight) (before ++ i ∷ [])) (sym same ∙ sym last)
        sum t h (no d) =
            kept_sum t (omega (arith, d))
            ∙ ap (weigh (at weight)) (sym (take-append-le t before (i ∷ []) (omega (arith, d, g.counted))))

        place : (t : ℕ) → t < length (before ++ i ∷ []) → Dec (t < c) → at p' (at (before ++ i ∷ []) t) ≡ t
        place t h (yes d) =
            ap (at p') (get_or-append before (i ∷ []) 0 t (omega (arith, g.counted)))
            ∙ kept_place t (omega (arith, g.counted))
        place t h (no d) =
            let last : t ≡ length before = omega (arith, long, d, g.counted) in
            ap (λ x. at p' (at (before ++ i ∷ []) x)) last
            ∙ ap (at p') (get_or-append_seam before i [] 0)
            ∙ get_or-set_same p i c 0 (omega (arith, g.place_long, o.numbered k l))
            ∙ g.counted
            ∙ sym last

    -- m is 1 where the course is open, and 0 where it is not
    pub gathers_more : (is : Bool) → is ≡ open_in weight list j i → (m : ℕ) → m ≡ from_bool is → Gathers (at weight) (opened weight list order (k + 1) j) (c + m) u' p'
    gathers_more true e m one =
        let is : opened weight list order (k + 1) j ≡ before ++ i ∷ [] = opened_more ∙ ap (λ b. before ++ choose b (i ∷ []) []) (sym e) in
        subst (λ x. Gathers (at weight) x (c + m) u' p') (sym is) (subst (λ x. Gathers (at weight) (before ++ i ∷ []) (c + x) u' p') (sym one) joined)
    gathers_more false e m none =
        let is : opened weight list order (k + 1) j ≡ before = opened_more ∙ ap (λ b. before ++ choose b (i ∷ []) []) (sym e) ∙ append-nil before in
        let same : c + m ≡ c = omega (arith, none) in
        subst (λ x. Gathers (at weight) x (c + m) u' p') (sym is) (subst (λ x. Gathers (at weight) before x u' p') (sym same) passed)

-- ---- sums that rise

-- the first, and one more, that does not exceed what all before it weigh but the heaviest of those by more than s
pub first : (q : ℕ → ℕ) (k : ℕ) {s : ℕ} → k ≡ 0 → q 1 ≤ s → q (k + 1) ≤ s + q (k - 1) + q k
first q k e h = omega (arith, ap (λ x. q (x + 1)) e)

pub flat_more : (q : ℕ → ℕ) (s t : ℕ) → ((k : ℕ) → k < t → q (k + 1) ≤ s + q (k - 1) + q k) → q (t + 1) ≤ s + q (t - 1) + q t
    → (k : ℕ) → k < t + 1 → q (k + 1) ≤ s + q (k - 1) + q k
flat_more q s t flat this k l = go (ℕ_discrete k t)
  where
    go : Dec (k ≡ t) → q (k + 1) ≤ s + q (k - 1) + q k
    go (yes e) = rw e this
    go (no d) = flat k (omega (arith, d))

module _ (n : ℕ) (q : ℕ → ℕ) (rising : Rising n q) (s b : ℕ) where
  -- the heaviest, which is the last, is no more than b
  pub calm_of : 0 < n → q n ≤ b + q (n - 1) → ((t : ℕ) → t < n → q (t + 1) ≤ s + q (t - 1) + q t) → Calm q n s b
  calm_of some top flat t l = (omega (arith, top, rising.heavier t (n - 1) (omega arith) (omega arith), ap q (whole n some)), flat t l)
    where
      whole : (n : ℕ) → 0 < n → n - 1 + 1 ≡ n
      whole n l = omega arith

  -- from a place on where the heaviest is no more than s and what all before the last weigh, nothing is
  pub calm_from : (t : ℕ) → 0 < t → t < n → q n ≤ s + q (t - 1) + q (n - 1) → ((k : ℕ) → k < t → q (k + 1) ≤ s + q (k - 1) + q k)
      → (k : ℕ) → k < n → q (k + 1) ≤ s + q (k - 1) + q k
  calm_from t some l top flat k m = go (dec_lt k t)
    where
      whole : (n : ℕ) → 0 < n → n - 1 + 1 ≡ n
      whole n l = omega arith

      go : Dec (k < t) → q (k + 1) ≤ s + q (k - 1) + q k
      go (yes d) = flat k d
      go (no d) =
          omega (
            arith,
            rising.heavier k (n - 1) (omega arith) (omega arith),
            ap q (whole n (omega arith)),
            rises rising (t - 1) (k - 1) (omega (arith, d)) (omega arith),
          )
