-- Rule 12 on a set by what its lightest weigh: with one of the set left out, as the code reads it out of an array, and where
-- nothing of it can fire.
use Prim.Native.Nat.{ℕ, zero, suc, ◌+◌, ◌-◌, ◌≤◌, ◌<◌}
use mathlib.Core.Bool.{Bool, true, false, not, ◌&&◌}
use mathlib.Core.List.{List, [], ◌∷◌, ◌++◌}
use mathlib.Core.Logic.{inr}
use mathlib.Core.Path.{◌≡◌, refl, sym, ap, ap₂, ◌∙◌, subst}
use native.Mathlib.Numerals.{add-one}
use native.Mathlib.Decide.{dec_lt}
use native.Mathlib.Omega.{arith}
use lib.Dec.{eqb, leb, ltb}
use lib.ListN.{length, get_or, take, drop, length-append, length-drop, take-append-drop}
use lib.Seq.{take-length, take-suc, take-add, take-take, take-append-le, take-append-add, length-take-le}
use borrow.Author.Tests.{le-leb, lt-leb, eq-eqb, ne_eqb}
use Rattle.theory.specs.Choice.{choose}
use Rattle.theory.specs.Order.{keep}
use Rattle.theory.specs.Sum.{weigh}
use Rattle.theory.specs.Tests.{any}
use Rattle.theory.specs.Neighbours.{neighbours, fires}
use Rattle.theory.proofs.TestLaws.{same_tests, any_true, any_of, any_none, any_same}
use Rattle.theory.proofs.NeighbourLaws.{up_keep}
use Rattle.theory.proofs.WalkLaws.{Up}
use Rattle.neighbours.specs.Lightest.{upto, Rising, neighbours_by, fires_by, left_out, Lent, Calm, NoneReach, Quiet}
use Rattle.neighbours.proofs.FiresLaws.{fails, rises, parts, gap, no_gap, none_below_0}

-- ---- what the lightest weigh

pub weigh_append : (w : ℕ → ℕ) (xs ys : List ℕ) → weigh w (xs ++ ys) ≡ weigh w xs + weigh w ys
weigh_append w [] ys = omega arith
weigh_append w (g ∷ xs) ys = omega (arith, weigh_append w xs ys)

-- the s lightest, and t more
upto_add : (w : ℕ → ℕ) (set : List ℕ) (s t : ℕ) → upto w set (s + t) ≡ upto w set s + weigh w (take t (drop s set))
upto_add w set s t = ap (weigh w) (take-add s t set) ∙ weigh_append w (take s set) (take t (drop s set))

pub upto_more : (w : ℕ → ℕ) (set : List ℕ) (t : ℕ) → t < length set → upto w set (t + 1) ≡ upto w set t + w (get_or set t 0)
upto_more w set t h =
    let e : upto w set (suc t) ≡ upto w set t + (w (get_or set t 0) + 0) = ap (weigh w) (take-suc set t 0 h) ∙ weigh_append w (take t set) (get_or set t 0 ∷ []) in
    rw add-one (omega arith)

upto_all : (w : ℕ → ℕ) (set : List ℕ) → upto w set (length set) ≡ weigh w set
upto_all w set = ap (weigh w) (take-length set)

-- ---- the definition by that

any_swap : (n : ℕ) (f : ℕ → ℕ → Bool) → any n (λ k. any n (f k)) ≡ true → any n (λ l. any n (λ k. f k l)) ≡ true
any_swap n f e =
    let a = any_true n (λ k. any n (f k)) e in
    let b = any_true n (f a.0) a.2 in
    any_of n (λ l. any n (λ k. f k l)) b.0 b.1 (any_of n (λ k. f k b.0) a.0 a.1 b.2)

neighbours_by_lem : (w : ℕ → ℕ) (set : List ℕ) (a b k k' : ℕ) → neighbours w set a b k k' ≡ neighbours_by (upto w set) (length set) a b k' k
unfolding neighbours
neighbours_by_lem w set a b k k' =
    let n = length set in
    let q = upto w set in
    let split : weigh w (take (n - k) set) + weigh w (drop (n - k) set) ≡ weigh w set = sym (weigh_append w (take (n - k) set) (drop (n - k) set)) ∙ ap (weigh w) (take-append-drop (n - k) set) in
    let heaviest : weigh w (drop (n - k) set) ≡ q n - q (n - k) = omega (arith, upto_all w set) in
    let outside : weigh w (take (k + 1) (drop k' set)) ≡ q (k' + (k + 1)) - q k' = omega (arith, upto_add w set k' (k + 1)) in
    ap₂ (λ x y. leb (k + k' + 1) n && ltb (x + q k') a && ltb b y) heaviest outside

pub fires_by_lem : (w : ℕ → ℕ) (set : List ℕ) (a b : ℕ) → fires w set a b ≡ fires_by (upto w set) (length set) a b
unfolding fires fires_by
fires_by_lem w set a b =
    let n = length set in
    let q = upto w set in
    any_same n (λ k. any n (λ k'. neighbours w set a b k k')) (λ k. any n (λ k'. neighbours_by q n a b k' k))
    (λ k l. any_same n (λ k'. neighbours w set a b k k') (λ k'. neighbours_by q n a b k' k) (λ k' m. neighbours_by_lem w set a b k k'))
    ∙ same_tests (any n (λ k. any n (λ k'. neighbours_by q n a b k' k))) (any n (λ k'. any n (neighbours_by q n a b k')))
    (any_swap n (λ k k'. neighbours_by q n a b k' k))
    (any_swap n (neighbours_by q n a b))

-- ---- weights that rise

up_least : (w : ℕ → ℕ) (U : ℕ) (set : List ℕ) → Up w U set → (t : ℕ) → t < length set → U ≤ w (get_or set t 0)
up_least w U [] h t l = absurd (omega arith)
up_least w U (g ∷ set) h zero l = h.0
up_least w U (g ∷ set) h (suc t) l = omega (arith, h.0, up_least w (w g) set h.1 t (omega arith))

up_at : (w : ℕ → ℕ) (U : ℕ) (set : List ℕ) → Up w U set → (s t : ℕ) → s ≤ t → t < length set → w (get_or set s 0) ≤ w (get_or set t 0)
up_at w U [] h s t k l = absurd (omega arith)
up_at w U (g ∷ set) h zero zero k l = omega arith
up_at w U (g ∷ set) h zero (suc t) k l = up_least w (w g) set h.1 t (omega arith)
up_at w U (g ∷ set) h (suc s) zero k l = absurd (omega arith)
up_at w U (g ∷ set) h (suc s) (suc t) k l = up_at w (w g) set h.1 s t (omega arith) (omega arith)

pub rising_of : (w : ℕ → ℕ) (U : ℕ) (set : List ℕ) → Up w U set → Rising (length set) (upto w set)
rising_of w U set h = record {
  none = refl;
  grows = λ t l. omega (arith, upto_more w set t l);
  heavier = λ s t k l. omega (arith, upto_more w set s (omega arith), upto_more w set t l, up_at w U set h s t k l);
}

-- ---- all but one of a set

-- no member stands in a set twice
abbrev pub Apart : List ℕ → Type 0
Apart set = (r q : ℕ) → r < length set → q < length set → get_or set r 0 ≡ get_or set q 0 → r ≡ q

-- a set without i
abbrev pub rest : ℕ → List ℕ → List ℕ
rest i set = keep (λ k. not (eqb k i)) set

keep_all : (test : ℕ → Bool) (L : List ℕ) → ((t : ℕ) → t < length L → test (get_or L t 0) ≡ true) → keep test L ≡ L
unfolding keep
keep_all test [] h = refl
keep_all test (g ∷ L) h = rw (h 0 (omega arith)) (ap (λ r. g ∷ r) (keep_all test L (λ t l. h (suc t) (omega arith))))

rest_is : (set : List ℕ) (r : ℕ) → Apart set → r < length set → rest (get_or set r 0) set ≡ take r set ++ drop (suc r) set
unfolding keep
rest_is [] r apart l = absurd (omega arith)
rest_is (g ∷ L) zero apart l =
    rw (eq-eqb g g refl)
    (keep_all (λ k. not (eqb k g)) L (λ t m. ap not (ne_eqb (get_or L t 0) g (λ e. absurd (omega (arith, apart (suc t) 0 (omega arith) (omega arith) e))))))
rest_is (g ∷ L) (suc r) apart l =
    rw (ne_eqb g (get_or L r 0) (λ e. absurd (omega (arith, apart 0 (suc r) (omega arith) (omega arith) e))))
    (ap (λ x. g ∷ x) (rest_is L r (λ s q k m e. omega (arith, apart (suc s) (suc q) (omega arith) (omega arith) e)) (omega arith)))

module _ (w : ℕ → ℕ) (set : List ℕ) (r i : ℕ) (apart : Apart set) (l : r < length set) (e : get_or set r 0 ≡ i) where
  rest_cut : rest i set ≡ take r set ++ drop (suc r) set
  rest_cut = ap (λ k. rest k set) (sym e) ∙ rest_is set r apart l

  front_long : length (take r set) ≡ r
  front_long = length-take-le r set (omega arith)

  pub rest_length : length (rest i set) + 1 ≡ length set
  rest_length =
      omega (arith, ap length rest_cut, length-append (take r set) (drop (suc r) set), front_long, length-drop (suc r) set)

  rest_front : (t : ℕ) → t ≤ r → upto w (rest i set) t ≡ upto w set t
  rest_front t h =
      ap (λ L. upto w L t) rest_cut
      ∙ ap (weigh w) (take-append-le t (take r set) (drop (suc r) set) (omega (arith, front_long)) ∙ take-take t r set h)

  -- the t lightest of the rest are, with i, the t + 1 lightest of all
  rest_behind : (t : ℕ) → r ≤ t → upto w (rest i set) t + w i ≡ upto w set (t + 1)
  rest_behind t h =
      let front = take r set in
      let behind = drop (suc r) set in
      let far : t ≡ length front + (t - r) = omega (arith, front_long) in
      let parts : upto w (rest i set) t ≡ weigh w front + weigh w (take (t - r) behind) =
      ap (λ L. upto w L t) rest_cut
      ∙ ap (upto w (front ++ behind)) far
      ∙ ap (weigh w) (take-append-add front behind (t - r))
      ∙ weigh_append w front (take (t - r) behind) in
      omega (
        arith,
        ap w e,
        upto_more w set r l,
        ap (upto w set) (add-one r),
        upto_add w set (suc r) (t - r),
        ap (upto w set) (later t h),
      )
    where
      later : (t : ℕ) → r ≤ t → t + 1 ≡ suc r + (t - r)
      later t h = omega arith

  pub rest_upto : (t : ℕ) → upto w (rest i set) t ≡ choose (leb t r) (upto w set t) (upto w set (t + 1) - w i)
  rest_upto t = go (dec_lt r t)
    where
      go : Dec (r < t) → upto w (rest i set) t ≡ choose (leb t r) (upto w set t) (upto w set (t + 1) - w i)
      go (yes d) = rw (lt-leb t r d) (omega (arith, rest_behind t (omega arith)))
      go (no d) = rw (le-leb t r (omega (arith, d))) (rest_front t (omega (arith, d)))

-- ---- out of an array

fires_same : (n : ℕ) (q p : ℕ → ℕ) → ((t : ℕ) → t ≤ n → q t ≡ p t) → (a b : ℕ) → fires_by q n a b ≡ fires_by p n a b
unfolding fires_by
fires_same n q p h a b =
    any_same n (λ k'. any n (neighbours_by q n a b k')) (λ k'. any n (neighbours_by p n a b k'))
    (λ k' l. any_same n (neighbours_by q n a b k') (neighbours_by p n a b k') (λ k m. go k k' (dec_lt n (k + k' + 1))))
  where
    go : (k k' : ℕ) → Dec (n < k + k' + 1) → neighbours_by q n a b k' k ≡ neighbours_by p n a b k' k
    go k k' (yes d) = rw (lt-leb (k + k' + 1) n d)
    go k k' (no d) =
        let e = h (n - k) (omega arith) in
        let f = h k' (omega (arith, d)) in
        let g = h (k' + (k + 1)) (omega (arith, d)) in
        λ j. leb (k + k' + 1) n && ltb (h n (omega arith) j - e j + f j) a && ltb b (g j - f j)

pub rising_same : (n : ℕ) (q p : ℕ → ℕ) → ((t : ℕ) → t ≤ n → q t ≡ p t) → Rising n q → Rising n p
rising_same n q p h r = record {
  none = sym (h 0 (omega arith)) ∙ r.none;
  grows = λ t l. omega (arith, r.grows t l, h t (omega arith), h (t + 1) (omega arith));
  heavier = λ s t k l. omega (arith, r.heavier s t k l, h s (omega arith), h t (omega arith), h (s + 1) (omega arith), h (t + 1) (omega arith));
}

-- the array u has what the lightest of a set weigh
pub record Weighed (w : ℕ → ℕ) (set u : List ℕ) : Type 0 where
  pub few : length set ≤ 64
  pub long : length u ≡ 65
  pub sums : (t : ℕ) → t ≤ length set → get_or u t 0 ≡ upto w set t
  pub up : Up w 0 set
  pub small : upto w set (length set) ≤ 64000

module _ (w : ℕ → ℕ) (set u : List ℕ) (h : Weighed w set u) where
  abbrev n : ℕ
  n = length set

  abbrev q : ℕ → ℕ
  q = upto w set

  all_read : (t : ℕ) → t ≤ n → q t ≡ left_out u n 0 t
  all_read t l = rw (le-leb t n l) (sym (h.sums t l))

  pub lent_all : Lent u n n 0
  lent_all = record {
    long = omega (arith, h.few, h.long);
    longer = λ l. absurd (omega arith);
    covers = λ t k l. omega arith;
    rising = rising_same n q (left_out u n 0) all_read (rising_of w 0 set h.up);
    small = omega (arith, all_read n (omega arith), h.small);
  }

  pub fires_all : (a b : ℕ) → fires_by (left_out u n 0) n a b ≡ fires w set a b
  fires_all a b = sym (fires_by_lem w set a b ∙ fires_same n q (left_out u n 0) all_read a b)

  module _ (r i : ℕ) (apart : Apart set) (l : r < length set) (e : get_or set r 0 ≡ i) where
    abbrev q' : ℕ → ℕ
    q' = upto w (rest i set)

    less : length (rest i set) ≡ n - 1
    less = omega (arith, rest_length w set r i apart l e)

    rest_read : (t : ℕ) → t ≤ n - 1 → q' t ≡ left_out u r (w i) t
    rest_read t k =
        rest_upto w set r i apart l e t
        ∙ ap₂ (λ x y. choose (leb t r) x (y - w i)) (sym (h.sums t (omega arith))) (sym (h.sums (t + 1) (omega arith)))

    pub lent_rest : Lent u (n - 1) r (w i)
    lent_rest = record {
      long = omega (arith, h.few, h.long);
      longer = λ k. omega (arith, h.few, h.long);
      covers = λ t k m. omega (arith, h.sums (t + 1) (omega arith), rest_behind w set r i apart l e t (omega arith));
      rising = rising_same (n - 1) q' (left_out u r (w i)) rest_read (subst (λ k. Rising k q') less (rising_of w 0 (rest i set) (up_keep w (λ k. not (eqb k i)) set 0 h.up)));
      small = omega (arith, rest_read (n - 1) (omega arith), rest_behind w set r i apart l e (n - 1) (omega arith), ap q (whole n (omega arith)), h.small);
    }
      where
        whole : (n : ℕ) → 0 < n → n - 1 + 1 ≡ n
        whole n k = omega arith

    pub fires_rest : (a b : ℕ) → fires_by (left_out u r (w i)) (n - 1) a b ≡ fires w (rest i set) a b
    fires_rest a b =
        sym (fires_by_lem w (rest i set) a b ∙ ap (λ k. fires_by q' k a b) less ∙ fires_same (n - 1) q' (left_out u r (w i)) rest_read a b)

-- ---- where nothing fires

-- nothing exceeds what all before it weigh by more than s, which is how wide the range is
still : (n s a b : ℕ) (q : ℕ → ℕ) → Rising n q → ((t : ℕ) → t < n → q (t + 1) ≤ s + q t + q t) → 0 < s → b + 1 ≡ a + s → fires_by q n a b ≡ false
unfolding fires_by
still n s a b q h flat some wide = any_none n (λ k'. any n (neighbours_by q n a b k')) (λ k' l. no_gap h a b k' (omega arith) (omega (arith, flat k' l)))

module _ (w : ℕ → ℕ) (set : List ℕ) (s a b : ℕ) (up : Up w 0 set) (calm : Calm (upto w set) (length set) s b)
    (some : 0 < s) (wide : b + 1 ≡ a + s) where
  calm_all : fires w set a b ≡ false
  calm_all =
      fires_by_lem w set a b
      ∙ still (length set) s a b (upto w set) (rising_of w 0 set up)
      (λ t l. omega (arith, (calm t l).1, rises (rising_of w 0 set up) (t - 1) t (omega arith) (omega arith)))
      some wide

  module _ (r i : ℕ) (apart : Apart set) (l : r < length set) (e : get_or set r 0 ≡ i) where
    calm_light : w i ≤ b
    calm_light = omega (arith, (calm r l).0, upto_more w set r l, ap w e)

    -- the one left out weighs no more than any behind it
    calm_rest : (t : ℕ) → t < length (rest i set) → upto w (rest i set) (t + 1) ≤ s + upto w (rest i set) t + upto w (rest i set) t
    calm_rest t k = go (dec_lt t r)
      where
        next : (t : ℕ) → t + 1 - 1 ≡ t
        next t = omega arith

        go : Dec (t < r) → upto w (rest i set) (t + 1) ≤ s + upto w (rest i set) t + upto w (rest i set) t
        go (yes d) =
            omega (
              arith,
              rest_front w set r i apart l e t (omega arith),
              rest_front w set r i apart l e (t + 1) (omega arith),
              (calm t (omega arith)).1,
              rises (rising_of w 0 set up) (t - 1) t (omega arith) (omega arith),
            )
        go (no d) =
            omega (
              arith,
              rest_behind w set r i apart l e t (omega (arith, d)),
              rest_behind w set r i apart l e (t + 1) (omega (arith, d)),
              (calm (t + 1) (omega (arith, rest_length w set r i apart l e))).1,
              ap (upto w set) (next t),
              upto_more w set t (omega (arith, rest_length w set r i apart l e)),
              up_at w 0 set up r t (omega (arith, d)) (omega (arith, rest_length w set r i apart l e)),
              ap w e,
            )

    calm_fires : (a b : ℕ) → b + 1 ≡ a + s → fires w (rest i set) a b ≡ false
    calm_fires a b wide =
        fires_by_lem w (rest i set) a b
        ∙ still (length (rest i set)) s a b (upto w (rest i set)) (rising_of w 0 (rest i set) (up_keep w (λ k. not (eqb k i)) set 0 up)) calm_rest some wide

    calm_less : fires w (rest i set) (a - w i) (b - w i) ≡ false
    calm_less = go (dec_lt (w i) a)
      where
        go : Dec (w i < a) → fires w (rest i set) (a - w i) (b - w i) ≡ false
        go (yes d) = calm_fires (a - w i) (b - w i) (omega (arith, calm_light))
        go (no d) =
            let none : a - w i ≡ 0 = omega (arith, d) in
            fires_by_lem w (rest i set) (a - w i) (b - w i)
            ∙ ap (λ x. fires_by (upto w (rest i set)) (length (rest i set)) x (b - w i)) none
            ∙ none_below_0 (length (rest i set)) (upto w (rest i set)) 0 (b - w i) (inr refl)

  -- rule 12 says nothing of a term, nor of any course in it
  pub calm_still : (fires w set a b ≡ false)
      × ((r i : ℕ) → Apart set → r < length set → get_or set r 0 ≡ i
      → (w i ≤ b) × (fires w (rest i set) (a - w i) (b - w i) ≡ false) × (fires w (rest i set) a b ≡ false))
  calm_still = (calm_all, λ r i apart l e. (calm_light r i apart l e, calm_less r i apart l e, calm_fires r i apart l e a b wide))

-- ---- where no one left out shows anything

none_reach_same : (n : ℕ) (q p : ℕ → ℕ) → ((t : ℕ) → t ≤ n → q t ≡ p t) → (m s k l d e a b : ℕ) → m ≤ n → k ≡ l → d ≡ e
    → NoneReach q n m s k d a b → NoneReach p n m s l e a b
none_reach_same n q p h m s k l d e a b few same_low same-high none i within light heavy =
    none i within
    (omega (arith, h m few, h (m - i) (omega arith)))
    (omega (arith, h s (omega arith), h (s + (i + 1)) (omega arith)))

pub quiet_same : (n : ℕ) (q p : ℕ → ℕ) → ((t : ℕ) → t ≤ n → q t ≡ p t) → (a b : ℕ) → Quiet q n a b → Quiet p n a b
quiet_same n q p h a b quiet = record {
  light = omega (arith, quiet.light, h n (omega arith), h (n - 1) (omega arith));
  each = λ k' l low near.
      let all = h n (omega arith) in
      let but-one = h (n - 1) (omega arith) in
      let now = h k' (omega arith) in
      let next = h (k' + 1) (omega arith) in
      let top : q n - q (n - 1) ≡ p n - p (n - 1) = omega (arith, all, but-one) in
      let at-it = quiet.each k' l (omega (arith, now)) (omega (arith, now, top)) in (
        none_reach_same n q p h n k' (q (k' + 1)) (p (k' + 1)) (q n - q (n - 1)) (p n - p (n - 1)) a b (omega arith) next top at-it.0,
        none_reach_same n q p h (n - 1) (k' + 1) (q k') (p k') 0 0 a b (omega arith) now refl at-it.1,
      );
}

-- p is what the lightest of m weigh, and q with one more of weight x, at place r
module _ (m r x : ℕ) (q p : ℕ → ℕ) (up : Rising (m + 1) q) (up_rest : Rising m p) (l : r < m + 1) (one : q (r + 1) ≡ q r + x)
    (front : (t : ℕ) → t ≤ r → p t ≡ q t) (behind : (t : ℕ) → r ≤ t → p t + x ≡ q (t + 1)) where
  -- from place s to place t the rest are no lighter than all
  no_lighter : (s t : ℕ) → s ≤ t → t ≤ m → q t + p s ≤ p t + q s
  no_lighter s t k h = go (dec_lt s r) (dec_lt t r)
    where
      go : Dec (s < r) → Dec (t < r) → q t + p s ≤ p t + q s
      go (yes c) (yes d) = omega (arith, front s (omega arith), front t (omega arith))
      go (yes c) (no d) = omega (arith, front s (omega arith), behind t (omega (arith, d)), one, up.heavier r t (omega (arith, d)) (omega arith))
      go (no c) d = omega (arith, behind s (omega (arith, c)), behind t (omega (arith, c)), up.heavier s t k (omega arith))

  -- nor heavier than all a place further up
  no_heavier : (s t : ℕ) → s ≤ t → t ≤ m → p t + q (s + 1) ≤ q (t + 1) + p s
  no_heavier s t k h = go (dec_lt s r) (dec_lt t r)
    where
      go : Dec (s < r) → Dec (t < r) → p t + q (s + 1) ≤ q (t + 1) + p s
      go (yes c) (yes d) = omega (arith, front s (omega arith), front t (omega arith), up.heavier s t k (omega arith))
      go (yes c) (no d) = omega (arith, front s (omega arith), behind t (omega (arith, d)), one, up.heavier s r (omega arith) l)
      go (no c) d = omega (arith, behind s (omega (arith, c)), behind t (omega (arith, c)))

  -- so too the lightest
  lightest_left : (t : ℕ) → t ≤ m → q t ≤ p t
  lightest_left t h = omega (arith, no_lighter 0 t (omega arith) h, up.none, up_rest.none)

  -- and none of the rest weighs more than the heaviest of all
  one_left : (t : ℕ) → t < m → p (t + 1) + q m ≤ q (m + 1) + p t
  one_left t h =
      omega (arith, no_heavier t (t + 1) (omega arith) (omega arith), up.heavier (t + 1) m (omega arith) (omega arith))

  module _ (a b : ℕ) (range : a ≤ b) (quiet : Quiet q (m + 1) a b) where
    last : m + 1 - 1 ≡ m
    last = omega arith

    quiet_light : x ≤ b
    quiet_light = omega (arith, quiet.light, ap q last, one, up.heavier r m (omega arith) (omega arith))

    -- with the range as it is
    quiet_fixed : (k' k : ℕ) → neighbours_by p m a b k' k ≡ true → ⊥
    quiet_fixed k' k e =
        let f = parts m p a b k' k e in
        let low = lightest_left k' (omega (arith, f.0)) in
        let near = one_left k' (omega (arith, f.0)) in
        let heaviest = no_lighter (m - k) m (omega arith) (omega arith) in
        let outside = no_heavier k' (k' + (k + 1)) (omega arith) (omega (arith, f.0)) in
        let but-k : m + 1 - 1 - k ≡ m - k = omega arith in
        let later : k' + 1 + (k + 1) ≡ k' + (k + 1) + 1 = omega arith in
        (quiet.each k' (omega (arith, f.0)) (omega (arith, f.1)) (omega (arith, gap up_rest a b k' k e, ap q last))).1 k (omega (arith, f.0))
        (omega (arith, f.1, ap q last, ap q but-k))
        (omega (arith, f.2, ap q later))

    -- and with the weight less
    quiet_struck : (k' k : ℕ) → neighbours_by p m (a - x) (b - x) k' k ≡ true → ⊥
    quiet_struck k' k e =
        let f = parts m p (a - x) (b - x) k' k e in
        let less : x < a = omega (arith, f.1) in
        let low = lightest_left k' (omega (arith, f.0)) in
        let near = one_left k' (omega (arith, f.0)) in
        let heaviest = no_heavier k' (m - k) (omega (arith, f.0)) (omega arith) in
        let outside = no_lighter (k' + (k + 1)) m (omega (arith, f.0)) (omega arith) in
        let but-k : m - k + 1 ≡ m + 1 - k = omega arith in
        (quiet.each k' (omega (arith, f.0)) (omega (arith, f.1)) (omega (arith, gap up_rest (a - x) (b - x) k' k e, ap q last))).0 k (omega (arith, f.0))
        (omega (arith, f.1, behind m (omega arith), ap q but-k, rises up (m + 1 - k) (m + 1) (omega arith) (omega arith)))
        (omega (arith, f.2, behind m (omega arith), ap q last, quiet_light))

none_fire : (n : ℕ) (q : ℕ → ℕ) (a b : ℕ) → ((k' k : ℕ) → neighbours_by q n a b k' k ≡ true → ⊥) → fires_by q n a b ≡ false
unfolding fires_by
none_fire n q a b h =
    any_none n (λ k'. any n (neighbours_by q n a b k'))
    (λ k' l. any_none n (neighbours_by q n a b k') (λ k o. fails (neighbours_by q n a b k' k) (h k' k)))

-- rule 12 says nothing of any course in a term
pub quiet_still : (w : ℕ → ℕ) (set : List ℕ) (a b : ℕ) (up : Up w 0 set) (quiet : Quiet (upto w set) (length set) a b) (range : a ≤ b)
    → (r i : ℕ) → Apart set → r < length set → get_or set r 0 ≡ i
    → (w i ≤ b) × (fires w (rest i set) (a - w i) (b - w i) ≡ false) × (fires w (rest i set) a b ≡ false)
quiet_still w set a b up quiet range r i apart l e =
    let m = length (rest i set) in
    let q = upto w set in
    let p = upto w (rest i set) in
    let long : length set ≡ m + 1 = sym (rest_length w set r i apart l e) in
    let rising : Rising (m + 1) q = subst (λ n. Rising n q) long (rising_of w 0 set up) in
    let rising-rest : Rising m p = rising_of w 0 (rest i set) (up_keep w (λ k. not (eqb k i)) set 0 up) in
    let within : r < m + 1 = omega (arith, long) in
    let one : q (r + 1) ≡ q r + w i = omega (arith, upto_more w set r l, ap w e) in
    let front = rest_front w set r i apart l e in
    let behind = rest_behind w set r i apart l e in
    let hushed : Quiet q (m + 1) a b = subst (λ n. Quiet q n a b) long quiet in (
      quiet_light m r (w i) q p rising rising-rest within one front behind a b range hushed,
      fires_by_lem w (rest i set) (a - w i) (b - w i)
          ∙ none_fire m p (a - w i) (b - w i) (quiet_struck m r (w i) q p rising rising-rest within one front behind a b range hushed),
      fires_by_lem w (rest i set) a b ∙ none_fire m p a b (quiet_fixed m r (w i) q p rising rising-rest within one front behind a b range hushed),
    )
