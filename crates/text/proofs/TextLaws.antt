-- One text behind another is one text; how long texts are; and what one number or term more adds.
use Prim.Native.Nat.{ℕ, zero, suc, ◌+◌, ◌-◌, ◌≤◌, ◌<◌}
use native.Mathlib.Numerals.{add-one}
use native.Mathlib.Omega.{arith}
use mathlib.Core.Bool.{Bool, true, false, ◌||◌}
use mathlib.Core.List.{List, [], ◌∷◌, ◌++◌, append_assoc, append-nil}
use mathlib.Core.Path.{◌≡◌, refl, ap, sym, ◌∙◌}
use lib.ListN.{length, take, get_or, length-append}
use lib.Seq.{take-length, take-suc}
use Rattle.theory.specs.Bits.{has}
use Rattle.theory.specs.Choice.{choose}
use Rattle.text.specs.Text.{comma, decimal_of, numbered_of, numbers_of, terms_to, commas_of}
use Rattle.text.specs.Put.{comma_of, piece_of}
use Rattle.text.specs.Page.{Room}

-- ---- texts behind a page's text d

-- one text behind another
pub puts : (d s t : List ℕ) {d' d'' : List ℕ} → d' ≡ d ++ s → d'' ≡ d' ++ t → d'' ≡ d ++ (s ++ t)
puts d s t p q = q ∙ ap (λ (l : List ℕ). l ++ t) p ∙ append_assoc d s t

-- room for both is room for the first
pub room_first : (d s t : List ℕ) → Room d (s ++ t) → Room d s
room_first d s t h = omega (arith, length-append s t)

-- and for the second behind it
pub room : (d s t : List ℕ) {d' : List ℕ} → d' ≡ d ++ s → Room d (s ++ t) → Room d' t
room d s t p h = omega (arith, length-append s t, length-append d s, ap length p)

-- ---- a text that grows piece by piece, as in a loop: text k, and piece k behind it, for each k below n

module _ (text piece : ℕ → List ℕ) (n : ℕ) (more : (k : ℕ) → k < n → text (k + 1) ≡ text k ++ piece k) where
  pub grows : (left k : ℕ) → k + left ≡ n → length (text k) ≤ length (text n)
  grows zero k e = let q : k ≡ n = omega arith in omega (arith, ap (λ (i : ℕ). length (text i)) q)
  grows (suc left) k e =
      omega (arith, grows left (k + 1) (omega arith), ap length (more k (omega arith)), length-append (text k) (piece k))

  -- room for the whole text is room for the next piece
  pub turn_room : (d : List ℕ) {d' : List ℕ} (k : ℕ) → k < n → d' ≡ d ++ text k → Room d (text n) → Room d' (piece k)
  turn_room d k l p h =
      let all = grows (n - (k + 1)) (k + 1) (omega arith) in
      room d (text k) (piece k) p (omega (arith, all, ap length (more k l)))

  -- one piece more
  pub turn : (d : List ℕ) {d' d'' : List ℕ} (k : ℕ) → k < n → d' ≡ d ++ text k → d'' ≡ d' ++ piece k → d'' ≡ d ++ text (k + 1)
  turn d k l p q = puts d (text k) (piece k) p q ∙ ap (λ (t : List ℕ). d ++ t) (sym (more k l))

-- ---- numbers

numbers_append : (ns : List ℕ) (n : ℕ) → numbers_of (ns ++ n ∷ []) ≡ numbers_of ns ++ numbered_of n
unfolding numbers_of
numbers_append [] n = append-nil (numbered_of n)
numbers_append (m ∷ ns) n =
    ap (λ (t : List ℕ). numbered_of m ++ t) (numbers_append ns n) ∙ sym (append_assoc (numbered_of m) (numbers_of ns) (numbered_of n))

-- the first k of some numbers
abbrev pub first_numbers : List ℕ → ℕ → List ℕ
first_numbers ns k = numbers_of (take k ns)

-- and number k behind them
abbrev pub next_number : List ℕ → ℕ → List ℕ
next_number ns k = numbered_of (get_or ns k 0)

pub numbers_more : (ns : List ℕ) (k : ℕ) → k < length ns → first_numbers ns (k + 1) ≡ first_numbers ns k ++ next_number ns k
numbers_more ns k h =
    ap (first_numbers ns) (add-one k) ∙ ap numbers_of (take-suc ns k 0 h) ∙ numbers_append (take k ns) (get_or ns k 0)

pub numbers_all : (ns : List ℕ) → first_numbers ns (length ns) ≡ numbers_of ns
numbers_all ns = ap numbers_of (take-length ns)

-- ---- terms with commas

-- some number stands in a list
abbrev pub some_of : List ℕ → Bool
some_of [] = false
some_of (n ∷ ns) = true

-- one number more behind others
pub commas_append : (ns : List ℕ) (n : ℕ) → commas_of (ns ++ n ∷ []) ≡ commas_of ns ++ (comma_of (some_of ns) ++ decimal_of n)
unfolding commas_of
commas_append [] n = refl
commas_append (m ∷ []) n = append_assoc (decimal_of m) comma (decimal_of n)
commas_append (m ∷ k ∷ ns) n =
    ap (λ (t : List ℕ). (decimal_of m ++ comma) ++ t) (commas_append (k ∷ ns) n)
    ∙ sym (append_assoc (decimal_of m ++ comma) (commas_of (k ∷ ns)) (comma ++ decimal_of n))

-- the text of the terms below j, and what term j adds
abbrev pub text_to : ℕ → ℕ → List ℕ
text_to l j = commas_of (terms_to l j)

abbrev pub next_term : ℕ → ℕ → List ℕ
next_term l j = piece_of (some_of (terms_to l j)) l j

pub terms_more : (l j : ℕ) → j < 16 → text_to l (j + 1) ≡ text_to l j ++ next_term l j
unfolding terms_to piece_of
terms_more l j h = rw (add-one j) (go (has l j))
  where
    ts : List ℕ
    ts = terms_to l j

    go : (b : Bool) → commas_of (choose b (ts ++ j ∷ []) ts) ≡ commas_of ts ++ choose b (comma_of (some_of ts) ++ decimal_of j) []
    go true = commas_append ts j
    go false = sym (append-nil (commas_of ts))

-- what one term adds, by whether the list names it
pub piece_named : (some : Bool) (l j : ℕ) → has l j ≡ true → piece_of some l j ≡ comma_of some ++ decimal_of j
unfolding piece_of
piece_named some l j e = rw e refl

pub piece_none : (some : Bool) (l j : ℕ) → has l j ≡ false → piece_of some l j ≡ []
unfolding piece_of
piece_none some l j e = rw e refl

pub some_more : (l j : ℕ) → some_of (terms_to l (j + 1)) ≡ some_of (terms_to l j) || has l j
unfolding terms_to
some_more l j = rw (add-one j) (go (has l j) (terms_to l j))
  where
    go : (b : Bool) (ts : List ℕ) → some_of (choose b (ts ++ j ∷ []) ts) ≡ some_of ts || b
    go true [] = refl
    go true (t ∷ ts) = refl
    go false [] = refl
    go false (t ∷ ts) = refl
