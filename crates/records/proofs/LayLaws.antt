-- Blocks one behind the other, and a buffer with blocks laid over it.
use Prim.Native.Nat.{ℕ, zero, suc, ◌+◌, ◌*◌, ◌≤◌}
use mathlib.Core.List.{List, [], ◌++◌, append_assoc}
use mathlib.Core.Path.{◌≡◌, refl, sym, ap, ap₂, ◌∙◌}
use native.Mathlib.Nat.{le_refl, add_assoc}
use native.Mathlib.Numerals.{add-one}
use native.Mathlib.Omega.{arith}
use lib.ListN.{length, take, drop, length-append, length-drop}
use lib.Seq.{paste, paste-zero, length-take-le, take_all, take_at, drop_at, drop-drop}
use Rattle.records.specs.Writing.{joined}
use Rattle.records.specs.Laid.{laid}

-- ---- blocks

pub joined_more : (f : ℕ → List ℕ) (n : ℕ) → joined f (n + 1) ≡ joined f n ++ f n
unfolding joined
joined_more f n = rw add-one

pub length_joined : (f : ℕ → List ℕ) (n : ℕ) → ((i : ℕ) → length (f i) ≡ 16) → length (joined f n) ≡ n * 16
unfolding joined
length_joined f zero h = refl
length_joined f (suc n) h = length-append (joined f n) (f n) ∙ omega (arith, length_joined f n h, h n)

-- ---- a buffer

pub laid_nothing : (b : List ℕ) (at : ℕ) → b ≡ laid b at []
unfolding laid
laid_nothing b at = paste-zero b at []

pub laid_paste : (b : List ℕ) (at : ℕ) (l : List ℕ) (n : ℕ) → length l ≡ n → paste b at l n ≡ laid b at l
unfolding laid
laid_paste b at l n e = rw (sym e, take_all (length l) l (le_refl (length l))) refl

module _ (b : List ℕ) (at : ℕ) (l : List ℕ) (fits : at + length l ≤ length b) where
  head_length : length (take at b ++ l) ≡ at + length l
  head_length =
      length-append (take at b) l ∙ ap (λ (n : ℕ). n + length l) (length-take-le at b (omega arith))

  pub length_laid : length (laid b at l) ≡ length b
  unfolding laid
  length_laid =
      length-append (take at b ++ l) (drop (at + length l) b) ∙ omega (arith, head_length, length-drop (at + length l) b)

  -- what is laid behind the last block
  pub laid_more : (m : List ℕ) → laid (laid b at l) (at + length l) m ≡ laid b at (l ++ m)
  unfolding laid
  laid_more m =
      let x = take at b ++ l in
      let n = at + length l in
      let front : take n (x ++ drop n b) ≡ x = take_at x (drop n b) n head_length in
      let back : drop (n + length m) (x ++ drop n b) ≡ drop (at + length (l ++ m)) b =
      sym (drop-drop (length m) n (x ++ drop n b))
      ∙ ap (drop (length m)) (drop_at x (drop n b) n head_length)
      ∙ drop-drop (length m) n b
      ∙ ap (λ (k : ℕ). drop k b) (add_assoc at (length l) (length m) ∙ ap (λ (k : ℕ). at + k) (sym (length-append l m))) in
      ap₂ (λ (p q : List ℕ). p ++ m ++ q) front back ∙ ap (λ (p : List ℕ). p ++ drop (at + length (l ++ m)) b) (append_assoc (take at b) l m)

-- one block of sixteen more, at the place p where it comes
pub laid_block : (b : List ℕ) (at : ℕ) (f : ℕ → List ℕ) (n p : ℕ) → ((i : ℕ) → length (f i) ≡ 16) → p ≡ at + n * 16 → p ≤ length b → laid (laid b at (joined f n)) p (f n) ≡ laid b at (joined f (n + 1))
laid_block b at f n p h e fits =
    let long = length_joined f n h in
    let is : p ≡ at + length (joined f n) = e ∙ ap (λ (k : ℕ). at + k) (sym long) in
    ap (λ (k : ℕ). laid (laid b at (joined f n)) k (f n)) is
    ∙ laid_more b at (joined f n) (omega arith) (f n)
    ∙ ap (laid b at) (sym (joined_more f n))

pub length_blocks : (b : List ℕ) (at : ℕ) (f : ℕ → List ℕ) (n : ℕ) → ((i : ℕ) → length (f i) ≡ 16) → at + n * 16 ≤ length b → length (laid b at (joined f n)) ≡ length b
length_blocks b at f n h fits = length_laid b at (joined f n) (omega (arith, length_joined f n h))
