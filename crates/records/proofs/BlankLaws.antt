-- A part of a list all of whose entries pass a test, entry by entry.
use Prim.Native.Nat.{ℕ, zero, suc, ◌+◌, ◌-◌, ◌≤◌}
use mathlib.Core.Bool.{Bool, ◌&&◌}
use mathlib.Core.List.{List}
use mathlib.Core.Path.{◌≡◌, refl, sym, ap, ◌∙◌}
use native.Mathlib.Omega.{arith}
use native.Mathlib.Nat.{add_assoc}
use native.Mathlib.Numerals.{add-one}
use lib.Dec.{eqb}
use lib.ListN.{length, get_or, take, drop, length-drop}
use lib.Seq.{get_or-drop}
use Rattle.std.specs.List.{list_all}
use Rattle.std.proofs.lemmas.List.Folds.{list_all_more}
use Rattle.theory.specs.Tests.{all}
use Rattle.records.specs.Bytes.{blank_from}

all_taken : (p : ℕ → Bool) (xs : List ℕ) (n : ℕ) → n ≤ length xs → list_all p (take n xs) ≡ all n (λ i. p (get_or xs i 0))
unfolding all
all_taken p xs zero h = refl
all_taken p xs (suc n) h =
    ap (λ (m : ℕ). list_all p (take m xs)) (sym (add-one n))
    ∙ list_all_more p xs n 0 (omega arith)
    ∙ ap (λ (t : Bool). t && p (get_or xs n 0)) (all_taken p xs n (omega arith))

pub blank_part : (s : List ℕ) (at k m : ℕ) → k ≤ 16 → at + 16 ≤ length s → m ≡ 16 - k → list_all (λ b. eqb b 0) (take m (drop (at + k) s)) ≡ blank_from s at k
blank_part s at k m h fits e =
    rw e
    (all_taken (λ b. eqb b 0) (drop (at + k) s) (16 - k) (omega (arith, length-drop (at + k) s))
    ∙ (λ j. all (16 - k) (λ i. eqb (same i j) 0)))
  where
    same : (i : ℕ) → get_or (drop (at + k) s) i 0 ≡ get_or s (at + (k + i)) 0
    same i = get_or-drop (at + k) s i 0 ∙ ap (λ (n : ℕ). get_or s n 0) (add_assoc at k i)
