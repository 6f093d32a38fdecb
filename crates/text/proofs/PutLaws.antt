-- Texts in a lent buffer: one text behind another is one text, and room for the next.
use Prim.Native.Nat.{ℕ, ◌+◌, ◌-◌, ◌≤◌, ◌<◌}
use native.Mathlib.Nat.{le_refl, add_assoc}
use native.Mathlib.Omega.{arith}
use mathlib.Core.List.{List, [], ◌++◌, append_assoc}
use mathlib.Core.Path.{◌≡◌, refl, ap, ap₂, sym, ◌∙◌}
use lib.ListN.{length, take, drop, length-append}
use lib.Seq.{paste, paste-zero, length-paste, take-length, take-paste, drop-paste, drop-drop}
use borrow.Rule.Slice.PartMut.{put_mid}
use Rattle.std.proofs.lemmas.Slice.{put_mid-paste}
use Rattle.text.specs.Put.{Put}
use Rattle.text.proofs.TextLaws.{grows}

paste_append : (d : List ℕ) (at : ℕ) (s t : List ℕ) → at + length s + length t ≤ length d → paste (paste d at s (length s)) (at + length s) t (length t) ≡ paste d at (s ++ t) (length (s ++ t))
paste_append d at s t h =
    ap₂ ◌++◌ (ap₂ ◌++◌ front (take-length t) ∙ append_assoc (take at d) s t) back
    ∙ sym (ap₂ ◌++◌ (ap (λ (l : List ℕ). take at d ++ l) (take-length (s ++ t))) refl)
  where
    front : take (at + length s) (paste d at s (length s)) ≡ take at d ++ s
    front =
        take-paste d at s (length s) (omega arith) (omega arith) ∙ ap (λ (l : List ℕ). take at d ++ l) (take-length s)

    back : drop (at + length s + length t) (paste d at s (length s)) ≡ drop (at + length (s ++ t)) d
    back =
        sym (drop-drop (length t) (at + length s) (paste d at s (length s)))
        ∙ ap (λ (l : List ℕ). drop (length t) l) (drop-paste d at s (length s) (omega arith) (omega arith))
        ∙ drop-drop (length t) (at + length s) d
        ∙ ap (λ (k : ℕ). drop k d) (add_assoc at (length s) (length t) ∙ ap (λ (k : ℕ). at + k) (sym (length-append s t)))

-- nothing is written by leaving the buffer as it is
pub put_nothing : (d : List ℕ) (at : ℕ) → Put d at [] d at
put_nothing d at = record { next = omega arith; wrote = paste-zero d at []; long = refl }

-- a part of a buffer that is as long as a text, written over by it
pub put_part : (d : List ℕ) (at n : ℕ) (s t : List ℕ) → t ≡ s → n ≡ length s → at + length s ≤ length d → Put d at s (put_mid at n d t) (at + length s)
put_part d at n s t e k h =
    let wrote = put_mid-paste at n d t s (length s) e (sym k) refl in
    record { next = refl; wrote = wrote; long = ap length wrote ∙ length-paste d at s (length s) h (le_refl (length s)) }

-- one text behind another
pub puts : {d d' d'' s t : List ℕ} {at r r' : ℕ} → Put d at s d' r → Put d' r t d'' r' → at + length (s ++ t) ≤ length d → Put d at (s ++ t) d'' r'
puts {d} {d'} {d''} {s} {t} {at} {r} {r'} p q h = record {
  next = omega (arith, p.next, q.next, length-append s t);
  wrote = q.wrote
      ∙ ap₂ (λ (l : List ℕ) (k : ℕ). paste l k t (length t)) p.wrote p.next
      ∙ paste_append d at s t (omega (arith, length-append s t));
  long = q.long ∙ p.long;
}

-- room for both is room for the second behind the first
pub room : {d d' s : List ℕ} {at r : ℕ} (t : List ℕ) → Put d at s d' r → at + length (s ++ t) ≤ length d → r + length t ≤ length d'
room {d} {d'} {s} {at} {r} t p h = omega (arith, p.next, p.long, length-append s t)

-- and for the first
pub room_first : (d : List ℕ) (at : ℕ) (s t : List ℕ) → at + length (s ++ t) ≤ length d → at + length s ≤ length d
room_first d at s t h = omega (arith, length-append s t)

-- ---- a text that grows piece by piece, as in a loop: text k, and piece k behind it, for each k below n

module _ (text piece : ℕ → List ℕ) (n : ℕ) (more : (k : ℕ) → k < n → text (k + 1) ≡ text k ++ piece k) where
  -- room for the whole text is room up to the next piece
  room_to : (d : List ℕ) (at k : ℕ) → k < n → at + length (text n) ≤ length d → at + length (text k ++ piece k) ≤ length d
  room_to d at k l h =
      omega (arith, grows text piece n more (n - (k + 1)) (k + 1) (omega arith), ap length (more k l))

  -- and for that piece
  pub turn_room : {d d' : List ℕ} {at r : ℕ} (k : ℕ) → k < n → at + length (text n) ≤ length d → Put d at (text k) d' r → r + length (piece k) ≤ length d'
  turn_room {d} {d'} {at} {r} k l h p = room (piece k) p (room_to d at k l h)

  -- one piece more
  pub turn : {d d' d'' : List ℕ} {at r r' : ℕ} (k : ℕ) → k < n → at + length (text n) ≤ length d → Put d at (text k) d' r → Put d' r (piece k) d'' r' → Put d at (text (k + 1)) d'' r'
  turn {d} {d'} {d''} {at} {r} {r'} k l h p q = rw (more k l) (puts p q (room_to d at k l h))
