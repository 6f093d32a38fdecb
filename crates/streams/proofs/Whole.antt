-- What was read of an input has the listing of all of it: an input that filled the buffer is too long, and so is what was read.
use Rattle.std.proofs.Common.{◌≡◌, ℕ, ◌≤◌, ◌<◌, ◌/◌, Bool, true, false, ◌||◌, List, [], ◌++◌, length, take, refl, sym, ap, ◌∙◌, subst, arith, append-nil, length-append, length-take-le, Some, None, IfSome, Ok, Err, OnOk, eqb}
use Rattle.std.proofs.lemmas.Bool.{cases_lt}
use Rattle.std.proofs.Math.Logic.{◌⊎◌, inl, inr}
use Rattle.std.specs.declared.option.Option.{Option}
use Rattle.std.specs.declared.result.Result.{Result}
use Rattle.std.specs.Io.KnownBytes.{Consumes, IsAtEnd}
use borrow.Author.Tests.{lt-ltb}
use Rattle.theory.specs.Choice.{choose}
use Rattle.records.specs.Reading.{read_list, read_to, refused, summed, bad_length}
use Rattle.records.specs.Numbers.{fault_number}
use Rattle.records.specs.declared.Fault.TheVariants as fault
use Rattle.display.specs.Listing.{refused_word, pair_text, received_text, listing_of}

-- ---- a list that is too long

with_true : (a c : Bool) → (a || true || c) ≡ true
with_true true c = refl
with_true false c = refl

bad : (n : ℕ) → 1280 < n → bad_length n ≡ true
bad n h = rw (lt-ltb 1280 n h) (with_true (eqb n 0) _)

-- refusal 1, whatever stands in it
too_long : (s : List ℕ) → 1280 < length s → listing_of s ≡ pair_text refused_word (fault_number fault.Length) 0
unfolding listing_of read_list
too_long s h = ap (λ b. received_text (summed (choose b (refused fault.Length 0) (read_to s (length s / 16))))) (bad (length s) h)

-- ---- what was read

front_enough : (buf rest : List ℕ) (n : ℕ) → 1280 < length buf → n ≤ length buf → (n < length buf → rest ≡ [])
    → listing_of (take n buf) ≡ listing_of (take n buf ++ rest)
front_enough buf rest n long fits ends = go (cases_lt n (length buf))
  where
    go : (n < length buf) ⊎ (length buf ≤ n) → listing_of (take n buf) ≡ listing_of (take n buf ++ rest)
    go (inl less) = ap listing_of (sym (append-nil (take n buf)) ∙ ap (λ l. take n buf ++ l) (sym (ends less)))
    go (inr full) =
        let read = take n buf in
        let filled = length-take-le n buf fits in
        too_long read (omega (arith, filled)) ∙ sym (too_long (read ++ rest) (omega (arith, filled, length-append read rest)))

-- of a reader's bytes, where they are known
pub whole : (old new : Option (List ℕ)) (buf : List ℕ) (n : ℕ) (P : List ℕ → Type 0) → 1280 < length buf → n ≤ length buf
    → Consumes old new (take n buf) → (n < length buf → IsAtEnd new) → P (listing_of (take n buf)) → IfSome old (λ bytes. P (listing_of bytes))
whole None new buf n P long fits read ends p = tt
whole (Some xs) None buf n P long fits read ends p = absurd read
whole (Some xs) (Some ys) buf n P long fits read ends p =
    subst P (front_enough buf ys n long fits ends ∙ ap listing_of (sym read)) p

-- what follows of an answer that is Ok
pub on_ok : {T E : Type 0} (r : Result T E) {P Q : Type 0} → OnOk r P → (P → Q) → OnOk r Q
on_ok (Ok x) p f = f p
on_ok (Err e) p f = tt
