-- The listing's answer and buffer, by whether the text fits; year E by computation.
use Prim.Native.Nat.{ℕ, ◌≤◌, ◌<◌}
use mathlib.Core.Bool.{Bool, true, false}
use mathlib.Core.List.{List, ◌++◌}
use mathlib.Core.Logic.{◌↔◌}
use mathlib.Core.Path.{◌≡◌, refl}
use native.Mathlib.Omega.{arith}
use lib.Dec.{leb}
use lib.ListN.{length, drop}
use borrow.Author.Tests.{leb-true, leb-false}
use Rattle.std.specs.Prelude.{Result, Ok, Err}
use Rattle.theory.specs.Choice.{choose}
use Rattle.year.specs.Examples.{year_e, two_plans}
use Rattle.year.proofs.PlanCount.{each_plan_once}
use Rattle.records.specs.Examples.{year_e_read}
use Rattle.display.specs.Listing.{listing_of, listed_of, listed_in}
use Rattle.display.specs.Numbers.{listed_number, listed_length}
use Rattle.display.specs.Examples.{year_e_lem}
use Rattle.display.specs.declared.TooShort.{TooShort}
use Rattle.display.proofs.LongestLaws.{longest, listing_whole}
use Rattle.promises.specs.Listing.{ListingDue, PlansCounted, YearE}

-- an answer for a text t and a buffer b, and what it leaves there
data Written (t b : List ℕ) : Result ℕ TooShort → List ℕ → Type 0 where
  done : length t ≤ length b → Written t b (Ok (length t)) (t ++ drop (length t) b)
  short : {e : TooShort} → length b < length t → Written t b (Err e) b

listed : (s b : List ℕ) → Written (listing_of s) b (listed_of s (length b)) (listed_in s b)
unfolding listed_of listed_in
listed s b = go (leb (length (listing_of s)) (length b)) refl
  where
    go : (c : Bool) → leb (length (listing_of s)) (length b) ≡ c
        → Written (listing_of s) b (choose c (Ok (length (listing_of s))) (Err (record {}))) (choose c (listing_of s ++ drop (length (listing_of s)) b) b)
    go true e = done (leb-true _ _ e)
    go false e = short (leb-false _ _ e)

-- the answer alone, by the room
data Told (t : List ℕ) (room : ℕ) : Result ℕ TooShort → Type 0 where
  done : length t ≤ room → Told t room (Ok (length t))
  short : {e : TooShort} → room < length t → Told t room (Err e)

told : (s : List ℕ) (room : ℕ) → Told (listing_of s) room (listed_of s room)
unfolding listed_of
told s room = go (leb (length (listing_of s)) room) refl
  where
    go : (c : Bool) → leb (length (listing_of s)) room ≡ c → Told (listing_of s) room (choose c (Ok (length (listing_of s))) (Err (record {})))
    go true e = done (leb-true _ _ e)
    go false e = short (leb-false _ _ e)

pub listing_due : ListingDue
listing_due = record {
  longest = longest;
  short = λ s room. nine (told s room);
  fits = λ s room. none (told s room);
  told_length = λ s room. long (told s room);
  in_front = λ s b. front (listed s b);
  untouched = λ s b. same (listed s b);
  printed = listing_whole;
}
  where
    nine : {t : List ℕ} {room : ℕ} {a : Result ℕ TooShort} → Told t room a → (listed_number a ≡ 9) ↔ (room < length t)
    nine (done h) = (λ q. absurd (omega arith), λ q. absurd (omega arith))
    nine (short h) = (λ q. h, λ q. refl)

    none : {t : List ℕ} {room : ℕ} {a : Result ℕ TooShort} → Told t room a → (listed_number a ≡ 0) ↔ (length t ≤ room)
    none (done h) = (λ q. h, λ q. refl)
    none (short h) = (λ q. absurd (omega arith), λ q. absurd (omega arith))

    long : {t : List ℕ} {room : ℕ} {a : Result ℕ TooShort} → Told t room a → listed_number a ≡ 0 → listed_length a ≡ length t
    long (done h) q = refl
    long (short h) q = absurd (omega arith)

    front : {t b d : List ℕ} {a : Result ℕ TooShort} → Written t b a d → listed_number a ≡ 0 → d ≡ t ++ drop (length t) b
    front (done h) q = refl
    front (short h) q = absurd (omega arith)

    same : {t b d : List ℕ} {a : Result ℕ TooShort} → Written t b a d → listed_number a ≡ 9 → d ≡ b
    same (done h) q = absurd (omega arith)
    same (short h) q = refl

pub plans_counted : PlansCounted
plans_counted = each_plan_once

pub year_e_whole : YearE
year_e_whole = record { reads = year_e_read; lists = year_e_lem; plans = two_plans.0; two_plans = two_plans.1; each_once = each_plan_once year_e }
