-- Where the parts of a line and of a listing have room, which text an answer gives, and how a listing ends.
use Prim.Native.Nat.{ℕ, ◌+◌, ◌≤◌, ◌<◌}
use native.Mathlib.Omega.{arith}
use mathlib.Core.List.{List, ◌++◌}
use mathlib.Core.Path.{◌≡◌, refl, ap, sym, ◌∙◌}
use lib.ListN.{length, drop}
use borrow.Author.Tests.{le-leb, lt-leb}
use Rattle.std.specs.Prelude.{Ok, Err}
use Rattle.std.specs.declared.result.Result.{Result}
use Rattle.text.specs.Page.{Room}
use Rattle.text.proofs.TextLaws.{room_first, turn_room, turn}
use Rattle.year.specs.Sound.{Sound}
use Rattle.year.specs.declared.Year.{Year}
use Rattle.records.specs.Reading.{read_list}
use Rattle.records.specs.Numbers.{fault_number}
use Rattle.records.specs.Writing.{joined}
use Rattle.records.specs.declared.Refusal.{Refusal}
use Rattle.records.proofs.ListLaws.{place_few}
use Rattle.records.proofs.LayLaws.{joined_more}
use Rattle.filter.specs.Filter.{filter_of}
use Rattle.filter.specs.declared.Filtered.{Filtered}
use Rattle.filter.proofs.RoundLaws.{filter_narrower}
use Rattle.display.specs.Listing.{refused_word, pair_text, filtered_text, received_text, listing_of, listed_of, listed_in}
use Rattle.display.specs.declared.TooShort.{TooShort}

-- ---- room on a page d

-- room for three texts is room for the first two, and one
pub rooms : (d p q r : List ℕ) → Room d (p ++ q ++ r) → Room d p × Room d (p ++ q)
rooms d p q r h =
    let two = room_first d (p ++ q) r h in
    (room_first d p q two, two)

-- ---- lines in a row: the next has room, and with it the row is one longer

module _ (line : ℕ → List ℕ) (n : ℕ) where
  pub line_room : (d : List ℕ) {d' : List ℕ} (k : ℕ) → k < n → d' ≡ d ++ joined line k → Room d (joined line n) → Room d' (line k)
  line_room d k = turn_room (joined line) line n (λ i h. joined_more line i) d k

  pub line_turn : (d : List ℕ) {d' d'' : List ℕ} (k : ℕ) → k < n → d' ≡ d ++ joined line k → d'' ≡ d' ++ line k → d'' ≡ d ++ joined line (k + 1)
  line_turn d k = turn (joined line) line n (λ i h. joined_more line i) d k

-- ---- answers

module _ (y : Year) (f : Filtered) (e : f ≡ filter_of y) where
  -- the filtered year is sound
  pub filtered_sound : Sound y → Sound f.year
  filtered_sound s = rw e (filter_narrower y s).sound

module _ (s : List ℕ) where
  -- a list that holds year y
  pub received_by : (y : Year) → read_list s ≡ Ok y → listing_of s ≡ filtered_text (filter_of y)
  unfolding listing_of
  received_by y e = ap received_text e

  -- a refusal by its number n
  pub refused_by : (r : Refusal) (n : ℕ) → read_list s ≡ Err r → n ≡ fault_number r.fault → listing_of s ≡ pair_text refused_word n r.record
  unfolding listing_of
  refused_by r n e m = ap received_text e ∙ ap (λ (x : ℕ). pair_text refused_word x r.record) (sym m)

  pub place_small : (r : Refusal) → read_list s ≡ Err r → r.record < 4294967296
  place_small r e = omega (arith, place_few s r.fault r.record e)

-- ---- how a listing ends: with the text t on the page, by whether it fits the buffer b

module _ (s t b : List ℕ) (e : t ≡ listing_of s) where
  -- the answer, and the buffer afterwards
  abbrev Ends : Result ℕ TooShort → List ℕ → Type 0
  Ends r d = (r ≡ listed_of s (length b)) × (d ≡ listed_in s b)

  pub ends_short : length b < length t → Ends (Err (record {})) b
  unfolding listed_of listed_in
  ends_short h = rw (sym e, lt-leb (length t) (length b) h) (refl, refl)

  pub ends_done : (u : List ℕ) → u ≡ t → length t ≤ length b → Ends (Ok (length t)) (u ++ drop (length t) b)
  unfolding listed_of listed_in
  ends_done u q h = rw (q, sym e, le-leb (length t) (length b) h) (refl, refl)
