-- A list of terms beside reading: where no record is a course's, the two answer alike; so joining it with an empty list answers as reading.
use Prim.Native.Nat.{ℕ, ◌*◌, ◌/◌, ◌<◌}
use mathlib.Core.Bool.{Bool, true, false}
use mathlib.Core.List.{List, []}
use mathlib.Core.Path.{◌≡◌, refl, sym, ap, ◌∙◌}
use native.Mathlib.Omega.{arith}
use lib.Dec.{eqb}
use lib.ListN.{length}
use borrow.Author.Tests.{eqb-true, eqb-false}
use Rattle.theory.specs.Choice.{choose}
use Rattle.year.specs.declared.Year.{Year}
use Rattle.records.specs.Bytes.{letter_at}
use Rattle.records.specs.Reading.{of_term, term_record, blank_year, done, refused, gathered, record_in, bad_length, summed, read_list}
use Rattle.records.specs.declared.Fault.TheVariants as fault
use Rattle.std.specs.Prelude.{Result, Ok, Err}
use Rattle.records.specs.declared.Refusal.{Refusal}
use Rattle.records.proofs.EntryLaws.{at_term, at_neither}
use Rattle.year.proofs.SoundLaws.{with_sums_same}
use Rattle.records.proofs.GatherLaws.{gathered_same}
use Rattle.hours.specs.declared.JoiningRefusal.{JoiningRefusal}
use Rattle.hours.specs.declared.JoiningRefusal.TheVariants.{InTerms}
use Rattle.hours.specs.Entries.{term_alone}
use Rattle.hours.specs.Joining.{term_entry, term_list, hours_list, behind_terms, join_of}
use Rattle.hours.proofs.JoinLaws.{terms_so_far, terms_done}

-- a record that is no course's, behind a year with no course
entry_same : (s : List ℕ) (k : ℕ) (y : Year) → (letter_at s (k * 16) ≡ 67 → ⊥) → y.courses ≡ 0 → term_entry s k y ≡ record_in s k y
unfolding term_alone
entry_same s k y no_course none = go (eqb (letter_at s (k * 16)) 84) refl
  where
    go : (a : Bool) → eqb (letter_at s (k * 16)) 84 ≡ a → of_term (choose a (term_record s (k * 16) y.terms) (Err fault.Letter)) ≡ record_in s k y
    go true p = sym (at_term s (k * 16) y.terms y.courses (eqb-true _ _ p) none refl)
    go false p = sym (at_neither s (k * 16) y.terms y.courses (λ q c. eqb-false _ _ p q) (λ q m. no_course q))

-- a list of terms hands back a year with its sums
terms_summed : (s : List ℕ) → summed (term_list s) ≡ term_list s
terms_summed s = go (term_list s) refl
  where
    go : (r : Result Year Refusal) → term_list s ≡ r → summed r ≡ r
    go (Ok y) e = ap done (with_sums_same y (terms_done s y e).0.sums_kept)
    go (Err q) e = refl

-- a list without a course's record
pub terms_as_read : (s : List ℕ) → ((k : ℕ) → k < length s / 16 → letter_at s (k * 16) ≡ 67 → ⊥) → term_list s ≡ read_list s
unfolding term_list read_list
terms_as_read s no_course =
    sym (terms_summed s)
    ∙ ap (λ (r : Result Year Refusal). summed (choose (bad_length (length s)) (refused fault.Length 0) r))
    (gathered_same (term_entry s) (record_in s) blank_year (length s / 16) (λ k y l e. entry_same s k y (no_course k l) (terms_so_far s k y e).no_course))

-- a list of terms that is done reads to the same year
pub terms_read : (s : List ℕ) (y : Year) → term_list s ≡ done y → read_list s ≡ done y
terms_read s y e =
    let r = terms_done s y e in
    sym (terms_as_read s (λ k l c. omega (arith, (r.0.each k l).0))) ∙ e

-- an answer of the terms' list alone
abbrev pub in_terms : Result Year Refusal → Result Year JoiningRefusal
in_terms (Ok y) = Ok y
in_terms (Err q) = Err (InTerms q)

-- no hours: the answer of the terms
pub joined_with_none : (s : List ℕ) → join_of s [] ≡ in_terms (term_list s)
unfolding join_of hours_list gathered
joined_with_none s = go (term_list s) (terms_summed s)
  where
    go : (r : Result Year Refusal) → summed r ≡ r → behind_terms r [] ≡ in_terms r
    go (Ok y) e = ap in_terms e
    go (Err q) e = refl
