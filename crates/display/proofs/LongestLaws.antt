-- No listing has more than 3,436 bytes: SETTLED with seven digits, sixteen terms with the widest bounds, and 64 courses of 1,000
-- credits that list all sixteen.
use Prim.Native.Nat.{ℕ, zero, suc, ◌+◌, ◌-◌, ◌≤◌, ◌<◌}
use native.Mathlib.Nat.{add-zero, add-suc, le_refl}
use native.Mathlib.Omega.{arith}
use mathlib.Core.List.{List, [], ◌∷◌, ◌++◌}
use mathlib.Core.Path.{◌≡◌, refl, ap}
use lib.ListN.{length, take, drop, length-append}
use lib.Seq.{take-append_seam}
use borrow.Author.Tests.{le-leb}
use Rattle.theory.specs.Sum.{sum}
use Rattle.text.specs.Text.{newline, blank, places_of, row_of, line_of, terms_of}
use Rattle.text.proofs.LengthLaws.{places_mono, places_most, numbers_length, no_numbers, row_length, line_length, terms_length}
use Rattle.year.specs.Sound.{TermSound, CourseSound, Sound}
use Rattle.year.specs.declared.Term.{Term}
use Rattle.year.specs.declared.Course.{Course}
use Rattle.year.specs.declared.Year.{Year}
use Rattle.records.specs.Reading.{read_list}
use Rattle.records.specs.Numbers.{fault_number}
use Rattle.records.specs.Writing.{joined}
use Rattle.records.specs.declared.Refusal.{Refusal}
use Rattle.records.proofs.ListLaws.{read_sound}
use Rattle.rules.specs.RuleNumbers.{rule_number}
use Rattle.std.specs.Prelude.{Ok, Err}
use Rattle.std.specs.declared.result.Result.{Result}
use Rattle.filter.specs.Filter.{filter_of}
use Rattle.filter.proofs.RoundLaws.{answer_few}
use Rattle.filter.specs.Numbers.{filter_number, filter_rounds}
use Rattle.filter.specs.declared.Answer.{Answer}
use Rattle.filter.specs.declared.Answer.TheVariants.{Settled, Open, NoPlan, Unsound}
use Rattle.display.specs.Listing.{settled_word, open_word, no_plan_word, refused_word, term_word, course_word, term_line, course_line, term_line_at, course_line_at, year_text, pair_text, answer_text, listing_of, listed_of, listed_in}
use Rattle.display.specs.Numbers.{listed_length}
use Rattle.display.proofs.ListingLaws.{filtered_sound, received_by, refused_by}

-- ---- digits

-- a number of up to m has no more digits than m
five : (n : ℕ) → n ≤ 64000 → places_of n ≤ 5
unfolding places_of
five n h = places_mono n 64000 h

four : (n : ℕ) → n ≤ 1000 → places_of n ≤ 4
unfolding places_of
four n h = places_mono n 1000 h

two : (n : ℕ) → n ≤ 64 → places_of n ≤ 2
unfolding places_of
two n h = places_mono n 64 h

seven : (n : ℕ) → n ≤ 1025985 → places_of n ≤ 7
unfolding places_of
seven n h = places_mono n 1025985 h

-- ---- lines

pair_length : (word : List ℕ) (a b : ℕ) → length (pair_text word a b) ≤ length word + 23
pair_length word a b =
    omega (arith, line_length word (a ∷ b ∷ []), numbers_length a (b ∷ []), numbers_length b [], no_numbers, places_most a, places_most b)

-- a line beside the digits of its number
abbrev term_most : ℕ → ℕ
term_most j = 21 + places_of j

abbrev course_most : ℕ → ℕ
course_most i = 46 + places_of i

term_length : (j : ℕ) (t : Term) → TermSound t → length (term_line j t) ≤ term_most j
unfolding term_line
term_length j t s =
    let a = t.low.0 in
    let b = t.high.0 in
    let c = t.least.0 in
    let d = t.most.0 in
    omega (
      arith,
      line_length term_word (j ∷ a ∷ b ∷ c ∷ d ∷ []),
      numbers_length j (a ∷ b ∷ c ∷ d ∷ []),
      numbers_length a (b ∷ c ∷ d ∷ []),
      numbers_length b (c ∷ d ∷ []),
      numbers_length c (d ∷ []),
      numbers_length d [],
      no_numbers,
      five a (omega (arith, s.credits_ordered, s.credits_most)),
      five b s.credits_most,
      two c (omega (arith, s.count_ordered, s.count_most)),
      two d s.count_most,
    )

course_length : (i : ℕ) (c : Course) (terms : ℕ) → CourseSound c terms → length (course_line i c) ≤ course_most i
unfolding course_line
course_length i c terms s =
    let w = c.weight.0 in
    let row = row_of course_word (i ∷ w ∷ []) in
    let listed = terms_of c.list in
    omega (
      arith,
      length-append (row ++ blank ++ listed) newline,
      length-append (row ++ blank) listed,
      length-append row blank,
      row_length course_word (i ∷ w ∷ []),
      numbers_length i (w ∷ []),
      numbers_length w [],
      no_numbers,
      four w s.weight_most,
      terms_length c.list,
    )

joined_sum : (f : ℕ → List ℕ) (g : ℕ → ℕ) (n : ℕ) → ((i : ℕ) → i < n → length (f i) ≤ g i) → length (joined f n) ≤ sum n g
unfolding joined sum
joined_sum f g zero each = omega arith
joined_sum f g (suc n) each =
    omega (arith, length-append (joined f n) (f n), joined_sum f g n (λ i h. each i (omega arith)), each n (omega arith))

sum_longer : (g : ℕ → ℕ) (n d : ℕ) → sum n g ≤ sum (n + d) g
unfolding sum
sum_longer g n zero = rw (add-zero n) (le_refl (sum n g))
sum_longer g n (suc d) = rw (add-suc n d) (omega (arith, sum_longer g n d))

joined_length : (f : ℕ → List ℕ) (g : ℕ → ℕ) (n m : ℕ) → n ≤ m → ((i : ℕ) → i < n → length (f i) ≤ g i) → length (joined f n) ≤ sum m g
joined_length f g n m h each =
    let is : n + (m - n) ≡ m = omega arith in
    omega (arith, joined_sum f g n each, sum_longer g n (m - n), ap (λ (k : ℕ). sum k g) is)

-- ---- the year

terms_length_all : (y : Year) → Sound y → length (joined (term_line_at y) y.terms) ≤ 358
unfolding sum places_of
terms_length_all y s =
    joined_length (term_line_at y) term_most y.terms 16 s.terms_most (λ j h. term_length j _ (s.term_sound j h))

courses_length_all : (y : Year) → Sound y → length (joined (course_line_at y) y.courses) ≤ 3062
unfolding sum places_of
courses_length_all y s =
    joined_length (course_line_at y) course_most y.courses 64 s.courses_most (λ i h. course_length i _ y.terms (s.course_sound i h))

year_length : (word : List ℕ) (n : ℕ) (y : Year) → length word ≤ 7 → n ≤ 1025985 → Sound y → length (year_text word n y) ≤ 3436
unfolding year_text
year_length word n y h few s =
    let a = line_of word (n ∷ []) in
    let t = joined (term_line_at y) y.terms in
    let c = joined (course_line_at y) y.courses in
    omega (
      arith,
      length-append (a ++ t) c,
      length-append a t,
      line_length word (n ∷ []),
      numbers_length n [],
      no_numbers,
      seven n few,
      terms_length_all y s,
      courses_length_all y s,
    )

-- ---- the answer

answer_length : (a : Answer) (y : Year) → filter_rounds a ≤ 1025985 → Sound y → length (answer_text a y) ≤ 3436
answer_length (Settled n) y h s = year_length settled_word n y (omega arith) h s
answer_length (Open n) y h s = year_length open_word n y (omega arith) h s
answer_length (NoPlan r n) y h s = omega (arith, pair_length no_plan_word (rule_number r) n)
answer_length Unsound y h s = omega (arith, pair_length refused_word (filter_number Unsound) 0)

pub longest : (s : List ℕ) → length (listing_of s) ≤ 3436
longest s = go (read_list s) refl
  where
    go : (r : Result Year Refusal) → read_list s ≡ r → length (listing_of s) ≤ 3436
    go (Ok y) e =
        rw (received_by s y e)
        (answer_length (filter_of y).answer (filter_of y).year (answer_few y).1 (filtered_sound y (filter_of y) refl (read_sound s y e)))
    go (Err r) e =
        rw (refused_by s r (fault_number r.fault) e refl) (omega (arith, pair_length refused_word (fault_number r.fault) r.record))

-- a buffer of as many bytes is never too short: its front part, as long as the answer says, is the listing
pub listing_whole : (s b : List ℕ) → length b ≡ 3436 → take (listed_length (listed_of s (length b))) (listed_in s b) ≡ listing_of s
unfolding listed_of listed_in
listing_whole s b e =
    let t = listing_of s in
    let fits = le-leb (length t) (length b) (omega (arith, longest s)) in
    rw fits (take-append_seam t (drop (length t) b))
