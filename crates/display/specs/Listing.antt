-- The listing of a byte string as a text: the answer of its filtering and the filtered year, line by line, or why there is none.
use Rattle.std.specs.Prelude.{ℕ, List, [], ◌∷◌, ◌++◌, leb, length, drop, Ok, Err}
use Rattle.std.specs.declared.result.Result.{Result}
use Rattle.theory.specs.Choice.{choose}
use Rattle.text.specs.Text.{bytes, newline, blank, row_of, line_of, terms_of}
use Rattle.year.specs.Year.{term_at, course_at}
use Rattle.year.specs.declared.Term.{Term}
use Rattle.year.specs.declared.Course.{Course}
use Rattle.year.specs.declared.Year.{Year}
use Rattle.records.specs.Numbers.{fault_number}
use Rattle.records.specs.Reading.{read_list}
use Rattle.records.specs.Writing.{joined}
use Rattle.records.specs.declared.Refusal.{Refusal}
use Rattle.rules.specs.RuleNumbers.{rule_number}
use Rattle.filter.specs.Filter.{filter_of}
use Rattle.filter.specs.Numbers.{filter_number}
use Rattle.filter.specs.declared.Answer.{Answer}
use Rattle.filter.specs.declared.Answer.TheVariants.{Settled, Open, NoPlan, Unsound}
use Rattle.filter.specs.declared.Filtered.{Filtered}
use Rattle.display.specs.declared.TooShort.{TooShort}

-- ---- words

abbrev pub settled_word : List ℕ
settled_word = bytes "SETTLED"

abbrev pub open_word : List ℕ
open_word = bytes "OPEN"

abbrev pub no_plan_word : List ℕ
no_plan_word = bytes "NOPLAN"

abbrev pub refused_word : List ℕ
refused_word = bytes "REFUSED"

abbrev pub term_word : List ℕ
term_word = bytes "T"

abbrev pub course_word : List ℕ
course_word = bytes "C"

-- ---- a year

-- T, number, credits low and high, count low and high
unfoldable pub term_line : ℕ → Term → List ℕ
term_line j t = line_of term_word (j ∷ t.low.0 ∷ t.high.0 ∷ t.least.0 ∷ t.most.0 ∷ [])

-- C, number, weight, terms with commas
unfoldable pub course_line : ℕ → Course → List ℕ
course_line i c = row_of course_word (i ∷ c.weight.0 ∷ []) ++ blank ++ terms_of c.list ++ newline

abbrev pub term_line_at : Year → ℕ → List ℕ
term_line_at y j = term_line j (term_at y j)

abbrev pub course_line_at : Year → ℕ → List ℕ
course_line_at y i = course_line i (course_at y i)

-- an answer that names the rounds, then all terms, then all courses
unfoldable pub year_text : List ℕ → ℕ → Year → List ℕ
year_text word rounds y =
    line_of word (rounds ∷ []) ++ joined (term_line_at y) y.terms ++ joined (course_line_at y) y.courses

-- ---- the answer

-- a word with two numbers: rule and round of a no plan, number and record of a refusal
abbrev pub pair_text : List ℕ → ℕ → ℕ → List ℕ
pair_text word a b = line_of word (a ∷ b ∷ [])

abbrev pub answer_text : Answer → Year → List ℕ
answer_text (Settled n) y = year_text settled_word n y
answer_text (Open n) y = year_text open_word n y
answer_text (NoPlan r n) y = pair_text no_plan_word (rule_number r) n
answer_text Unsound y = pair_text refused_word (filter_number Unsound) 0

abbrev pub filtered_text : Filtered → List ℕ
filtered_text f = answer_text f.answer f.year

abbrev pub received_text : Result Year Refusal → List ℕ
received_text (Ok y) = filtered_text (filter_of y)
received_text (Err r) = pair_text refused_word (fault_number r.fault) r.record

unfoldable pub listing_of : List ℕ → List ℕ
listing_of s = received_text (read_list s)

-- ---- the buffer

-- refusal 9: a buffer shorter than the text
unfoldable pub listed_of : List ℕ → ℕ → Result ℕ TooShort
listed_of s size = choose (leb (length (listing_of s)) size) (Ok (length (listing_of s))) (Err (record {}))

-- what the buffer b holds afterwards: the text and then what stood behind it, or as before
unfoldable pub listed_in : List ℕ → List ℕ → List ℕ
listed_in s b = choose (leb (length (listing_of s)) (length b)) (listing_of s ++ drop (length (listing_of s)) b) b
