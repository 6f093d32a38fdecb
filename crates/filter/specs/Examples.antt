-- Whole filterings by computation: rows 1 to 5 of the paper's table; small years on which each rule finds no plan or makes the
-- difference; for each of the paper's traps a year that the trapped version answers otherwise; and the same for other bends of the
-- definitions, each with what the bent version would answer: neighbours in the round exchanged, a mark forgotten, spares and ties.
use Rattle.std.specs.Prelude.{ℕ, [], ◌∷◌, ◌≡◌, refl, replicate}
use Rattle.year.specs.Year.{term_of, course_of}
use Rattle.year.specs.Examples.{year_of, year_e, off_e}
use Rattle.year.specs.Sums.{sums_of, no_sums}
use Rattle.rules.specs.RuleNumbers.{rule_named}
use Rattle.rules.specs.Examples.{at_a_terms_size, above_half, at_its_own_size}
use Rattle.year.specs.declared.Year.{Year}
use Rattle.filter.specs.Filter.{filtered, filter_of}
use Rattle.filter.specs.declared.Answer.TheVariants.{Settled, Open, NoPlan, Unsound}
use Rattle.filter.specs.Computing.{computing}

-- ---- what a filtering gives

-- no plan, by rule r in round n
abbrev FindsNone : Year → ℕ → ℕ → Type 0
FindsNone y r n = filter_of y ≡ filtered (NoPlan (rule_named r) n) y

-- the year z, settled or open after n rounds
abbrev Settles : Year → ℕ → Year → Type 0
Settles y n z = filter_of y ≡ filtered (Settled n) z

abbrev StaysOpen : Year → ℕ → Year → Type 0
StaysOpen y n z = filter_of y ≡ filtered (Open n) z

-- ---- the paper's table

row_1 : StaysOpen year_e 2 (year_of (term_of 3 4 1 1 ∷ term_of 5 6 2 2 ∷ []) (course_of 4 3 ∷ course_of 3 3 ∷ course_of 2 2 ∷ []))
unfolding computing
row_1 = refl

row_2 : Settles (year_of (term_of 0 10 0 5 ∷ []) []) 2 (year_of (term_of 0 0 0 0 ∷ []) [])
unfolding computing
row_2 = refl

row_3 : Settles (year_of (term_of 0 0 0 0 ∷ []) []) 1 (year_of (term_of 0 0 0 0 ∷ []) [])
unfolding computing
row_3 = refl

row_4 : FindsNone (year_of (term_of 0 4 0 1 ∷ []) (course_of 5 1 ∷ [])) 1 1
unfolding computing
row_4 = refl

row_5 : Settles (year_of (term_of 0 5 0 1 ∷ []) (course_of 5 1 ∷ [])) 2 (year_of (term_of 5 5 1 1 ∷ []) (course_of 5 1 ∷ []))
unfolding computing
row_5 = refl

-- ---- rules and traps

rule_1_no_plan : FindsNone (year_of (term_of 1 1 0 0 ∷ []) []) 1 1
unfolding computing
rule_1_no_plan = refl

rule_2_no_plan : FindsNone (year_of (term_of 0 0 0 0 ∷ term_of 0 0 0 0 ∷ []) (course_of 1 3 ∷ [])) 2 1
unfolding computing
rule_2_no_plan = refl

-- rule 3 strikes, and the answer differs without rule 3
rule_3_strikes :
    Settles (year_of (term_of 0 1 0 1 ∷ term_of 0 2 0 1 ∷ []) (course_of 1 3 ∷ course_of 2 3 ∷ [])) 2
    (year_of (term_of 1 1 1 1 ∷ term_of 2 2 1 1 ∷ []) (course_of 1 1 ∷ course_of 2 2 ∷ []))
unfolding computing
rule_3_strikes = refl

-- rule 3 fixes, and the answer differs without rule 3
rule_3_fixes :
    Settles (year_of (term_of 0 2 0 1 ∷ term_of 0 1 0 1 ∷ []) (course_of 1 3 ∷ course_of 2 3 ∷ [])) 2
    (year_of (term_of 2 2 1 1 ∷ term_of 1 1 1 1 ∷ []) (course_of 1 2 ∷ course_of 2 1 ∷ []))
unfolding computing
rule_3_fixes = refl

rule_4_no_plan : FindsNone (year_of (term_of 0 0 1 1 ∷ []) []) 4 1
unfolding computing
rule_4_no_plan = refl

rule_5_no_plan : FindsNone (year_of (term_of 0 1 0 0 ∷ term_of 0 1 0 0 ∷ []) (course_of 1 3 ∷ [])) 5 1
unfolding computing
rule_5_no_plan = refl

rule_6_no_plan : FindsNone (year_of (term_of 0 1 0 0 ∷ term_of 0 1 0 1 ∷ []) (course_of 2 3 ∷ [])) 6 1
unfolding computing
rule_6_no_plan = refl

rule_7_no_plan : FindsNone (year_of (term_of 0 1 0 0 ∷ term_of 0 1 0 0 ∷ term_of 0 1 0 2 ∷ []) (course_of 1 5 ∷ course_of 1 6 ∷ [])) 7 1
unfolding computing
rule_7_no_plan = refl

rule_8_no_plan : FindsNone (year_of (term_of 0 1 0 0 ∷ term_of 0 1 0 0 ∷ term_of 0 1 0 1 ∷ []) (course_of 2 7 ∷ [])) 8 1
unfolding computing
rule_8_no_plan = refl

rule_9_no_plan :
    FindsNone (year_of (term_of 0 3 2 2 ∷ term_of 1 2 0 1 ∷ term_of 1 2 0 1 ∷ []) (course_of 1 3 ∷ course_of 2 7 ∷ course_of 2 5 ∷ [])) 9 1
unfolding computing
rule_9_no_plan = refl

rule_10_no_plan : FindsNone (year_of (term_of 0 1 1 1 ∷ term_of 1 2 0 1 ∷ term_of 1 2 0 1 ∷ []) (course_of 1 7 ∷ course_of 2 6 ∷ [])) 10 1
unfolding computing
rule_10_no_plan = refl

-- rule 10 strikes, and without rule 10 the listing differs
rule_10_strikes :
    Settles (year_of (term_of 0 1 0 0 ∷ term_of 0 1 0 1 ∷ []) (course_of 1 3 ∷ [])) 2
    (year_of (term_of 0 0 0 0 ∷ term_of 1 1 1 1 ∷ []) (course_of 1 2 ∷ []))
unfolding computing
rule_10_strikes = refl

-- rule 10 fixes, and without rule 10 the listing differs
rule_10_fixes :
    Settles (year_of (term_of 0 1 0 1 ∷ term_of 0 1 0 0 ∷ []) (course_of 1 3 ∷ [])) 2
    (year_of (term_of 1 1 1 1 ∷ term_of 0 0 0 0 ∷ []) (course_of 1 1 ∷ []))
unfolding computing
rule_10_fixes = refl

-- rule 12 finds no plan by a term whose p exceeds high credits, and by firing on all open courses
rule_12_over_high :
    FindsNone (year_of (term_of 0 2 0 2 ∷ term_of 0 3 0 2 ∷ term_of 0 1 0 0 ∷ []) (course_of 1 5 ∷ course_of 2 3 ∷ course_of 2 6 ∷ [])) 12 1
unfolding computing
rule_12_over_high = refl

rule_12_fires : FindsNone at_its_own_size 12 1
unfolding computing
rule_12_fires = refl

-- rule 12 strikes by firing on the rest, and the list differs without it
rule_12_strikes :
    StaysOpen (year_of (term_of 0 2 0 1 ∷ term_of 0 3 0 2 ∷ []) (course_of 1 3 ∷ course_of 2 3 ∷ course_of 2 3 ∷ [])) 2
    (year_of (term_of 2 2 1 1 ∷ term_of 3 3 2 2 ∷ []) (course_of 1 2 ∷ course_of 2 3 ∷ course_of 2 3 ∷ []))
unfolding computing
rule_12_strikes = refl

-- rule 12 fixes, with p read anew for the courses behind; with p read once for the term, SETTLED 2
rule_12_fixes :
    StaysOpen (year_of (term_of 0 3 0 2 ∷ term_of 0 2 0 1 ∷ []) (course_of 1 3 ∷ course_of 2 3 ∷ course_of 2 3 ∷ [])) 2
    (year_of (term_of 3 3 2 2 ∷ term_of 2 2 1 1 ∷ []) (course_of 1 1 ∷ course_of 2 3 ∷ course_of 2 3 ∷ []))
unfolding computing
rule_12_fixes = refl

-- rule 11 finds no plan by a term whose p exceeds high credits: rule 12 has put a course there since it came to the term
rule_11_over_high :
    FindsNone
    (year_of (term_of 0 2 0 0 ∷ term_of 0 6 0 2 ∷ term_of 0 5 0 2 ∷ [])
    (course_of 3 6 ∷ course_of 4 6 ∷ course_of 4 7 ∷ []))
    11 1
unfolding computing
rule_11_over_high = refl

-- rule 11 finds no plan by its quotient, where only c/2 exceeds, and where a size counts that is t itself
rule_11_quotient :
    FindsNone
    (year_of (term_of 0 1 0 0 ∷ term_of 0 3 0 2 ∷ term_of 0 3 0 2 ∷ [])
    (course_of 2 6 ∷ course_of 2 6 ∷ course_of 2 7 ∷ []))
    11 1
unfolding computing
rule_11_quotient = refl

-- without c/2, OPEN 2
rule_11_at_half :
    FindsNone
    (year_of (term_of 0 1 0 1 ∷ term_of 0 1 0 1 ∷ term_of 0 9 0 2 ∷ term_of 0 9 0 2 ∷ [])
    (course_of 1 15 ∷ course_of 5 12 ∷ course_of 5 12 ∷ course_of 6 12 ∷ []))
    11 1
unfolding computing
rule_11_at_half = refl

-- were a size at t to count 0, OPEN 2
rule_11_at_its_own_size :
    FindsNone
    (year_of (term_of 0 1 0 1 ∷ term_of 0 1 0 1 ∷ term_of 0 4 0 2 ∷ term_of 0 4 0 2 ∷ [])
    (course_of 1 15 ∷ course_of 2 12 ∷ course_of 3 12 ∷ course_of 3 12 ∷ []))
    11 1
unfolding computing
rule_11_at_its_own_size = refl

-- where only a term's size exceeds
rule_11_at_a_terms_size : FindsNone at_a_terms_size 11 1
unfolding computing
rule_11_at_a_terms_size = refl

-- and finds none where only a size above c/2 would exceed
rule_11_above_half :
    StaysOpen above_half 2
    (year_of (term_of 0 0 0 0 ∷ term_of 0 1 0 1 ∷ term_of 1 2 1 2 ∷ []) (course_of 1 4 ∷ course_of 1 6 ∷ []))
unfolding computing
rule_11_above_half = refl

-- trap 1: rule 6 on a year that rule 4 has not passed
trap_1 :
    FindsNone
    (year_of (term_of 2 2 0 1 ∷ term_of 0 2 3 3 ∷ term_of 0 2 0 1 ∷ []) (course_of 1 3 ∷ course_of 1 5 ∷ course_of 1 4
    ∷ course_of 2 3 ∷ []))
    4 1
unfolding computing
trap_1 = refl

-- trap 2: a course taken without charging every other term
trap_2 :
    FindsNone (year_of (term_of 0 2 0 0 ∷ term_of 0 2 0 1 ∷ term_of 0 2 0 2 ∷ []) (course_of 1 7 ∷ course_of 1 6 ∷ course_of 2 5 ∷ [])) 7 1
unfolding computing
trap_2 = refl

-- trap 2 again, with another filtered year
trap_2_open :
    StaysOpen (year_of (term_of 0 2 0 1 ∷ term_of 0 2 0 2 ∷ term_of 0 2 1 2 ∷ []) (course_of 1 7 ∷ course_of 1 6 ∷ course_of 2 3 ∷ [])) 2
    (year_of (term_of 0 2 0 1 ∷ term_of 0 2 0 1 ∷ term_of 1 2 1 2 ∷ []) (course_of 1 7 ∷ course_of 1 6 ∷ course_of 2 3 ∷ []))
unfolding computing
trap_2_open = refl

-- trap 3: rule 3 with a p read before an earlier course was fixed
trap_3 : FindsNone (year_of (term_of 0 3 0 1 ∷ term_of 0 1 0 1 ∷ []) (course_of 2 3 ∷ course_of 2 3 ∷ [])) 6 1
unfolding computing
trap_3 = refl

-- trap 4: rule 7 stopping at the first skipped course
trap_4 :
    Settles (year_of (term_of 0 1 0 0 ∷ term_of 0 1 0 1 ∷ term_of 0 1 0 1 ∷ []) (course_of 1 6 ∷ course_of 1 3 ∷ [])) 2
    (year_of (term_of 0 0 0 0 ∷ term_of 1 1 1 1 ∷ term_of 1 1 1 1 ∷ []) (course_of 1 4 ∷ course_of 1 2 ∷ []))
unfolding computing
trap_4 = refl

-- trap 5: the quotient of rule 11 rounded down; with it, OPEN 2
trap_5 :
    FindsNone
    (year_of (term_of 0 1 0 1 ∷ term_of 0 1 0 1 ∷ term_of 0 4 0 2 ∷ term_of 0 4 0 2 ∷ [])
    (course_of 2 12 ∷ course_of 3 12 ∷ course_of 1 15 ∷ course_of 3 12 ∷ []))
    11 1
unfolding computing
trap_5 = refl

-- ---- rules exchanged: the neighbours that no year above tells apart

-- rule 3 before rule 4; exchanged, NOPLAN 5 1
in_order_3_4 : FindsNone (year_of (term_of 2 9 1 1 ∷ term_of 3 5 1 3 ∷ []) (course_of 5 3 ∷ [])) 4 1
unfolding computing
in_order_3_4 = refl

-- rule 6 before rule 7; exchanged, NOPLAN 7 1
in_order_6_7 : FindsNone (year_of (term_of 0 1 0 0 ∷ term_of 0 1 0 2 ∷ []) (course_of 1 3 ∷ course_of 1 3 ∷ [])) 6 1
unfolding computing
in_order_6_7 = refl

-- rule 9 before rule 10; exchanged, NOPLAN 9 1
in_order_9_10 : FindsNone (year_of (term_of 1 2 0 1 ∷ term_of 1 2 0 1 ∷ term_of 0 1 1 1 ∷ []) (course_of 1 7 ∷ course_of 2 3 ∷ [])) 2 2
unfolding computing
in_order_9_10 = refl

-- rule 10 before rule 12; exchanged, NOPLAN 10 1
in_order_10_12 :
    FindsNone
    (year_of (term_of 0 2 0 2 ∷ term_of 0 1 0 0 ∷ term_of 0 2 0 2 ∷ [])
    (course_of 1 3 ∷ course_of 1 6 ∷ course_of 2 5 ∷ []))
    12 1
unfolding computing
in_order_10_12 = refl

-- rule 12 before rule 11; exchanged, NOPLAN 11 1
in_order_12_11 :
    FindsNone
    (year_of (term_of 0 2 0 2 ∷ term_of 0 3 0 2 ∷ term_of 0 1 0 0 ∷ [])
    (course_of 1 5 ∷ course_of 2 3 ∷ course_of 2 3 ∷ []))
    12 1
unfolding computing
in_order_12_11 = refl

-- ---- rules that alter the year silently: what a rule altered has to be marked, or the round would be taken for the last.
-- Rule 10's own mark is never the only one of its round: its courses are struck or fixed by rule 3 unless a bound moved since

-- rule 1 alone alters; silent, SETTLED 1
marks_1 : Settles (year_of (term_of 0 8 0 0 ∷ []) []) 2 (year_of (term_of 0 0 0 0 ∷ []) [])
unfolding computing
marks_1 = refl

-- rule 2 alone; silent, OPEN 1
marks_2 :
    StaysOpen (year_of (term_of 0 1 1 1 ∷ term_of 0 1 1 1 ∷ []) (course_of 1 3 ∷ course_of 1 3 ∷ [])) 2
    (year_of (term_of 1 1 1 1 ∷ term_of 1 1 1 1 ∷ []) (course_of 1 3 ∷ course_of 1 3 ∷ []))
unfolding computing
marks_2 = refl

-- rule 3 alone; silent, SETTLED 1
marks_3 :
    Settles (year_of (term_of 1 1 1 1 ∷ term_of 0 0 0 0 ∷ []) (course_of 1 3 ∷ [])) 2
    (year_of (term_of 1 1 1 1 ∷ term_of 0 0 0 0 ∷ []) (course_of 1 1 ∷ []))
unfolding computing
marks_3 = refl

-- rule 4 alone; silent, SETTLED 1
marks_4 : Settles (year_of (term_of 0 0 0 1 ∷ []) []) 2 (year_of (term_of 0 0 0 0 ∷ []) [])
unfolding computing
marks_4 = refl

-- rule 5 alone; silent, OPEN 1
marks_5 :
    StaysOpen (year_of (term_of 1 1 0 1 ∷ term_of 1 1 0 1 ∷ []) (course_of 1 3 ∷ course_of 1 3 ∷ [])) 2
    (year_of (term_of 1 1 1 1 ∷ term_of 1 1 1 1 ∷ []) (course_of 1 3 ∷ course_of 1 3 ∷ []))
unfolding computing
marks_5 = refl

-- rule 6 alone; silent, OPEN 1
marks_6 :
    StaysOpen (year_of (term_of 0 2 0 1 ∷ term_of 1 2 0 1 ∷ term_of 0 1 0 1 ∷ []) (course_of 2 3 ∷ course_of 1 6 ∷ [])) 2
    (year_of (term_of 0 2 0 1 ∷ term_of 1 2 1 1 ∷ term_of 0 1 0 1 ∷ []) (course_of 2 3 ∷ course_of 1 6 ∷ []))
unfolding computing
marks_6 = refl

-- rule 7 alone; silent, OPEN 1
marks_7 :
    StaysOpen (year_of (term_of 0 1 0 1 ∷ term_of 0 1 0 1 ∷ term_of 0 1 0 2 ∷ []) (course_of 1 6 ∷ course_of 1 5 ∷ [])) 2
    (year_of (term_of 0 1 0 1 ∷ term_of 0 1 0 1 ∷ term_of 0 1 0 1 ∷ []) (course_of 1 6 ∷ course_of 1 5 ∷ []))
unfolding computing
marks_7 = refl

-- rule 8 alone; silent, OPEN 1
marks_8 :
    StaysOpen (year_of (term_of 0 1 0 1 ∷ term_of 0 2 1 2 ∷ term_of 0 1 0 1 ∷ []) (course_of 1 3 ∷ course_of 1 6 ∷ [])) 2
    (year_of (term_of 0 1 0 1 ∷ term_of 1 2 1 2 ∷ term_of 0 1 0 1 ∷ []) (course_of 1 3 ∷ course_of 1 6 ∷ []))
unfolding computing
marks_8 = refl

-- rule 9 alone; silent, OPEN 1
marks_9 :
    StaysOpen (year_of (term_of 0 2 0 1 ∷ term_of 0 2 0 2 ∷ term_of 0 2 0 2 ∷ []) (course_of 1 5 ∷ course_of 1 3 ∷ course_of 1 6 ∷ [])) 2
    (year_of (term_of 0 1 0 1 ∷ term_of 0 2 0 2 ∷ term_of 0 2 0 2 ∷ []) (course_of 1 5 ∷ course_of 1 3 ∷ course_of 1 6 ∷ []))
unfolding computing
marks_9 = refl

-- rule 12 alone; silent, OPEN 1
marks_12 :
    StaysOpen (year_of (term_of 2 2 1 1 ∷ term_of 3 3 2 2 ∷ []) (course_of 1 3 ∷ course_of 2 3 ∷ course_of 2 3 ∷ [])) 2
    (year_of (term_of 2 2 1 1 ∷ term_of 3 3 2 2 ∷ []) (course_of 1 2 ∷ course_of 2 3 ∷ course_of 2 3 ∷ []))
unfolding computing
marks_12 = refl

-- only rules 6 to 10 alter in round 1, and round 2 finds no plan; all five silent, SETTLED 1
marks_6_to_10 : FindsNone (year_of (term_of 3 4 0 1 ∷ term_of 0 4 1 1 ∷ term_of 1 4 0 1 ∷ []) (course_of 4 7 ∷ course_of 4 5 ∷ [])) 1 2
unfolding computing
marks_6_to_10 = refl

-- ---- walks

-- rule 6 sets up spares anew at each term; with those of the rule's start, NOPLAN 7 1
fresh_spares :
    FindsNone
    (year_of (term_of 1 4 2 3 ∷ term_of 2 5 2 4 ∷ [])
    (course_of 1 2 ∷ course_of 2 3 ∷ course_of 2 3 ∷ course_of 1 1 ∷ course_of 2 3 ∷ course_of 1 2 ∷ []))
    6 1
unfolding computing
fresh_spares = refl

-- ties by lower number: with ties by higher number in rule 6, 7, 8 or 9 it is that rule that finds no plan, in round 1
ties :
    FindsNone
    (year_of (term_of 0 2 1 1 ∷ term_of 2 3 0 2 ∷ term_of 3 4 0 2 ∷ []) (course_of 2 5 ∷ course_of 2 6 ∷ course_of 2 7
    ∷ course_of 1 2 ∷ []))
    2 2
unfolding computing
ties = refl

-- going up, once more, where there are plans: with ties by higher number in rule 7, OPEN 3
ties_open :
    StaysOpen
    (year_of (term_of 0 5 1 3 ∷ term_of 1 4 0 2 ∷ term_of 0 4 2 3 ∷ [])
    (course_of 1 7 ∷ course_of 1 1 ∷ course_of 1 3 ∷ course_of 1 4 ∷ course_of 1 5 ∷ []))
    2
    (year_of (term_of 1 2 1 2 ∷ term_of 1 2 1 2 ∷ term_of 2 3 2 3 ∷ [])
    (course_of 1 7 ∷ course_of 1 1 ∷ course_of 1 3 ∷ course_of 1 4 ∷ course_of 1 5 ∷ []))
unfolding computing
ties_open = refl

-- ---- the two no plans of rule 10: rule_10_no_plan has too few courses for low count, this year more fixed than high count

rule_10_over_high :
    FindsNone (year_of (term_of 0 1 0 0 ∷ term_of 0 2 0 2 ∷ term_of 0 2 0 2 ∷ []) (course_of 2 6 ∷ course_of 1 3 ∷ course_of 1 5 ∷ [])) 10 1
unfolding computing
rule_10_over_high = refl

-- ---- the sums

-- a year with a sum that disagrees is refused by 8 and comes back as it was given
sums_refused : filter_of off_e ≡ filtered Unsound off_e
unfolding computing
sums_refused = refl

-- and what a filtering leaves carries its sums: after rule 3 has fixed course 0 in term 1 and course 1 in term 0, two of one course each
sums_follow :
    (filter_of (year_of (term_of 0 2 0 1 ∷ term_of 0 1 0 1 ∷ []) (course_of 1 3 ∷ course_of 2 3 ∷ []))).year.sums
    ≡ sums_of 2 2 1 0 ∷ sums_of 1 1 1 0 ∷ replicate 14 no_sums
unfolding computing
sums_follow = refl
