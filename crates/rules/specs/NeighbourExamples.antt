-- Rule 12 by computation: its test on sets of weights, and the rule at a term; for each wrong version of it something that this
-- version would not give.
use Rattle.std.specs.Prelude.{ℕ, true, false, List, [], ◌∷◌, ◌≡◌, refl, take}
use Rattle.theory.specs.Neighbours.{fires}
use Rattle.year.specs.Year.{term_of, course_of}
use Rattle.year.specs.Examples.{year_of}
use Rattle.year.specs.declared.Course.{Course}
use Rattle.rules.specs.Step.{Step}
use Rattle.rules.specs.Neighbours.{rule12}
use Rattle.rules.specs.Computing.{computing}

-- ---- sets, each member told by its weight

abbrev own : ℕ → ℕ
own w = w

-- with k = k' = 0 a lone 2 is above 1 to 1: k + k' + 1 is the size of the set
lone : fires own (2 ∷ []) 1 1 ≡ true
unfolding computing
lone = refl

-- with k' = 1 the 1 is below 2 to 2, and the 3 outside it above; the lightest of all is the 1
outside_the_lightest : fires own (1 ∷ 3 ∷ []) 2 2 ≡ true
unfolding computing
outside_the_lightest = refl

-- with k = 1 one 3 is below 4 to 5, and two are above; from 3 on it is not
between_two : (fires own (3 ∷ 3 ∷ 3 ∷ []) 4 5 ≡ true)
    × (fires own (3 ∷ 3 ∷ 3 ∷ []) 3 5 ≡ false)
    × (fires own (3 ∷ 3 ∷ 3 ∷ []) 4 6 ≡ false)
unfolding computing
between_two = (refl, refl, refl)

-- on an empty set it never fires, nor where a is 0
never : (fires own [] 1 1 ≡ false) × (fires own (2 ∷ []) 0 1 ≡ false)
unfolding computing
never = (refl, refl)

-- ---- at term 0, of a to b credits, of courses that list a second term too

-- the lists of the first n courses after the rule: 3 where the course stays, 2 where it is struck, 1 where it is fixed
abbrev at : ℕ → ℕ → List Course → Step
at a b cs = rule12 (year_of (term_of a b 0 9 ∷ term_of 0 99 0 9 ∷ []) cs) 0

abbrev lists : ℕ → Step → List ℕ
lists n s = take n s.year.list

-- the 2 exceeds 1 and is struck; without the 1, which is fixed, it fires on the rest
heavy_and_needed : lists 2 (at 1 1 (course_of 1 3 ∷ course_of 2 3 ∷ [])) ≡ 1 ∷ 2 ∷ []
unfolding computing
heavy_and_needed = refl

-- with the 1 there would be 1 to 1 left for the 2: it fires on the rest, and the 1 is struck. Alone, the 2 stays; and with the
-- test on the whole set alone both would
struck_by_the_rest : lists 2 (at 2 2 (course_of 1 3 ∷ course_of 2 3 ∷ [])) ≡ 2 ∷ 3 ∷ []
unfolding computing
struck_by_the_rest = refl

-- with one 1 nothing more is needed; were a not lowered by it, it would be struck
lowered : lists 2 (at 1 1 (course_of 1 3 ∷ course_of 1 3 ∷ [])) ≡ 3 ∷ 3 ∷ []
unfolding computing
lowered = refl

-- the rest is empty; with the course in it, it would be struck
without_itself : lists 1 (at 3 3 (course_of 2 3 ∷ [])) ≡ 3 ∷ []
unfolding computing
without_itself = refl

-- each 2 is both: struck, as that is asked first
strike_first : lists 3 (at 3 3 (course_of 2 3 ∷ course_of 2 3 ∷ course_of 4 3 ∷ [])) ≡ 2 ∷ 2 ∷ 2 ∷ []
unfolding computing
strike_first = refl

-- the first 1 is fixed, and with the p that follows so is the second; with p as it was, it would be struck
p_anew : lists 3 (at 2 2 (course_of 1 3 ∷ course_of 1 3 ∷ course_of 3 3 ∷ [])) ≡ 1 ∷ 1 ∷ 2 ∷ []
unfolding computing
p_anew = refl

-- the 2 is struck, and the rest of the 1 is then empty; with the set as it was, the 1 would be fixed
set_anew : lists 2 (at 1 1 (course_of 2 3 ∷ course_of 1 3 ∷ [])) ≡ 2 ∷ 3 ∷ []
unfolding computing
set_anew = refl

-- no plan: it fires on all open courses; p exceeds high credits
no_plan : ((at 1 1 (course_of 2 3 ∷ [])).rule ≡ 12) × ((at 0 1 (course_of 2 1 ∷ course_of 2 3 ∷ [])).rule ≡ 12)
unfolding computing
no_plan = (refl, refl)

-- in year E as rule 10 leaves it, course 2 is struck from term 0
year_e_lem :
    lists 3 (rule12 (year_of (term_of 3 4 1 1 ∷ term_of 5 6 2 2 ∷ []) (course_of 4 3 ∷ course_of 3 3 ∷ course_of 2 3 ∷ [])) 0)
    ≡ 3 ∷ 3 ∷ 2 ∷ []
unfolding computing
year_e_lem = refl
