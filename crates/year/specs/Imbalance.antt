-- The imbalance of a settled year: the number of terms times the sum of squared term credits, less the square of all credits.
use Rattle.std.specs.Prelude.{ℕ, ◌-◌, ◌*◌, Bool, ◌&&◌, leb, Result, Ok, Err}
use Rattle.theory.specs.Choice.{choose}
use Rattle.theory.specs.Tests.{all}
use Rattle.theory.specs.Sum.{sum}
use Rattle.theory.specs.Pairs.{square}
use Rattle.year.specs.Year.{term_at}
use Rattle.year.specs.Sums.{fixed_credits, fixed_count, all_credits, all_placed}
use Rattle.year.specs.Sound.{is_sound}
use Rattle.year.specs.declared.Term.{Term}
use Rattle.year.specs.declared.Year.{Year}
use Rattle.year.specs.declared.ImbalanceRefusal.{ImbalanceRefusal}
use Rattle.year.specs.declared.ImbalanceRefusal.TheVariants.{Unsound, Unsettled}

-- credits c and count n are within a term's bounds
abbrev pub fits : Term → ℕ → ℕ → Bool
fits t c n = leb t.low.0 c && leb c t.high.0 && leb t.least.0 n && leb n t.most.0

-- what is fixed in term k is within its bounds
abbrev pub fits_at : Year → ℕ → Bool
fits_at y k = fits (term_at y k) (fixed_credits y k) (fixed_count y k)

-- every course has one term, and that placing is a plan
unfoldable pub one_plan : Year → Bool
one_plan y = all_placed y && all y.terms (fits_at y)

-- the number, where term k has so many credits. Where these are all the credits there are, nothing is cut off below 0.
abbrev pub imbalance_by : Year → (ℕ → ℕ) → ℕ
imbalance_by y credits = y.terms * sum y.terms (λ k. square (credits k)) - square (all_credits y)

unfoldable pub imbalance_of : Year → Result ℕ ImbalanceRefusal
imbalance_of y = choose (is_sound y) (choose (one_plan y) (Ok (imbalance_by y (fixed_credits y))) (Err Unsettled)) (Err Unsound)
