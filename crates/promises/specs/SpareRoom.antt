-- "Rule 4 before rule 6 keeps each spare at 0 or more": in a round no spare is cut off at 0; and rule 8 always reaches the low count.
use Rattle.std.specs.Prelude.{ℕ, ◌+◌, ◌≤◌, ◌<◌, ◌≡◌}
use Rattle.year.specs.Year.{term_at, low_count}
use Rattle.year.specs.Sums.{fixed_count, open_count}
use Rattle.year.specs.Sound.{Sound}
use Rattle.year.specs.declared.Year.{Year}
use Rattle.rules.specs.Step.{live, over_to, Step}
use Rattle.rules.specs.Spares.{walk_of, up, rule6, rule7, rule8, rule9}
use Rattle.rules.specs.Round.{in_row, passes_of}
use Rattle.rules.specs.declared.Until.TheVariants as until

-- the round of y up to rule a and with it
abbrev pub after_rule : Year → ℕ → Step
after_rule y a = in_row (passes_of 1 a) (live y)

-- the year that a rule on bounds sees at term j, where s is what the rules before it left
abbrev pub seen_at : (Year → ℕ → Step) → Step → ℕ → Year
seen_at rule s j = (over_to rule s j).year

-- open - (low count - fixed) is cut off nowhere: fixed ≤ low count ≤ fixed + open
abbrev pub Spared : Year → Type 0
Spared z = (k : ℕ) → k < z.terms → (fixed_count z k ≤ low_count z k) × (low_count z k ≤ fixed_count z k + open_count z k)

-- so it is at every term of the rule behind rule a, and after its last, in a round that rules 1 to 4 do not end
abbrev pub SparedAt : (Year → ℕ → Step) → ℕ → Type 0
SparedAt rule a = (y : Year) → Sound y → (after_rule y 4).rule ≡ 0 → (j : ℕ) → j ≤ y.terms → Spared (seen_at rule (after_rule y a) j)

-- rule 8's walk reaches the low count, since rule 7 walked as far
pub record SpareRoom : Type 0 where
  pub spared_6 : SparedAt rule6 5
  pub spared_7 : SparedAt rule7 6
  pub spared_8 : SparedAt rule8 7
  pub spared_9 : SparedAt rule9 8
  pub rule8_reaches : (y : Year) → Sound y → (after_rule y 7).rule ≡ 0 → (j : ℕ) → j < y.terms
      → let z = seen_at rule8 (after_rule y 7) j in
      low_count z j ≤ (walk_of z j (until.Count (term_at z j).least) (up z)).count
