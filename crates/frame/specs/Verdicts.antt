-- A course's list under a verdict.
use Rattle.std.specs.Prelude.{ℕ, ◌-◌, ◌^◌}
use Rattle.rules.specs.declared.Verdict.{Verdict}
use Rattle.rules.specs.declared.Verdict.TheVariants.{Stays, Struck, Fixed}

-- a course's list after a verdict in term j
abbrev pub list_after : Verdict → ℕ → ℕ → ℕ
list_after Stays l j = l
list_after Struck l j = l - 2 ^ j
list_after Fixed l j = 2 ^ j
