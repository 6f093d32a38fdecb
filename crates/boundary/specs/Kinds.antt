-- The narrowings by the numbers that calls name them with.
use Rattle.std.specs.Prelude.{◌≡◌, ℕ, ◌<◌, Result, MatchResult}
use Rattle.boundary.specs.declared.kinds.Kind.{Kind}
use Rattle.boundary.specs.declared.kinds.Kind.TheVariants.{Place, Bar, RaiseLowCredits, LowerHighCredits, RaiseLowCount, LowerHighCount}
use Rattle.boundary.specs.declared.kinds.UnknownKind.{UnknownKind}

abbrev pub kind_number : Kind → ℕ
kind_number Place = 0
kind_number Bar = 1
kind_number RaiseLowCredits = 2
kind_number LowerHighCredits = 3
kind_number RaiseLowCount = 4
kind_number LowerHighCount = 5

-- the kind of a number, or none for a number past the last
abbrev pub Named : ℕ → Result Kind UnknownKind → Type 0
Named number r = MatchResult r (λ kind. kind_number kind ≡ number) (λ none. 5 < number)
