-- The paper's number for an answer of the listing, and the text's length. A number that an answer does not name is 0.
use Rattle.std.specs.Prelude.{ℕ, Ok, Err}
use Rattle.std.specs.declared.result.Result.{Result}
use Rattle.display.specs.declared.TooShort.{TooShort}

abbrev pub listed_number : Result ℕ TooShort → ℕ
listed_number (Ok n) = 0
listed_number (Err e) = 9

abbrev pub listed_length : Result ℕ TooShort → ℕ
listed_length (Ok n) = n
listed_length (Err e) = 0
