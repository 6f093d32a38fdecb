-- Inner, not to be believed: a buffer with bytes laid over it, as the code writes them block by block.
use Rattle.std.specs.Prelude.{ℕ, ◌+◌, List, ◌++◌, length, take, drop}

-- b with l laid over it from a place on
unfoldable pub laid : List ℕ → ℕ → List ℕ → List ℕ
laid b at l = take at b ++ l ++ drop (at + length l) b
