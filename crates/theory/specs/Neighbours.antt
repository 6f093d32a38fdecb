-- Neighbouring sums (request A5): sets of which no choice weighs from a to b. A set is given from lightest to heaviest.
use Rattle.std.specs.Prelude.{ℕ, ◌+◌, ◌-◌, Bool, ◌&&◌, List, leb, ltb, length, take, drop}
use Rattle.theory.specs.Sum.{weigh}
use Rattle.theory.specs.Tests.{any}

abbrev pub lightest : ℕ → List ℕ → List ℕ
lightest k set = take k set

abbrev pub heaviest : ℕ → List ℕ → List ℕ
heaviest k set = drop (length set - k) set

-- what is left without the k lightest
abbrev pub outside : ℕ → List ℕ → List ℕ
outside k set = drop k set

-- k + k' + 1 is at most the size of the set, the k heaviest plus the k' lightest weigh less than a, and the k + 1 lightest
-- outside those k' weigh more than b
unfoldable pub neighbours : (ℕ → ℕ) → List ℕ → ℕ → ℕ → ℕ → ℕ → Bool
neighbours w set a b k k' =
    leb (k + k' + 1) (length set)
    && ltb (weigh w (heaviest k set) + weigh w (lightest k' set)) a
    && ltb b (weigh w (lightest (k + 1) (outside k' set)))

-- there are such k and k'
unfoldable pub fires : (ℕ → ℕ) → List ℕ → ℕ → ℕ → Bool
fires w set a b = any (length set) (λ k. any (length set) (λ k'. neighbours w set a b k k'))
