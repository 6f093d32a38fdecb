-- Rule 12's sums by what the lightest of a set weigh, and how the code reads that out of an array.
use Rattle.std.specs.Prelude.{ℕ, ◌+◌, ◌-◌, ◌≤◌, ◌<◌, Bool, ◌&&◌, List, ◌≡◌, leb, ltb, length, get_or}
use Rattle.theory.specs.Choice.{choose}
use Rattle.theory.specs.Sum.{weigh}
use Rattle.theory.specs.Tests.{any}
use Rattle.theory.specs.Neighbours.{lightest}

-- what the t lightest of a set weigh
abbrev pub upto : (ℕ → ℕ) → List ℕ → ℕ → ℕ
upto w set t = weigh w (lightest t set)

-- q t is what the t lightest of n weigh: each weighs at least as much as the one before
pub record Rising (n : ℕ) (q : ℕ → ℕ) : Type 0 where
  pub none : q 0 ≡ 0
  pub grows : (t : ℕ) → t < n → q t ≤ q (t + 1)
  pub heavier : (s t : ℕ) → s ≤ t → t < n → q (s + 1) + q t ≤ q (t + 1) + q s

-- `neighbours` and `fires` by that alone
abbrev pub neighbours_by : (ℕ → ℕ) → ℕ → ℕ → ℕ → ℕ → ℕ → Bool
neighbours_by q n a b k' k = leb (k + k' + 1) n && ltb (q n - q (n - k) + q k') a && ltb b (q (k' + (k + 1)) - q k')

unfoldable pub fires_by : (ℕ → ℕ) → ℕ → ℕ → ℕ → Bool
fires_by q n a b = any n (λ k'. any n (neighbours_by q n a b k'))

-- ---- out of an array

-- what the t lightest weigh, where the one at place `out`, of weight w, is left out
abbrev pub left_out : List ℕ → ℕ → ℕ → ℕ → ℕ
left_out u out w t = choose (leb t out) (get_or u t 0) (get_or u (t + 1) 0 - w)

-- the array u has it for n of them
pub record Lent (u : List ℕ) (n out w : ℕ) : Type 0 where
  pub long : n < length u
  pub longer : out < n → n + 1 < length u
  pub covers : (t : ℕ) → out < t → t ≤ n → w ≤ get_or u (t + 1) 0
  pub rising : Rising n (left_out u out w)
  pub small : left_out u out w n ≤ 64000

-- the array u has it for all of so many courses
pub record Summed (count : ℕ) (u : List ℕ) : Type 0 where
  pub few : count ≤ 64
  pub rising : Rising count (λ t. get_or u t 0)
  pub small : get_or u count 0 ≤ 64000

-- no one of n exceeds b, nor by more than s what all before it weigh but the heaviest of those
abbrev pub Calm : (ℕ → ℕ) → ℕ → ℕ → ℕ → Type 0
Calm q n s b = (t : ℕ) → t < n → (q (t + 1) ≤ b + q t) × (q (t + 1) ≤ s + q (t - 1) + q t)

-- no k heaviest of the first m, with l more, weigh less than a while the k + 1 from place s on, with e more, weigh more than b
abbrev pub NoneReach : (ℕ → ℕ) → ℕ → ℕ → ℕ → ℕ → ℕ → ℕ → ℕ → Type 0
NoneReach q n m s l e a b = (k : ℕ) → k + s < n → q m - q (m - k) + l < a → b < q (s + (k + 1)) - q s + e → ⊥

-- whichever one of n is left out, k' of the rest show nothing: with that one's weight less, or with the range as it is
abbrev pub QuietAt : (ℕ → ℕ) → ℕ → ℕ → ℕ → ℕ → Type 0
QuietAt q n a b k' = NoneReach q n n k' (q (k' + 1)) (q n - q (n - 1)) a b × NoneReach q n (n - 1) (k' + 1) (q k') 0 a b

-- no one of n exceeds b, and so it is with each k' that are lighter than the range, and than the heaviest by more than it is wide
pub record Quiet (q : ℕ → ℕ) (n a b : ℕ) : Type 0 where
  pub light : q n ≤ b + q (n - 1)
  pub each : (k' : ℕ) → k' + 1 < n → q k' < a → q k' + (b - a + 1) < q n - q (n - 1) → QuietAt q n a b k'
