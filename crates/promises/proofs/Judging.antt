-- A list judged by rows: what is wrong with its length, or with a record, by number, gives one number and one place; a list whose records
-- are taken one by one is answered by it. Which list, and which rows, is left open.
use Prim.Native.Nat.{ℕ, suc, ◌≤◌, ◌<◌}
use mathlib.Core.Bool.{Bool, true, false, not}
use mathlib.Core.Path.{◌≡◌, refl, sym, subst}
use native.Mathlib.Omega.{arith}
use native.Mathlib.Decide.{ℕ_discrete, dec_lt}
use Rattle.std.specs.Prelude.{Result, Ok, Err}
use Rattle.theory.specs.Choice.{choose}
use Rattle.year.specs.declared.Term.{Term}
use Rattle.year.specs.declared.Course.{Course}
use Rattle.year.specs.declared.Year.{Year}
use Rattle.records.specs.Numbers.{fault_number, reading_number, reading_place}
use Rattle.records.specs.Reading.{Record, OfTerm, OfCourse, Faulty, add_term, add_course, done, gathered, summed}
use Rattle.records.specs.declared.Fault.{Fault}
use Rattle.records.specs.declared.Refusal.{Refusal}
use Rattle.records.proofs.GatherLaws.{gathered_keeps, first_fault, listed}
use Rattle.promises.specs.Refusals.{FirstWrong}
use Rattle.promises.proofs.Tells.{Tells}

-- ---- what the rows say of a list

pub data Found (bad : Type 0) (records : ℕ) (wrong : ℕ → ℕ → Type 0) : ℕ → ℕ → Type 0 where
  bad_length_lem : bad → Found bad records wrong 1 0
  first_wrong : {n k : ℕ} → FirstWrong bad records wrong n k → Found bad records wrong n k
  all_right : (bad → ⊥) → ((k : ℕ) → k < records → (n : ℕ) → wrong k n → ⊥) → Found bad records wrong 0 0

module _ {bad : Type 0} {records : ℕ} {wrong : ℕ → ℕ → Type 0} where
  -- they say it once
  same_place : (n k m j : ℕ) → FirstWrong bad records wrong n k → FirstWrong bad records wrong m j → j ≤ k
  same_place n k m j a b = go (dec_lt k j)
    where
      go : Dec (k < j) → j ≤ k
      go (yes h) = absurd (b.before_right k h n a.is_wrong)
      go (no h) = omega (arith, h)

  same_number : (n m k : ℕ) → FirstWrong bad records wrong n k → FirstWrong bad records wrong m k → m ≤ n
  same_number n m k a b = go (dec_lt n m)
    where
      go : Dec (n < m) → m ≤ n
      go (yes h) = absurd (b.none_lower n h a.is_wrong)
      go (no h) = omega (arith, h)

  first_once : (n k m j : ℕ) → FirstWrong bad records wrong n k → FirstWrong bad records wrong m j → (n ≡ m) × (k ≡ j)
  first_once n k m j a b =
      let at : j ≡ k = omega (arith, same_place n k m j a b, same_place m j n k b a) in
      let c = subst (FirstWrong bad records wrong m) at b in
      (omega (arith, same_number n m k a c, same_number m n k c a), sym at)

  pub found_once : (n k m j : ℕ) → Found bad records wrong n k → Found bad records wrong m j → (n ≡ m) × (k ≡ j)
  found_once n k m j (bad_length_lem a) (bad_length_lem b) = (refl, refl)
  found_once n k m j (bad_length_lem a) (first_wrong b) = absurd (b.good_length a)
  found_once n k m j (bad_length_lem a) (all_right good b) = absurd (good a)
  found_once n k m j (first_wrong a) (bad_length_lem b) = absurd (a.good_length b)
  found_once n k m j (first_wrong a) (first_wrong b) = first_once n k m j a b
  found_once n k m j (first_wrong a) (all_right good b) = absurd (b k a.in_list n a.is_wrong)
  found_once n k m j (all_right good a) (bad_length_lem b) = absurd (good b)
  found_once n k m j (all_right good a) (first_wrong b) = absurd (a j b.in_list m b.is_wrong)
  found_once n k m j (all_right good a) (all_right well b) = (refl, refl)

  -- what a number says, where the rows have the numbers 2 to 7
  module _ (few : (k n : ℕ) → wrong k n → (2 ≤ n) × (n ≤ 7)) where
    pub found_length : (k : ℕ) → Found bad records wrong 1 k → bad × (k ≡ 0)
    found_length k (bad_length_lem b) = (b, refl)
    found_length k (first_wrong w) = absurd (omega (arith, (few k 1 w.is_wrong).0))

    pub found_right : (k : ℕ) → Found bad records wrong 0 k → (bad → ⊥) × ((i : ℕ) → i < records → (n : ℕ) → wrong i n → ⊥)
    found_right k (first_wrong w) = absurd (omega (arith, (few k 0 w.is_wrong).0))
    found_right k (all_right good r) = (good, r)

    pub found_most : (n k : ℕ) → Found bad records wrong n k → n ≤ 7
    found_most n k (bad_length_lem b) = omega arith
    found_most n k (first_wrong w) = (few k n w.is_wrong).1
    found_most n k (all_right good r) = omega arith

  pub found_wrong : (n k : ℕ) → 2 ≤ n → Found bad records wrong n k → FirstWrong bad records wrong n k
  found_wrong n k h (bad_length_lem b) = absurd (omega arith)
  found_wrong n k h (first_wrong w) = w
  found_wrong n k h (all_right good r) = absurd (omega arith)

-- ---- one record

module _ (wrong : ℕ → ℕ → Type 0) where
  abbrev pub NoneBelow : ℕ → ℕ → Type 0
  NoneBelow k n = (m : ℕ) → m < n → wrong k m → ⊥

  abbrev pub RightAt : ℕ → Type 0
  RightAt k = (n : ℕ) → wrong k n → ⊥

  -- a record is taken only if nothing is wrong with it, and refused only by the lowest number that is
  abbrev pub Judged : ℕ → Record → Type 0
  Judged k (OfTerm t) = RightAt k
  Judged k (OfCourse c) = RightAt k
  Judged k (Faulty f) = wrong k (fault_number f) × NoneBelow k (fault_number f)

  pub one_more : (k n : ℕ) → NoneBelow k n → (wrong k n → ⊥) → NoneBelow k (suc n)
  one_more k n none here m h w = go (ℕ_discrete m n)
    where
      go : Dec (m ≡ n) → ⊥
      go (yes e) = here (subst (wrong k) e w)
      go (no d) = none m (omega (arith, d)) w

  module _ (few : (k n : ℕ) → wrong k n → (2 ≤ n) × (n ≤ 7)) where
    pub none_start : (k : ℕ) → NoneBelow k 2
    none_start k m h w = omega (arith, (few k m w).0)

    pub none_left : (k : ℕ) → NoneBelow k 8 → RightAt k
    none_left k none n w = none n (omega (arith, (few k n w).1)) w

  -- the test of one row, where nothing of a lower number is wrong: it fails by the row, or the row is right and the rest decides
  module _ {A : Type 0} (of : Result A Fault → Record) (is : (f : Fault) → of (Err f) ≡ Faulty f) (k : ℕ) where
    fails : (f : Fault) → wrong k (fault_number f) → NoneBelow k (fault_number f) → Judged k (of (Err f))
    fails f w none = subst (Judged k) (sym (is f)) (w, none)

    pub row : (f : Fault) (b : Bool) (rest : Result A Fault) → Tells b (wrong k (fault_number f)) → NoneBelow k (fault_number f) → (NoneBelow k (suc (fault_number f)) → Judged k (of rest)) → Judged k (of (choose b (Err f) rest))
    row f true rest t none more = fails f (t.0 refl) none
    row f false rest t none more = more (one_more k (fault_number f) none (t.1 refl))

    -- the same of a test that is to pass
    pub row_passed : (f : Fault) (b : Bool) (rest : Result A Fault) → Tells (not b) (wrong k (fault_number f)) → NoneBelow k (fault_number f) → (NoneBelow k (suc (fault_number f)) → Judged k (of rest)) → Judged k (of (choose b rest (Err f)))
    row_passed f true rest t none more = more (one_more k (fault_number f) none (t.1 refl))
    row_passed f false rest t none more = fails f (t.0 refl) none

-- ---- a list whose records are taken one by one

-- Q is what is known of the year behind k records, from which each record is judged by the rows
module _ (wrong : ℕ → ℕ → Type 0) (entry : ℕ → Year → Record) (start : Year) (Q : ℕ → Year → Type 0) (first : Q 0 start)
    (term : (k : ℕ) (y : Year) (t : Term) → Q k y → entry k y ≡ OfTerm t → Q (suc k) (add_term y t))
    (course : (k : ℕ) (y : Year) (c : Course) → Q k y → entry k y ≡ OfCourse c → Q (suc k) (add_course y c))
    (judged : (k : ℕ) (y : Year) → Q k y → Judged wrong k (entry k y)) where
  abbrev Behind : ℕ → Year → Type 0
  Behind k y = Q k y × ((i : ℕ) → i < k → RightAt wrong i)

  right_more : (k : ℕ) → ((i : ℕ) → i < k → RightAt wrong i) → RightAt wrong k → (i : ℕ) → i < suc k → RightAt wrong i
  right_more k so_far here i h = go (ℕ_discrete i k)
    where
      go : Dec (i ≡ k) → RightAt wrong i
      go (yes e) = subst (RightAt wrong) (sym e) here
      go (no d) = so_far i (omega (arith, d))

  behind : (k : ℕ) (y : Year) → gathered entry start k ≡ done y → Behind k y
  behind =
      gathered_keeps entry start Behind (first, λ i h. absurd (omega arith))
      (λ k y t p e. (term k y t p.0 e, right_more k p.1 (subst (Judged wrong k) e (judged k y p.0))))
      (λ k y c p e. (course k y c p.0 e, right_more k p.1 (subst (Judged wrong k) e (judged k y p.0))))

  module _ (bad : Type 0) (records : ℕ) where
    abbrev pub FoundFor : Result Year Refusal → Type 0
    FoundFor r = Found bad records wrong (reading_number r) (reading_place r)

    found_records : (bad → ⊥) → (r : Result Year Refusal) → gathered entry start records ≡ r → FoundFor r
    found_records good (Ok y) e = all_right good (behind records y e).1
    found_records good (Err q) e =
        let r = first_fault entry start records q.fault q.record e in
        let p = behind q.record r.1.so_far r.1.taken_before in
        let j : Judged wrong q.record (Faulty q.fault) = subst (Judged wrong q.record) r.1.fault_here (judged q.record r.1.so_far p.0) in
        first_wrong (record { good_length = good; in_list = r.0; before_right = p.1; is_wrong = j.0; none_lower = j.1 })

    -- what the list is answered by is what the rows say
    pub found_by : (test : Bool) → Tells test bad → FoundFor (listed test entry start records)
    found_by true t = bad_length_lem (t.0 refl)
    found_by false t = found_records (t.1 refl) (gathered entry start records) refl

    -- also where its year is handed back with the sums
    pub found_summed : (test : Bool) → Tells test bad → FoundFor (summed (listed test entry start records))
    found_summed test t = go (listed test entry start records) (found_by test t)
      where
        go : (r : Result Year Refusal) → FoundFor r → FoundFor (summed r)
        go (Ok y) f = f
        go (Err q) f = f
