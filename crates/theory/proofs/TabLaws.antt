-- Laws of a list by its entries, and the loop that fills an array entry by entry.
use Prim.Native.Nat.{ℕ, zero, suc, ◌+◌, ◌≤◌, ◌<◌}
use mathlib.Core.List.{List, ◌∷◌, map}
use mathlib.Core.Path.{◌≡◌, refl, ap, ap₂, sym, ◌∙◌}
use native.Mathlib.Numerals.{add-one}
use native.Mathlib.Decide.{ℕ_discrete, dec_lt}
use native.Mathlib.Omega.{arith}
use lib.ListN.{length, get_or, set, replicate, length-set, length-replicate}
use lib.Seq.{ext_get_or, get_or-set_same, get_or-set_other}
use Rattle.theory.specs.Tab.{tab}

pub length_tab : {A : Type 0} (n : ℕ) (f : ℕ → A) → length (tab n f) ≡ n
unfolding tab
length_tab zero f = refl
length_tab (suc n) f = ap suc (length_tab n (λ k. f (suc k)))

pub get_or_tab : {A : Type 0} (n : ℕ) (f : ℕ → A) (d : A) (k : ℕ) → k < n → get_or (tab n f) k d ≡ f k
unfolding tab
get_or_tab zero f d k l = absurd (omega arith)
get_or_tab (suc n) f d zero l = refl
get_or_tab (suc n) f d (suc k) l = get_or_tab n (λ k. f (suc k)) d k (omega arith)

-- the list l with f k stored at each k below n, in rising order
unfoldable pub fill : {A : Type 0} → (ℕ → A) → List A → ℕ → List A
fill f l zero = l
fill f l (suc n) = set (fill f l n) n (f n)

pub fill_more : {A : Type 0} (f : ℕ → A) (l : List A) (n : ℕ) → fill f l (n + 1) ≡ set (fill f l n) n (f n)
unfolding fill
fill_more f l n = rw add-one

pub length_fill : {A : Type 0} (f : ℕ → A) (l : List A) (n : ℕ) → length (fill f l n) ≡ length l
unfolding fill
length_fill f l zero = refl
length_fill f l (suc n) = length-set (fill f l n) n (f n) ∙ length_fill f l n

pub get_or_fill : {A : Type 0} (f : ℕ → A) (l : List A) (d : A) (n k : ℕ) → k < n → n ≤ length l → get_or (fill f l n) k d ≡ f k
unfolding fill
get_or_fill f l d zero k h m = absurd (omega arith)
get_or_fill f l d (suc n) k h m = go (ℕ_discrete k n) (λ q. get_or_fill f l d n k q (omega arith))
  where
    go : Dec (k ≡ n) → (k < n → get_or (fill f l n) k d ≡ f k) → get_or (set (fill f l n) n (f n)) k d ≡ f k
    go (yes e) ih = rw e (get_or-set_same (fill f l n) n (f n) d (omega (arith, length_fill f l n)))
    go (no ne) ih = get_or-set_other (fill f l n) n k (f n) d ne ∙ ih (omega arith)

pub get_or_fill_past : {A : Type 0} (f : ℕ → A) (l : List A) (d : A) (n k : ℕ) → n ≤ k → get_or (fill f l n) k d ≡ get_or l k d
unfolding fill
get_or_fill_past f l d zero k h = refl
get_or_fill_past f l d (suc n) k h = get_or-set_other (fill f l n) n k (f n) d (λ e. absurd (omega arith)) ∙ get_or_fill_past f l d n k (omega arith)

-- an array that holds what is stored from m on already, and is filled below m, is the list of it
pub fill_front : {A : Type 0} (f : ℕ → A) (l : List A) (d : A) (n m : ℕ) → length l ≡ n → m ≤ n → ((k : ℕ) → m ≤ k → k < n → get_or l k d ≡ f k) → fill f l m ≡ tab n f
fill_front f l d n m e h past =
    ext_get_or d (fill f l m) (tab n f) (length_fill f l m ∙ e ∙ sym (length_tab n f))
    (λ k q. let b : k < n = omega (arith, length_fill f l m) in go k b (dec_lt k m) ∙ sym (get_or_tab n f d k b))
  where
    go : (k : ℕ) → k < n → Dec (k < m) → get_or (fill f l m) k d ≡ f k
    go k b (yes a) = get_or_fill f l d m k a (omega arith)
    go k b (no a) = get_or_fill_past f l d m k (omega (arith, a)) ∙ past k (omega (arith, a)) b

-- an array that is filled whole is the list of what was stored
pub fill_all : {A : Type 0} (f : ℕ → A) (l : List A) (d : A) (n : ℕ) → length l ≡ n → fill f l n ≡ tab n f
fill_all f l d n e = fill_front f l d n n e (omega arith) (λ k h b. absurd (omega arith))

-- an array of n equal entries, filled below k
module _ {A : Type 0} (z : A) (n : ℕ) (f : ℕ → A) (s : List A) (k : ℕ) (e : s ≡ fill f (replicate n z) k) where
  pub filling_long : length s ≡ n
  filling_long = ap length e ∙ length_fill f (replicate n z) k ∙ length-replicate n z

  pub filling_more : (x : A) → x ≡ f k → set s k x ≡ fill f (replicate n z) (k + 1)
  filling_more x q = ap₂ (λ r v. set r k v) e q ∙ sym (fill_more f (replicate n z) k)

  pub filling_ends : k ≡ n → s ≡ tab n f
  filling_ends is = e ∙ ap (fill f (replicate n z)) is ∙ fill_all f (replicate n z) z n (length-replicate n z)

-- a list of n entries is the list of its entries
pub tab_get_or : {A : Type 0} (l : List A) (d : A) (n : ℕ) → length l ≡ n → tab n (λ k. get_or l k d) ≡ l
tab_get_or l d n e = ext_get_or d (tab n (λ k. get_or l k d)) l (length_tab n _ ∙ sym e) (λ k h. get_or_tab n _ d k (omega (arith, length_tab n (λ k. get_or l k d))))

pub map_tab : {A B : Type 0} (n : ℕ) (f : A → B) (g : ℕ → A) → map f (tab n g) ≡ tab n (λ k. f (g k))
unfolding tab
map_tab zero f g = refl
map_tab (suc n) f g = ap (λ l. f (g 0) ∷ l) (map_tab n f (λ k. g (suc k)))

-- two functions that agree below n have the same list
pub tab_cong : {A : Type 0} (n : ℕ) (f g : ℕ → A) → ((k : ℕ) → k < n → f k ≡ g k) → tab n f ≡ tab n g
unfolding tab
tab_cong zero f g h = refl
tab_cong (suc n) f g h = ap₂ ◌∷◌ (h 0 (omega arith)) (tab_cong n (λ k. f (suc k)) (λ k. g (suc k)) (λ k l. h (suc k) (omega arith)))

-- one entry stored in a list of entries
pub set_tab : {A : Type 0} (n : ℕ) (f g : ℕ → A) (d : A) (i : ℕ) → ((k : ℕ) → k < n → (k ≡ i → ⊥) → f k ≡ g k) → set (tab n f) i (g i) ≡ tab n g
set_tab n f g d i h =
    ext_get_or d (set (tab n f) i (g i)) (tab n g) (length-set (tab n f) i (g i) ∙ length_tab n f ∙ sym (length_tab n g))
    (λ k l. let b : k < n = omega (arith, length-set (tab n f) i (g i), length_tab n f) in go k b (ℕ_discrete k i) ∙ sym (get_or_tab n g d k b))
  where
    go : (k : ℕ) → k < n → Dec (k ≡ i) → get_or (set (tab n f) i (g i)) k d ≡ g k
    go k b (yes e) = rw e (get_or-set_same (tab n f) i (g i) d (omega (arith, length_tab n f)))
    go k b (no ne) = get_or-set_other (tab n f) i k (g i) d ne ∙ get_or_tab n f d k b ∙ h k b ne
