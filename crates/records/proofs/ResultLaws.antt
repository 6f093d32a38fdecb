-- A Result m that is another, r, with each error under g, as `map_err` gives it: what stands in r where it is known what m is.
use mathlib.Core.Bool.{true≢false}
use mathlib.Core.Path.{◌≡◌, refl, sym, ap, ◌∙◌}
use Rattle.std.specs.Prelude.{Result, Ok, Err, is_ok, MatchResult}

module _ {T E D : Type 0} (r : Result T E) (m : Result T D) (same : is_ok m ≡ is_ok r) where
  pub error_of : (g : E → D) → ((e : E) → r ≡ Err e → m ≡ Err (g e)) → (d : D) → m ≡ Err d → (e : E) × (r ≡ Err e) × (d ≡ g e)
  error_of g h d = go r same h
    where
      go : (r : Result T E) → is_ok m ≡ is_ok r → ((e : E) → r ≡ Err e → m ≡ Err (g e)) → m ≡ Err d → (e : E) × (r ≡ Err e) × (d ≡ g e)
      go (Ok x) v h i = absurd (true≢false (sym v ∙ ap is_ok i))
      go (Err e) v h i =
          let j : ◌≡◌ {A = Result T D} (Err d) (Err (g e)) = sym i ∙ h e refl in
          let k : d ≡ g e = cc in
          (e, refl, k)

  pub value_of : (P : E → Type 0) → MatchResult r (λ x. m ≡ Ok x) P → (t : T) → m ≡ Ok t → r ≡ Ok t
  value_of P h t = go r same h
    where
      go : (r : Result T E) → is_ok m ≡ is_ok r → MatchResult r (λ x. m ≡ Ok x) P → m ≡ Ok t → r ≡ Ok t
      go (Ok x) v h i =
          let j : ◌≡◌ {A = Result T D} (Ok x) (Ok t) = sym h ∙ i in
          let k : x ≡ t = cc in
          ap Ok k
      go (Err e) v h i = absurd (true≢false (sym (ap is_ok i) ∙ v))
