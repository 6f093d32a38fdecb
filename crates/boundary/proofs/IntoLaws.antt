-- A year filtered or narrowed into a buffer: what writing asks, and the kinds that no narrowing has.
use Prim.Native.Nat.{ℕ, ◌+◌, ◌*◌, ◌≤◌, ◌<◌}
use mathlib.Core.Path.{◌≡◌, refl}
use native.Mathlib.Omega.{arith}
use borrow.Author.Tests.{ne_eqb}
use Rattle.std.specs.Prelude.{Err}
use Rattle.year.specs.Narrow.{answered}
use Rattle.year.specs.Sound.{Sound}
use Rattle.year.specs.declared.NarrowingRefusal.TheVariants.{Missing}
use Rattle.year.specs.declared.Year.{Year}
use Rattle.filter.specs.Filter.{filter_of}
use Rattle.filter.specs.declared.Filtered.{Filtered}
use Rattle.filter.proofs.RoundLaws.{filter_narrower}
use Rattle.boundary.specs.Calls.{narrow_of}

-- the filtered year is sound, and its records are as many
pub filtered_fits : (y : Year) (f : Filtered) → f ≡ filter_of y → Sound y → (room : ℕ) → (y.terms + y.courses) * 16 ≤ room → Sound f.year × ((f.year.terms + f.year.courses) * 16 ≤ room)
filtered_fits y f is s room h =
    let a = filter_narrower y s in
    rw is (a.sound, rw (a.terms_same, a.courses_same) h)

-- of a kind past the last there is no narrowing
pub no_kind : (y : Year) (kind i j : ℕ) → 5 < kind → narrow_of y kind i j ≡ answered (Err Missing) y
unfolding narrow_of
no_kind y kind i j h =
    rw (
      ne_eqb kind 0 (omega (arith, h)),
      ne_eqb kind 1 (omega (arith, h)),
      ne_eqb kind 2 (omega (arith, h)),
      ne_eqb kind 3 (omega (arith, h)),
      ne_eqb kind 4 (omega (arith, h)),
      ne_eqb kind 5 (omega (arith, h)),
    )
    refl
