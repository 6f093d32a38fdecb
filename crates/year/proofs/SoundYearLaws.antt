-- What the test of a year tells: the year inside is this very year, and one that gives none is not sound.
use mathlib.Core.Bool.{Bool, true, false}
use mathlib.Core.Path.{◌≡◌, refl, sym, ap, ◌∙◌}
use Rattle.std.specs.Prelude.{Option, Some, None}
use Rattle.theory.specs.Choice.{choose}
use Rattle.year.specs.Sound.{is_sound}
use Rattle.year.specs.SoundYear.{if_sound, year_inside}
use Rattle.year.specs.declared.Year.{Year}
use Rattle.year.specs.declared.SoundYear.{SoundYear}

module _ (y : Year) (r : Option SoundYear) (told : year_inside r ≡ if_sound y) where
  pub inside_same : (s : SoundYear) → r ≡ Some s → s.year ≡ y
  inside_same s e = go (is_sound y) (sym (ap year_inside e) ∙ told)
    where
      go : (b : Bool) → Some s.year ≡ choose b (Some y) None → s.year ≡ y
      go true p = cc
      go false p = cc

  pub none_unsound : r ≡ None → is_sound y ≡ false
  none_unsound e = go (is_sound y) (sym (ap year_inside e) ∙ told)
    where
      go : (b : Bool) → ◌≡◌ {A = Option Year} None (choose b (Some y) None) → b ≡ false
      go true p = cc
      go false p = refl
