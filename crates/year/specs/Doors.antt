-- How years come to be: the empty one, one with its sums, and the two doors: one term's bounds replaced, one course's list replaced.
use Rattle.std.specs.Prelude.{ℕ, ◌-◌, ◌^◌, replicate, set}
use Rattle.theory.specs.Tab.{tab}
use Rattle.year.specs.Year.{zero_term, list}
use Rattle.year.specs.Sums.{no_sums, sums_at}
use Rattle.year.specs.declared.Term.{Term}
use Rattle.year.specs.declared.Year.{Year}

-- the year of one term, all bounds 0, no course
abbrev pub empty_year : Year
empty_year = record {
  terms = 1;
  courses = 0;
  term = replicate 16 zero_term;
  weight = replicate 64 0;
  list = replicate 64 0;
  sums = replicate 16 no_sums;
}

-- the year with the sums over its lists, of sixteen terms
abbrev pub with_sums : Year → Year
with_sums y = record {
  terms = y.terms;
  courses = y.courses;
  term = y.term;
  weight = y.weight;
  list = y.list;
  sums = tab 16 (sums_at y);
}

-- the year with other bounds of term j
abbrev pub with_term : Year → ℕ → Term → Year
with_term y j t = record {
  terms = y.terms;
  courses = y.courses;
  term = set y.term j t;
  weight = y.weight;
  list = y.list;
  sums = y.sums;
}

-- the year with another list of course i, and the sums that this makes
abbrev pub with_list : Year → ℕ → ℕ → Year
with_list y i l =
    with_sums (record {
      terms = y.terms;
      courses = y.courses;
      term = y.term;
      weight = y.weight;
      list = set y.list i l;
      sums = y.sums;
    })

-- course i in term j alone, and course i without term j
abbrev pub placed : Year → ℕ → ℕ → Year
placed y i j = with_list y i (2 ^ j)

abbrev pub struck : Year → ℕ → ℕ → Year
struck y i j = with_list y i (list y i - 2 ^ j)
