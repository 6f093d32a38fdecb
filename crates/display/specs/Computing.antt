-- Inner: all that a listing is computed by, under one name. `unfolding computing` lets a closed listing compute.
use Rattle.text.specs.Text.{places_of, decimal_of, numbers_of, row_of, line_of, terms_to, commas_of, terms_of}
use Rattle.records.specs.Computing.{computing as computingReading}
use Rattle.records.specs.Writing.{joined}
use Rattle.filter.specs.Computing.{computing as computingFilter}
use Rattle.display.specs.Listing.{term_line, course_line, year_text, listing_of, listed_of, listed_in}

unfoldable pub computing : Unit {0}
unfolding computingReading computingFilter places_of decimal_of numbers_of row_of line_of terms_to commas_of terms_of joined term_line course_line
    year_text listing_of listed_of listed_in
computing = tt
