-- Inner: all that a reading is computed by, under one name. `unfolding computing` lets a closed reading compute, sums included.
use Rattle.year.specs.Computing.{computing as computingYear}
use Rattle.records.specs.Reading.{term_by_itself, course_by, term_record, course_record, record_at, gathered, read_list}

unfoldable pub computing : Unit {0}
unfolding computingYear term_by_itself course_by term_record course_record record_at gathered read_list
computing = tt
