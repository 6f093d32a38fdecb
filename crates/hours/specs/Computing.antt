-- Inner: all that a joining is computed by, under one name. `unfolding computing` lets a closed joining compute.
use Rattle.records.specs.Computing.{computing as computingReading}
use Rattle.hours.specs.Entries.{hours_by_itself, hours_record, term_alone}
use Rattle.hours.specs.Joining.{term_list, hours_list, join_of}

unfoldable pub computing : Unit {0}
unfolding computingReading hours_by_itself hours_record term_alone term_list hours_list join_of
computing = tt
