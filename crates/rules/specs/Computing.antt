-- Inner: all that a round and its reasons are computed by, under one name. `unfolding computing` lets a closed example compute.
use Rattle.theory.specs.Sum.{sum}
use Rattle.theory.specs.Others.{others}
use Rattle.theory.specs.Largest.{largest}
use Rattle.theory.specs.Tests.{any, all}
use Rattle.theory.specs.Tab.{tab}
use Rattle.theory.specs.Fold.{fold}
use Rattle.theory.specs.Order.{rank, order_to, keep}
use Rattle.theory.specs.Walk.{walk}
use Rattle.theory.specs.Packing.{share}
use Rattle.theory.specs.Neighbours.{neighbours, fires}
use Rattle.year.specs.Sums.{fixed_credits, open_credits, fixed_count, open_count, all_credits, is_placed, all_placed}
use Rattle.year.specs.Bound.{tightened}
use Rattle.rules.specs.Step.{move}
use Rattle.rules.specs.Bounds.{rule1, rule2, rule4, rule5}
use Rattle.rules.specs.Lists.{verdict3, rule3_course, rule3, verdict10, rule10_course, rule10}
use Rattle.rules.specs.Spares.{spares, blocked, charged, walk_of, down, up, least_count, most_count, least_load, most_load}
use Rattle.rules.specs.Packing.{shares, rule11}
use Rattle.rules.specs.Neighbours.{verdict12, rule12_course, rule12}
use Rattle.rules.specs.Thresholds.{rule11_at_sizes}
use Rattle.rules.specs.Round.{round}
use Rattle.rules.specs.Reasons.{reason11}
use Rattle.rules.specs.FactAt.{in_order, stretch_of}

unfoldable words : Unit {0}
unfolding sum others largest any all tab fold rank order_to keep walk share neighbours fires
words = tt

unfoldable sums : Unit {0}
unfolding fixed_credits open_credits fixed_count open_count all_credits is_placed all_placed tightened move
sums = tt

unfoldable on_lists : Unit {0}
unfolding verdict3 rule3_course rule3 verdict10 rule10_course rule10 verdict12 rule12_course rule12
on_lists = tt

unfoldable by_walks : Unit {0}
unfolding spares blocked charged walk_of down up least_count most_count least_load most_load
by_walks = tt

unfoldable pub computing : Unit {0}
unfolding words sums rule1 rule2 rule4 rule5 on_lists by_walks shares rule11 rule11_at_sizes round reason11 in_order stretch_of
computing = tt
