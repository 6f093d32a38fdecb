-- Inner: all that soundness, the sums and a move are computed by, under one name. `unfolding computing` lets a closed year compute.
use Rattle.theory.specs.Sum.{sum}
use Rattle.theory.specs.Tab.{tab}
use Rattle.theory.specs.Tests.{all}
use Rattle.year.specs.Bound.{tightened}
use Rattle.year.specs.Narrow.{tighten_of}
use Rattle.year.specs.Sums.{fixed_credits, open_credits, fixed_count, open_count, sums_at}
use Rattle.year.specs.Sound.{sound_but_sums, is_sound}
use Rattle.year.specs.ByHand.{summed_of}

unfoldable pub computing : Unit {0}
unfolding sum tab all fixed_credits open_credits fixed_count open_count sums_at sound_but_sums is_sound summed_of tightened tighten_of
computing = tt
