-- The least of finite lanes is finite, so its bits may be read.
use Rattle.bounds.specs.LowBits.{index_of}
use Rattle.bounds.proofs.Laws.{no_nan}
use Rattle.lanes.specs.Lanes.{min_index_of}
use Rattle.lanes.proofs.min_index_w.Goals as goal

pub float_to_bits-result : goal.float_to_bits-result
float_to_bits-result c = no_nan _ c.least-m.ensures.bounded

pub returns : goal.returns
unfolding min_index_of index_of
returns c = simp (c.least-m.ensures.lesser, c.least-2.ensures.lesser, c.least.ensures.lesser)
