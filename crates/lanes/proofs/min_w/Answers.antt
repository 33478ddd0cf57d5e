-- `min_w`: each call answers its own definition, and together they are this one.
use Rattle.lanes.specs.Lanes.{least_w_of}
use Rattle.lanes.proofs.min_w.Goals as goal

pub returns : goal.returns
unfolding least_w_of
returns c = simp (c.least-4.ensures.least, c.least-3.ensures.least, c.least-2.ensures.least, c.least.ensures.least)
