-- `near`: the calls are the definition, one after the other.
use Rattle.collide_outcome.specs.Served.{near_of}
use Rattle.collide_outcome.proofs.near.Goals as goal

pub returns : goal.returns
unfolding near_of
returns c = simp (c.linear_slop.ensures, c.abs_float.ensures, c.float_of-2.ensures, c.float_of.ensures)
