-- `plane_right`: each call answers its own definition, and together they are this one.
use Rattle.hull_limits.specs.Measures.{plane_right}
use Rattle.hull_limits.proofs.Joined.{and2}
use Rattle.hull_limits.proofs.plane_right.Goals as goal

pub returns : goal.returns
unfolding plane_right
returns c = and2 c.is_near_one.ensures c.is_within.ensures
