-- `is_near_one`: the limits are the definition's.
use Rattle.hull_limits.specs.Measures.{near_one}
use Rattle.hull_limits.proofs.is_near_one.Goals as goal

pub returns : goal.returns
unfolding near_one
returns c = c.is_inside.ensures
