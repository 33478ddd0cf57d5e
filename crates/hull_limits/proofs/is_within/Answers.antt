-- `is_within`: the limits are the definition's.
use Rattle.hull_limits.specs.Measures.{within_limit}
use Rattle.hull_limits.proofs.is_within.Goals as goal

pub returns : goal.returns
unfolding within_limit
returns c = c.is_inside.ensures
