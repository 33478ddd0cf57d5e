-- `plane_at`: the numbers read are those of the definition.
use Rattle.hull.specs.Numbers.{plane_at}
use Rattle.hull.proofs.plane_at.Goals as goal

pub returns : goal.returns
unfolding plane_at
returns c = rw c.planes_from.ensures
