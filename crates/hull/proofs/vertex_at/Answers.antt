-- `vertex_at`: the numbers read are those of the definition.
use Rattle.hull.specs.Numbers.{vertex_at}
use Rattle.hull.proofs.vertex_at.Goals as goal

pub returns : goal.returns
unfolding vertex_at
returns c = rw c.padded-p.ensures
