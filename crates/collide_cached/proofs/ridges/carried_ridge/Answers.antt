-- `carried_ridge`: the calls are the definition.
use Rattle.collide_cached.specs.Ridges.{edge_at, carried_ridge}
use Rattle.collide_cached.proofs.ridges.carried_ridge.Goals as goal

pub returns : goal.returns
unfolding edge_at carried_ridge
returns c =
    simp (
      c.rotate_vector-2.ensures,
      c.rotate_vector.ensures,
      c.sub.ensures,
      c.transform_point.ensures,
      c.transform_point-end.ensures,
      c.edge_at-edge.ensures,
    )
