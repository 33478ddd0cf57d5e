-- `inv_transform_point`: each call answers its own definition, and together they are this one.
use Rattle.rotation.specs.Rotation.{inv_transform_point_of}
use Rattle.rotation.proofs.inv_transform_point.Goals as goal

pub returns : goal.returns
unfolding inv_transform_point_of
returns c = simp (c.inv_rotate_vector.ensures, c.sub.ensures)
