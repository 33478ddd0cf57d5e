-- `transform_point`: each call answers its own definition, and together they are this one.
use Rattle.rotation.specs.Rotation.{transform_point_of}
use Rattle.rotation.proofs.transform_point.Goals as goal

pub returns : goal.returns
unfolding transform_point_of
returns c = simp (c.add.ensures, c.rotate_vector.ensures)
