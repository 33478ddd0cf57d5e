-- `make_plane_from_normal_and_point`: each call answers its own definition, and together they are this one.
use Rattle.vector.specs.Shape.{plane_of}
use Rattle.vector.proofs.shape.make_plane_from_normal_and_point.Goals as goal

pub returns : goal.returns
unfolding plane_of
returns c = simp c.dot.ensures
