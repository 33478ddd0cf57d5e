-- `aabb_center`: each call answers its own definition, and together they are this one.
use Rattle.vector.specs.Shape.{center_of}
use Rattle.vector.proofs.shape.aabb_center.Goals as goal

pub returns : goal.returns
unfolding center_of
returns c = simp (c.mul_sv.ensures, c.add.ensures)
