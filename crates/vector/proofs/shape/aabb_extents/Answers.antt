-- `aabb_extents`: each call answers its own definition, and together they are this one.
use Rattle.vector.specs.Shape.{extents_of}
use Rattle.vector.proofs.shape.aabb_extents.Goals as goal

pub returns : goal.returns
unfolding extents_of
returns c = simp (c.mul_sv.ensures, c.sub.ensures)
