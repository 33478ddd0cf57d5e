-- `plane_separation`: each call answers its own definition, and together they are this one.
use Rattle.vector.specs.Shape.{plane_separation_of}
use Rattle.vector.proofs.shape.plane_separation.Goals as goal

pub returns : goal.returns
unfolding plane_separation_of
returns c = simp c.dot.ensures
