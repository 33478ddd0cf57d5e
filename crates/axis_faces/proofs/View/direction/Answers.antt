-- `direction`: turned, then negated.
use Rattle.axis_faces.specs.Faces.{direction_of}
use Rattle.axis_faces.proofs.View.direction.Goals as goal

pub returns : goal.returns
unfolding direction_of
returns c = simp (c.neg.ensures, c.mul_mv.ensures)
