-- `bias`: each call answers its own definition, and together they are this one.
use Rattle.axis_faces.specs.Faces.{bias_of}
use Rattle.axis_faces.proofs.View.bias.Goals as goal

pub returns : goal.returns
unfolding bias_of
returns c = simp (c.dot-2.ensures, c.abs.ensures, c.dot.ensures)
