-- `between`: each call answers its own definition, and together they are this one.
use Rattle.axis_edges.specs.Edges.{between_of}
use Rattle.vector.specs.Arithmetic.{sub_of, mul_add_of}
use Rattle.axis_edges.proofs.between.Goals as goal

pub returns : goal.returns
unfolding between_of sub_of mul_add_of
returns c = simp (c.mul_add.ensures, c.sub.ensures)
