-- `separation`: each call answers its own definition, and together they are this one.
use Rattle.axis_edges.specs.Edges.{edge_separation_of}
use Rattle.axis_edges.proofs.Vectors.{add_is}
use Rattle.axis_edges.proofs.separation.Goals as goal

pub returns : goal.returns
unfolding edge_separation_of
returns c = simp (c.dot_right.ensures, c.add.ensures, add_is)
