-- `axis`: each call answers its own definition, and together they are this one.
use Rattle.axis_edges.specs.Edges.{axis_across_of}
use Rattle.axis_edges.proofs.axis.Goals as goal

pub returns : goal.returns
unfolding axis_across_of
returns c = simp (c.root-inv.ensures.worked, c.dot_right.ensures, c.between-n.ensures)
