-- The four vectors of the lists that the links name.
use Rattle.axis_pairs.specs.inner.Pairs.{edge_in}
use Rattle.axis_edges.proofs.Vectors.{sub_is}
use Rattle.axis_pairs.proofs.edge_of_b.Goals as goal

pub returns : goal.returns
unfolding edge_in
returns c = simp (
  c.vector_in-2.ensures,
  c.face_of-2.ensures,
  c.vector_in.ensures,
  c.face_of.ensures,
  c.sub.ensures,
  sub_is,
  c.vector_in-to.ensures,
  c.origin_of-2.ensures,
  c.vector_in-from.ensures,
  c.origin_of.ensures,
)
