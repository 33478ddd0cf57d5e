-- `edge_of_a`: links in range, and each accessor answers its own definition.
use Rattle.axis_edges.specs.Edges.{edge_of_a}
use Rattle.axis_edges.proofs.Vectors.{sub_is}
use Rattle.axis_edges.proofs.edge_of_a.Goals as goal

pub returns : goal.returns
unfolding edge_of_a
returns c =
    simp (
      c.sub.ensures,
      sub_is,
      c.plane_at-plane1.ensures,
      c.face_of-2.ensures,
      c.plane_at-plane0.ensures,
      c.face_of.ensures,
      c.vertex_at-to.ensures,
      c.origin_of-2.ensures,
      c.vertex_at-from.ensures,
      c.origin_of.ensures,
    )
