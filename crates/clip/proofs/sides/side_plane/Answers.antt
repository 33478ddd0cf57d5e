-- From the origin of the half-edge to that of the next.
use Rattle.clip.specs.Candidates.{side_plane_of}
use Rattle.clip.proofs.sides.side_plane.Goals as goal

pub returns : goal.returns
unfolding side_plane_of
returns c = simp (
  c.make_plane_from_normal_and_point.ensures,
  c.cross.ensures,
  c.normalize-tangent.ensures,
  c.sub.ensures,
  c.vertex_at-vertex2.ensures,
  c.origin_of-2.ensures,
  c.vertex_at-vertex1.ensures,
  c.origin_of.ensures,
  c.next_of-ahead.ensures,
)
