-- From the vertex to the origin of the twin.
use Rattle.clip_incident.specs.Incident.{projection_of}
use Rattle.clip_incident.proofs.projection.Goals as goal

pub returns : goal.returns
unfolding projection_of
returns c = simp (
  c.abs_float.ensures,
  c.dot.ensures,
  c.normalize.ensures,
  c.sub.ensures,
  c.vertex_at-end.ensures,
  c.origin_of.ensures,
  c.twin_of-twin.ensures,
)
