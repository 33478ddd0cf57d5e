-- The incident face is in range, and it is the one of the definition.
use Rattle.clip.specs.Candidates.{candidates_of}
use Rattle.hull.proofs.Hulls.{below}
use Rattle.clip_incident.proofs.Fans.{incident_in}
use Rattle.clip.proofs.candidates.Goals as goal

pub clip_to_face-requires : goal.clip_to_face-requires
clip_to_face-requires c = let p = c.requires in
    (p.0, p.1, p.2, below _ _ _ c.find_incident_face-incident.ensures (incident_in _ _ _ p.1 _ _ p.3))

pub returns : goal.returns
unfolding candidates_of
returns c = rw (
  c.find_incident_face-incident.ensures,
  c.inv_rotate_vector-normal.ensures,
  c.plane_at-reference.ensures,
) at c.clip_to_face.ensures
