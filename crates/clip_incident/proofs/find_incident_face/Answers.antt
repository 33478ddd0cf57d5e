-- The lower face of the flattest half-edge, which is in range.
use Rattle.clip_incident.specs.Incident.{incident_face_of}
use Rattle.hull.proofs.Hulls.{below}
use Rattle.clip_incident.proofs.Fans.{flattest_in}
use Rattle.clip_incident.proofs.find_incident_face.Goals as goal

pub lower_face-requires : goal.lower_face-requires
lower_face-requires c = let p = c.requires in
    (p.0, below _ _ _ c.flattest_edge.ensures (flattest_in _ _ _ p.0 _ _ p.1))

pub returns : goal.returns
unfolding incident_face_of
returns c = simp (c.lower_face.ensures, c.flattest_edge.ensures)
