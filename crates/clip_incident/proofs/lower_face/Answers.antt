-- The face of a half-edge and that of its twin, by one test.
use Rattle.clip_incident.specs.Incident.{lower_face_of}
use Rattle.clip_incident.proofs.lower_face.Goals as goal

pub returns-then-dot : goal.returns-then-dot
unfolding lower_face_of
returns-then-dot c = simp (
  simp (
    c.dot.ensures,
    c.dot-2.ensures,
    c.plane_at-plane2.ensures,
    c.plane_at-plane1.ensures,
    c.face_of-face2.ensures,
    c.twin_of.ensures,
    c.face_of-face1.ensures,
  )
      at c.if-dot.true,
  c.face_of-face1.ensures,
)

pub returns : goal.returns
unfolding lower_face_of
returns c = simp (
  simp (
    c.dot.ensures,
    c.dot-2.ensures,
    c.plane_at-plane2.ensures,
    c.plane_at-plane1.ensures,
    c.face_of-face2.ensures,
    c.twin_of.ensures,
    c.face_of-face1.ensures,
  )
      at c.if-dot.false,
  c.face_of-face2.ensures,
  c.twin_of.ensures,
)
