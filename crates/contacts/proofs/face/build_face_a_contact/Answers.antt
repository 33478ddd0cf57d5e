-- `build_face_a_contact`: a vertex that B does not have, a 65th corner, or the contact of all candidates.
use Rattle.contacts.proofs.Cases.{past_vertices, cut_full, cut_whole}
use Rattle.contacts.proofs.face.build_face_a_contact.Goals as goal

pub returns-then-v-b : goal.returns-then-v-b
returns-then-v-b c = past_vertices _ _ _ _ _ _ _ _ _ c.if-v-b.true

pub returns-then-kept-gt64 : goal.returns-then-kept-gt64
returns-then-kept-gt64 c = cut_full _ _ _ _ _ _ _ _ _ c.if-v-b.false _ _ _ c.candidates-kept.ensures c.if-kept-gt64.true

pub returns : goal.returns
returns c =
    cut_whole _ _ _ _ _ _ _ _ _ c.if-v-b.false _ _ _ c.candidates-kept.ensures c.if-kept-gt64.false _ c.plane_at-plane.ensures _ c.on_face.ensures
