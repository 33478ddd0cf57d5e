-- `contact_a`: the numbers of the axis, handed on.
use Rattle.collide_full.specs.Full.{contact_a}
use Rattle.collide_full.proofs.contact_a.Goals as goal

pub returns : goal.returns
unfolding contact_a
returns c = c.build_face_a_contact.ensures
