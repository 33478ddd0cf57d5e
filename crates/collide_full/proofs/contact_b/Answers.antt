-- `contact_b`: the numbers of the axis, handed on.
use Rattle.collide_full.specs.Full.{contact_b}
use Rattle.collide_full.proofs.contact_b.Goals as goal

pub returns : goal.returns
unfolding contact_b
returns c = c.build_face_b_contact.ensures
