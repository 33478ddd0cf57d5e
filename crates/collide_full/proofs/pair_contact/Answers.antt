-- `pair_contact`: the normal and the numbers of the axis, handed on.
use Rattle.collide_full.specs.Full.{pair_contact}
use Rattle.collide_full.proofs.pair_contact.Goals as goal

pub returns : goal.returns
unfolding pair_contact
returns c = c.build_edge_contact.ensures
