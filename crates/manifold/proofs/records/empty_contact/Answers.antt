-- `empty_contact`: each call answers its own definition, and together they are this one.
use Rattle.manifold.proofs.records.empty_contact.Goals as goal

pub returns : goal.returns
returns c = simp c.unused_point.ensures
