-- `refused`: an empty contact, and the cache as it is.
use Rattle.collide_outcome.proofs.refused.Goals as goal

pub returns : goal.returns
returns c = simp c.empty_contact-empty.ensures
