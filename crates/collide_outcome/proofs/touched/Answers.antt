-- `touched`: the record of the definition, with the bits of the separation.
use Rattle.collide_outcome.specs.Builds.{touched_of}
use Rattle.collide_outcome.proofs.touched.Goals as goal

pub returns : goal.returns
unfolding touched_of
returns c = simp c.bits_of.ensures
