-- `speculative_distance`: the definition's own product.
use Rattle.units.specs.Limits.{speculative}
use Rattle.units.proofs.speculative_distance.Goals as goal

pub returns : goal.returns
unfolding speculative
returns c = simp c.linear_slop.ensures
