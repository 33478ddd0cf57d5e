-- `reach`: the call answers its own definition, and the rest is the definition's own expression.
use Rattle.reduce_scores.specs.Scores.{reach_of}
use Rattle.reduce_scores.proofs.reach.Goals as goal

pub returns : goal.returns
unfolding reach_of
returns c = simp c.dot.ensures
