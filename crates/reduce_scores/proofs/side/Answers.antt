-- `side`: each call answers its own definition, and together they are this one.
use Rattle.reduce_scores.specs.Scores.{side_of}
use Rattle.reduce_scores.proofs.side.Goals as goal

pub returns : goal.returns
unfolding side_of
returns c = simp (c.dot.ensures, c.cross.ensures, c.sub.ensures)
