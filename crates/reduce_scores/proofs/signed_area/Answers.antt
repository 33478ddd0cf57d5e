-- `signed_area`: each call answers its own definition, and together they are this one.
use Rattle.reduce_scores.specs.Scores.{signed_area_of}
use Rattle.reduce_scores.proofs.signed_area.Goals as goal

pub returns : goal.returns
unfolding signed_area_of
returns c = simp (c.dot.ensures, c.cross.ensures, c.sub.ensures)
