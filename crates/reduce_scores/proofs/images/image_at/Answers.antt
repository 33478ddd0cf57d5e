-- `image_at`: the corner as it stands there, and of it the definition's own expression.
use Rattle.reduce_scores.specs.Images.{image_of}
use Rattle.reduce_scores.proofs.images.image_at.Goals as goal

pub returns : goal.returns
unfolding image_of
returns c = simp (c.mul_sub.ensures, c.corner_at-v.ensures)
