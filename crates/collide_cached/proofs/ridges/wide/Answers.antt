-- `wide`: one comparison of what the calls answer.
use Rattle.collide_cached.specs.Ridges.{wide_of}
use Rattle.collide_cached.proofs.ridges.wide.Goals as goal

pub returns : goal.returns
unfolding wide_of
returns c = simp (c.length_squared.ensures, c.max_float.ensures)
