-- `axis_between`: the calls are the definition, one after the other.
use Rattle.collide_cached.specs.Ridges.{axis_between}
use Rattle.collide_cached.proofs.ridges.axis_between.Goals as goal

pub returns : goal.returns
unfolding axis_between
returns c = simp (c.normalize.ensures, c.lerp.ensures, c.dot-dba.ensures, c.dot-cba.ensures)
