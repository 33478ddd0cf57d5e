-- `ridge_of`: what is read, and the difference of its ends, are the definition.
use Rattle.collide_cached.specs.Ridges.{edge_at, ridge_of}
use Rattle.collide_cached.proofs.ridges.ridge_of.Goals as goal

pub returns : goal.returns
unfolding edge_at ridge_of
returns c = simp (c.sub.ensures, c.edge_at-edge.ensures)
