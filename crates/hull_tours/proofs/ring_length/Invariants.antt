-- The walk is under way: n steps are done, all on face f, and it is not back at its start.
use Rattle.std.proofs.Common.{◌<◌}
use Rattle.hull_links.specs.Links.{next}
use Rattle.hull_links.proofs.Orbits.{Going}
use Rattle.hull_tours.specs.inner.Found.{OnFace}
use Rattle.hull_tours.proofs.ring_length.Given as goal

abbrev pub invariant-loop-n : goal.invariant-loop-n
invariant-loop-n l = (l.e < l.hull.size.half_edges) × Going (next l.hull.size l.hull.links.now) (OnFace l.hull.size l.hull.links.now l.f) l.start l.n l.e
