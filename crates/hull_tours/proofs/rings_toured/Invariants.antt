-- The rings of the faces before the one at hand were walked, and their half-edges counted.
use Rattle.std.proofs.Common.{◌≤◌}
use Rattle.hull_links.specs.Links.{next, face_edge}
use Rattle.hull_links.proofs.Tours.{Touring}
use Rattle.hull_tours.specs.inner.Found.{OnFace}
use Rattle.hull_tours.proofs.rings_toured.Given as goal

abbrev pub invariant-loop-f : goal.invariant-loop-f
invariant-loop-f l = (l.ringed ≤ l.h) × Touring (next l.hull.size l.hull.links.now) (face_edge l.hull.size l.hull.links.now)
    (OnFace l.hull.size l.hull.links.now) 3 l.hull.size.half_edges l.ringed l.f
