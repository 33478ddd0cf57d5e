-- The fans of the vertices before the one at hand were walked, and their half-edges counted.
use Rattle.std.proofs.Common.{◌*◌, ◌≤◌}
use Rattle.hull_links.specs.Links.{turn, vertex_edge}
use Rattle.hull_links.proofs.Tours.{Touring}
use Rattle.hull_tours.specs.inner.Found.{OnVertex}
use Rattle.hull_tours.proofs.fans_toured.Given as goal

abbrev pub invariant-loop-v : goal.invariant-loop-v
invariant-loop-v l = (l.fanned ≤ 256 * l.v) × Touring (turn l.hull.size l.hull.links.now) (vertex_edge l.hull.size l.hull.links.now)
    (OnVertex l.hull.size l.hull.links.now) 1 l.hull.size.half_edges l.fanned l.v
