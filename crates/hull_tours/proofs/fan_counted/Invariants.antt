-- The walk is under way: n - fanned steps are done, all from vertex v and with the right twin, and it is not back at its start; so fewer than H are done.
use Rattle.std.proofs.Common.{◌≤◌, ◌<◌, ◌-◌}
use Rattle.hull_links.specs.Links.{turn}
use Rattle.hull_links.proofs.Orbits.{Going}
use Rattle.hull_tours.specs.inner.Found.{OnVertex}
use Rattle.hull_tours.proofs.fan_counted.Given as goal

abbrev pub invariant-loop-v : goal.invariant-loop-v
invariant-loop-v l =
    (l.fanned ≤ l.n)
    × Going (turn l.hull.size l.hull.links.now) (OnVertex l.hull.size l.hull.links.now l.v) l.start (l.n - l.fanned) l.e
    × (l.e < l.hull.size.half_edges)

abbrev pub decreases-loop-v : goal.decreases-loop-v
decreases-loop-v l = l.hull.size.half_edges - (l.n - l.fanned)
