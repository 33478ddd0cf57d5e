-- The loop keeps `Fanning`: the flattest so far and the half-edges that are left make the flattest of all.
use lib.ListN.{length}
use Rattle.hull_links.specs.Links.{turn}
use Rattle.hull_links.proofs.Along.{rest}
use Rattle.clip_incident.proofs.Fans.{Fanning}
use Rattle.clip_incident.proofs.flattest_edge.Given as goal

abbrev pub invariant-loop-e : goal.invariant-loop-e
invariant-loop-e l = Fanning l.hull.size l.hull.numbers.now l.hull.links.now l.normal l.origin l.start l.initial.best l.best l.e

abbrev pub decreases-loop-e : goal.decreases-loop-e
decreases-loop-e l = length (rest (turn l.hull.size l.hull.links.now) l.hull.size.half_edges l.start l.e)
