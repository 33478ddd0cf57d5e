-- The loop keeps `Building`: the corners so far and those of the half-edges that are left make the whole polygon.
use lib.ListN.{length}
use Rattle.clip.specs.Candidates.{corner_of}
use Rattle.clip.proofs.Rings.{left_of, Building}
use Rattle.clip.proofs.build_polygon.Given as goal

abbrev pub invariant-loop-e : goal.invariant-loop-e
invariant-loop-e l =
    Building l.hull.size l.hull.links.now l.start (corner_of l.hull.size l.hull.numbers.now l.hull.links.now l.matrix l.p l.reference)
    l.initial.corners.numbers l.initial.corners.tags l.corners.numbers l.corners.tags l.e l.n

abbrev pub decreases-loop-e : goal.decreases-loop-e
decreases-loop-e l = length (left_of l.hull.size l.hull.links.now l.start l.e)
