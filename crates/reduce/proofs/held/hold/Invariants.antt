-- The loop keeps `Held`: the images of the first i candidates are held.
use Rattle.reduce.specs.inner.Held.{Held}
use Rattle.reduce.proofs.held.hold.Given as goal

abbrev pub invariant-loop-i : goal.invariant-loop-i
invariant-loop-i l = Held l.normal l.corners.numbers l.corners.tags l.from l.i l.positions
