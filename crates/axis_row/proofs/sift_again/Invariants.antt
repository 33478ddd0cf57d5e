-- The loop keeps `Sifted` of the part of the list that is behind it.
use Rattle.axis_row.proofs.Sifting.{Sifted}
use Rattle.axis_row.specs.inner.Sift.{fails_later}
use lib.ListN.{take}
use Rattle.axis_row.proofs.sift_again.Given as goal

abbrev pub invariant-loop-edge : goal.invariant-loop-edge
invariant-loop-edge l = Sifted (fails_later l.table l.p l.along l.hull.size l.hull.links.now) (take l.edge-index l.list) l.edge-index l.left l.out
