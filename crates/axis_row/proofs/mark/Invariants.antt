-- The loop keeps `Marked` of the numbers so far.
use Rattle.axis_row.specs.inner.Marks.{fails_first, Marked}
use Rattle.axis_row.proofs.mark.Given as goal

abbrev pub invariant-loop-i : goal.invariant-loop-i
invariant-loop-i l = Marked (fails_first l.table l.p l.q) l.i l.count l.marks
