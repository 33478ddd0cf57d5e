-- The loop keeps `Sifted` of the numbers so far.
use Rattle.axis_row.proofs.Sifting.{Sifted}
use Rattle.axis_row.specs.inner.Marks.{unmarked, up_to}
use Rattle.axis_row.proofs.gather.Given as goal

abbrev pub invariant-loop-i : goal.invariant-loop-i
invariant-loop-i l = Sifted (unmarked l.marks) (up_to l.i) l.i l.m l.list
