-- The loop keeps `Filling`: the rows of the faces so far stand in the table.
use Rattle.axis_pairs.proofs.Tables.{Filling}
use Rattle.axis_lists.specs.inner.Lists.{vector_in}
use Rattle.axis_pairs.proofs.fill_table.Given as goal

abbrev pub invariant-loop-f : goal.invariant-loop-f
invariant-loop-f l = Filling l.lists.turned (vector_in l.lists.directions) l.width l.initial.table l.f l.table
