-- `fill_two_rows`: both rows grow by one dot a turn.
use Rattle.axis_lists.specs.inner.Lists.{vector_in, Row}
use lib.ListN.{length}
use mathlib.Core.Path.{◌≡◌}
use Rattle.axis_lists.proofs.fill_two_rows.Given as goal

abbrev pub invariant-loop-i : goal.invariant-loop-i
invariant-loop-i l =
    (length l.out ≡ length l.initial.out) × (Row l.v (vector_in l.lists) l.i l.at l.out × Row l.w (vector_in l.lists) l.i l.behind l.out)
