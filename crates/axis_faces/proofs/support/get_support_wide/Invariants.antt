-- The loop keeps the least of each lane over the groups so far. It is finite, and its number is that of a lane.
use mathlib.Core.Path.{◌≡◌}
use Rattle.axis_faces.specs.Support.{least_lanes}
use Rattle.axis_faces.proofs.support.get_support_wide.Given as goal

abbrev pub invariant-loop-g : goal.invariant-loop-g
invariant-loop-g l = l.least ≡ least_lanes l.bias l.d l.hull.size l.hull.numbers.now l.g
