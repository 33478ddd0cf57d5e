-- The loop's invariant: `best` is the best of the first i vertices, by the definition.
use Rattle.std.proofs.Common.{◌≡◌}
use Rattle.vector.specs.Shape.{farthest_of}
use Rattle.vector.proofs.shape.find_hull_support_vertex.Given as goal

abbrev pub invariant-loop-i : goal.invariant-loop-i
invariant-loop-i l = l.best ≡ farthest_of l.xs l.ys l.zs l.d l.i
