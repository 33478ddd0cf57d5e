-- The queue's loop keeps `Flooding`; in the end all faces are entered, or nothing is left in the queue.
use mathlib.Core.Path.{◌≡◌}
use Prim.Native.Nat.{◌-◌}
use lib.ListN.{length}
use Rattle.hull_marks.specs.inner.Marks.{mark_of}
use Rattle.hull_shell.proofs.Flood.{Flooding}
use Rattle.hull_shell.proofs.one_shell.Given as goal

abbrev pub invariant-loop-done : goal.invariant-loop-done
invariant-loop-done l = Flooding l.hull.size l.hull.links.now l.done l.flood.count l.flood.queue (mark_of l.flood.seen) × (length l.flood.seen ≡ 4)

abbrev pub decreases-loop-done : goal.decreases-loop-done
decreases-loop-done l = l.faces - l.done
