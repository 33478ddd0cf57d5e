-- `root::nearest` meets its contract, whatever the guess. After the first loop g is not too small, and the second keeps that until g is not too
-- large. Assumes nothing.
use Prim.Native.Nat.{◌≤◌, ◌<◌, ◌-◌, ◌*◌, ◌+◌}
use Rattle.root.proofs.nearest.Given as goal

abbrev pub invariant-loop-g : goal.invariant-loop-g
invariant-loop-g l = l.g < 268435456

abbrev pub decreases-loop-g : goal.decreases-loop-g
decreases-loop-g l = 268435456 - l.g

abbrev pub invariant-loop-g-2 : goal.invariant-loop-g-2
invariant-loop-g-2 l = (l.g < 268435456) × (l.n ≤ l.g * l.g + l.g)

abbrev pub decreases-loop-g-2 : goal.decreases-loop-g-2
decreases-loop-g-2 l = l.g
