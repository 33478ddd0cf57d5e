-- The loop keeps `Held`: the images of the first i candidates are held.
use native.Mathlib.Omega.{arith}
use Rattle.reduce.proofs.Holding.{holds_more}
use Rattle.reduce.proofs.held.hold.Goals as goal

pub loop-i-preserved : goal.loop-i-preserved
loop-i-preserved c = holds_more _ _ _ _ _ _ (omega arith) c.loop-i.invariant _ c.image_at.ensures _ c.put.ensures
