-- `root::nearest` meets its contract, whatever the guess. After the first loop g is not too small, and the second keeps that until g is not too
-- large. Assumes nothing.
use Prim.Native.Nat.{ℕ, ◌≤◌, ◌<◌, ◌*◌}
use native.Mathlib.Omega.{arith}
use Rattle.root.proofs.Squares.{product, positive, one_less, small}
use Rattle.root.proofs.nearest.Goals as goal
use Rattle.root.proofs.nearest.Goals.{At-loop-g-2}

squared : (g : ℕ) → g < 268435456 → g * g < 268435456 * 268435456
squared g h = product h h

above_zero : (c : At-loop-g-2) → 1 ≤ c.loop-g-2.g
above_zero c = positive c.args.n c.loop-g-2.g (omega arith) c.loop-g-2.invariant.1

pub overflow_mul-square : goal.overflow_mul-square
overflow_mul-square c = omega (arith, squared c.args.guess c.requires.2)

pub overflow_add-n : goal.overflow_add-n
overflow_add-n c = omega arith

pub overflow_add-square : goal.overflow_add-square
overflow_add-square c = omega (arith, squared c.args.guess c.requires.2)

pub returns-then-n-square : goal.returns-then-n-square
returns-then-n-square c = (omega arith, omega arith)

pub loop-g-init : goal.loop-g-init
loop-g-init c = omega arith

pub overflow_mul-g : goal.overflow_mul-g
overflow_mul-g c = omega (arith, squared c.loop-g.g c.loop-g.invariant)

pub overflow_add-g : goal.overflow_add-g
overflow_add-g c = omega (arith, squared c.loop-g.g c.loop-g.invariant)

pub overflow_add-g-in-loop-g : goal.overflow_add-g-in-loop-g
overflow_add-g-in-loop-g c = omega arith

pub loop-g-smaller : goal.loop-g-smaller
loop-g-smaller c = omega arith

pub loop-g-preserved : goal.loop-g-preserved
loop-g-preserved c = omega (arith, small c.args.n c.loop-g.g (omega arith) (omega arith))

pub loop-g-2-init : goal.loop-g-2-init
loop-g-2-init c = (omega arith, omega arith)

pub overflow_add-n-in-loop-g-2 : goal.overflow_add-n-in-loop-g-2
overflow_add-n-in-loop-g-2 c = omega arith

pub overflow_mul-g-in-loop-g-2 : goal.overflow_mul-g-in-loop-g-2
overflow_mul-g-in-loop-g-2 c = omega (arith, squared c.loop-g-2.g c.loop-g-2.invariant.0)

pub overflow_sub-g : goal.overflow_sub-g
overflow_sub-g c = above_zero c.before

pub loop-g-2-smaller : goal.loop-g-2-smaller
loop-g-2-smaller c = omega (arith, above_zero c.before)

pub loop-g-2-preserved : goal.loop-g-2-preserved
loop-g-2-preserved c = (omega arith, one_less c.args.n c.loop-g-2.g (above_zero c.before) (omega arith))

pub returns : goal.returns
returns c = (omega arith, omega arith)
