-- `root::inverse` meets its contract: the distance that it squares is at most 12358451. Assumes nothing.
use Prim.Native.Nat.{◌-◌, ◌*◌, ◌≤◌}
use native.Mathlib.Nat.{mul-le-mul}
use native.Mathlib.Omega.{arith}
use Rattle.root.proofs.inverse.Goals as goal
use Rattle.root.proofs.inverse.Goals.{Start}

square : (c : Start) → (20747059 - c.args.digits) * (20747059 - c.args.digits) ≤ 12358451 * 12358451
square c =
    let far : 20747059 - c.args.digits ≤ 12358451 = omega arith in
    mul-le-mul far far

pub overflow_mul-result : goal.overflow_mul-result
overflow_mul-result c = omega (arith, square c)

pub overflow_add-result : goal.overflow_add-result
overflow_add-result c = omega (arith, square c)

pub returns : goal.returns
returns c = omega (arith, square c)
