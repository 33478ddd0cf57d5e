-- `root::part` meets its contract: a share below 2^32 leaves no more than the whole. Assumes nothing.
use Prim.Native.Nat.{◌*◌, ◌≤◌}
use native.Mathlib.Nat.{le_of_lt, mul-le-mul_left}
use native.Mathlib.Omega.{arith}
use Rattle.root.proofs.Squares.{product}
use Rattle.root.proofs.part.Goals as goal

pub overflow_mul-result : goal.overflow_mul-result
overflow_mul-result c = record { fits = product c.requires.0 c.requires.1 }

pub returns : goal.returns
returns c =
    let h : c.args.whole * c.args.share ≤ c.args.whole * 4294967296 = mul-le-mul_left c.args.whole (le_of_lt c.requires.1) in
    omega arith
