-- `root::guess` meets its contract: each product fits 64 bits, and no difference falls below zero. Assumes nothing.
use Prim.Native.Nat.{ℕ, ◌+◌, ◌*◌, ◌≤◌, ◌<◌}
use native.Mathlib.Nat.{le_of_lt, mul-le-mul}
use native.Mathlib.Omega.{arith}
use Rattle.root.proofs.guess.Goals as goal
use Rattle.root.proofs.guess.Goals.{After-inverse-y, After-part-curve}

-- `raised`, and t before its shift
bounds : (d y : ℕ) → d < 16777216 → y ≤ 884724 → (d * y ≤ 16777216 * 884724) × (d * y * y ≤ 16777216 * 884724 * 884724)
bounds d y h g =
    let raised = mul-le-mul (le_of_lt h) g in
    (raised, mul-le-mul raised g)

at : (c : After-inverse-y) → (c.args.digits * c.inverse-y.result ≤ 16777216 * 884724)
    × (c.args.digits * c.inverse-y.result * c.inverse-y.result ≤ 16777216 * 884724 * 884724)
at c = bounds c.args.digits c.inverse-y.result (omega arith) c.inverse-y.ensures

-- `scaled` times `curve`
last : (c : After-part-curve) → c.part-scaled.result * (c.part-curve.result + 1141243691) ≤ 3048856072 * 5436210986
last c =
    let scaled : c.part-scaled.result ≤ 3048856072 = omega arith in
    let curve : c.part-curve.result + 1141243691 ≤ 5436210986 = omega arith in
    mul-le-mul scaled curve

pub overflow_mul-raised : goal.overflow_mul-raised
overflow_mul-raised c = omega (arith, at c)

pub overflow_mul-t : goal.overflow_mul-t
overflow_mul-t c = omega (arith, at c)

pub part-start-requires : goal.part-start-requires
part-start-requires c = (omega arith, omega (arith, at c))

pub overflow_sub-t : goal.overflow_sub-t
overflow_sub-t c = omega (arith, at c.before)

pub overflow_add-off : goal.overflow_add-off
overflow_add-off c = omega (arith, at c.before.before)

pub overflow_mul-result : goal.overflow_mul-result
overflow_mul-result c = omega (arith, last c)

pub overflow_add-result : goal.overflow_add-result
overflow_add-result c = omega (arith, last c)

pub returns : goal.returns
returns c = omega (arith, last c)
