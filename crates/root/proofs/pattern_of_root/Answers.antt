-- `root::pattern_of_root` meets its contract: each arm leaves m and a as `Norm` has them, and `rooted` takes it from there. Assumes nothing.
use mathlib.Core.Path.{subst}
use Prim.Native.Nat.{ℕ, ◌≤◌, ◌<◌}
use native.Mathlib.Omega.{arith}
use lib.Count.{count_leading_zeros}
use Rattle.root.proofs.Squares.{Near, in_range}
use Rattle.root.proofs.Normal.{Norm, lead, subnormal, normal}
use Rattle.root.proofs.Rounding.{radicand, good, rooted}
use Rattle.root.proofs.pattern_of_root.Goals as goal
use Rattle.root.proofs.pattern_of_root.Goals.{After-nearest-q, Joined-b-lt8388608, Then-b-lt8388608, then-b-lt8388608, else-b-lt8388608}

zeros : (c : Then-b-lt8388608) → (9 ≤ count_leading_zeros 32 c.args.b) × (count_leading_zeros 32 c.args.b ≤ 31)
zeros c =
    let l = lead c.args.b (omega arith) c.if-b-lt8388608.true in
    (omega arith, omega arith)

-- where the two arms meet
norm : (c : Joined-b-lt8388608) → Norm c.args.b c.if-b-lt8388608.m c.if-b-lt8388608.a
norm c =
    let b = c.args.b in
    elim c.if-b-lt8388608.branch [
      | then-b-lt8388608 w ↦ subnormal b _ c.if-b-lt8388608.m c.if-b-lt8388608.a (omega arith) w.if-b-lt8388608.true
          (omega (arith, lead b (omega arith) w.if-b-lt8388608.true)) w.m-is (omega (arith, w.a-is))
      | else-b-lt8388608 w ↦ normal b c.if-b-lt8388608.m c.if-b-lt8388608.a w.if-b-lt8388608.false (omega arith) (omega (arith, w.m-is))
          (omega (arith, w.a-is))
    ]

near : (c : After-nearest-q) → Near (radicand c.if-b-lt8388608.m c.if-b-lt8388608.a) c.nearest-q.result
near c =
    let j = c.before.before.before.before in
    subst (λ (n : ℕ). Near n c.nearest-q.result) (good j.if-b-lt8388608.m j.if-b-lt8388608.a (norm j).lo (norm j).hi).0 c.nearest-q.ensures

range : (c : After-nearest-q) → (8388608 ≤ c.nearest-q.result) × (c.nearest-q.result < 16777216)
range c =
    let j = c.before.before.before.before in
    let g = good j.if-b-lt8388608.m j.if-b-lt8388608.a (norm j).lo (norm j).hi in
    in_range (radicand j.if-b-lt8388608.m j.if-b-lt8388608.a) c.nearest-q.result g.1 g.2 (near c)

pub overflow_sub-shift : goal.overflow_sub-shift
overflow_sub-shift c = omega (arith, zeros c)

pub overflow_shl-m : goal.overflow_shl-m
overflow_shl-m c = omega (arith, zeros c)

pub overflow_sub-a : goal.overflow_sub-a
overflow_sub-a c = omega (arith, zeros c)

pub guess-requires : goal.guess-requires
guess-requires c =
    let h = norm c.before.before.before in
    (h.lo, h.hi, omega arith)

pub nearest-q-requires : goal.nearest-q-requires
nearest-q-requires c =
    let j = c.before.before.before in
    let g = good j.if-b-lt8388608.m j.if-b-lt8388608.a (norm j.before).lo (norm j.before).hi in
    (omega (arith, g), omega (arith, g), c.guess.ensures)

pub overflow_mul-result : goal.overflow_mul-result
overflow_mul-result c = omega (arith, (norm c.before.before.before.before).last)

pub overflow_cast-result : goal.overflow_cast-result
overflow_cast-result c = omega (arith, range c)

pub overflow_add-result : goal.overflow_add-result
overflow_add-result c = omega (arith, (norm c.before.before.before.before).last, range c)

pub returns : goal.returns
returns c =
    let j = c.before.before.before.before in
    rooted j.args.b j.if-b-lt8388608.m j.if-b-lt8388608.a c.nearest-q.result _ (norm j) (near c) (omega arith)
