-- The loop keeps `Marked` of the numbers so far.
use Rattle.axis_row.proofs.Marking.{begins, goes_on, bounded}
use mathlib.Core.Path.{refl}
use Rattle.axis_row.specs.inner.Marks.{fails_first}
use native.Mathlib.Omega.{arith}
use Prim.Native.Nat.{◌≤◌}
use Rattle.axis_row.proofs.mark.Goals as goal

pub loop-i-init : goal.loop-i-init
loop-i-init c = begins _ _ c.requires.1

pub overflow_add-count : goal.overflow_add-count
overflow_add-count c =
    let l = c.loop-i in
    let few : l.count ≤ l.i = bounded _ _ _ _ l.invariant in
    omega (arith, few, c.passes-one.ensures.1, c.loop-i-test.true, c.requires.0.few)

pub loop-i-preserved : goal.loop-i-preserved
unfolding fails_first
loop-i-preserved c =
    let l = c.loop-i in
    goes_on _ l.i l.count l.marks c.passes-one.result _ l.invariant
    (omega (arith, c.loop-i-test.true, c.requires.0.few)) c.passes-one.ensures.0 refl
