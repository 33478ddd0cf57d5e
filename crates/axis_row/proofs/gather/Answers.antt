-- The loop keeps `Sifted` of the numbers so far.
use Rattle.axis_row.proofs.Marking.{adds}
use Rattle.axis_row.proofs.Sifting.{up_begins, up_goes_on}
use native.Mathlib.Omega.{arith}
use Prim.Native.Nat.{ℕ, ◌+◌}
use mathlib.Core.Path.{ap}
use Rattle.axis_row.proofs.gather.Goals as goal

pub loop-i-init : goal.loop-i-init
loop-i-init c = up_begins _ _ c.requires.2

pub loop-i-preserved : goal.loop-i-preserved
loop-i-preserved c =
    let l = c.loop-i in
    let p = c.requires in
    up_goes_on _ l.i l.m l.list _ l.invariant (omega (arith, c.loop-i-test.true, p.0))
    (adds _ l.i l.m _ (p.3 l.i c.loop-i-test.true) (ap (λ (x : ℕ). l.m + x) c.from-m.ensures))
