-- The loop keeps `Keeping`: the corners so far are kept, so those that are left decide.
use native.Mathlib.Omega.{arith}
use Rattle.clip_cut.proofs.Keeping.{keep_goes, keep_stops, keep_ends}
use Rattle.clip_cut.proofs.keeps_all.Goals as goal

pub returns-then-not-d : goal.returns-then-not-d
returns-then-not-d c t = keep_stops _ _ _ _ _ c.loop-i.invariant
    c.loop-i-test.true _ c.plane_separation-d.ensures t (c.if-not-d.true)

pub loop-i-preserved : goal.loop-i-preserved
loop-i-preserved c = keep_goes _ _ _ _ _ c.loop-i.invariant
    c.loop-i-test.true _ c.plane_separation-d.ensures (c.if-not-d.false)

pub returns : goal.returns
returns c = keep_ends _ _ _ _ _ c.loop-i.invariant (omega arith)
