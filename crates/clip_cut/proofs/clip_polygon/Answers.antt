-- The loop keeps `Cutting`: what was put out and what is still to come make the whole cut.
use native.Mathlib.Omega.{arith}
use Rattle.clip_cut.proofs.Cutting.{begins, goes_on, cut_is}
use Rattle.clip_cut.proofs.clip_polygon.Goals as goal

pub loop-i-init : goal.loop-i-init
loop-i-init c = begins _ _ _ _ _ _ _ _ _ _ c.requires.1 c.corner_at-v1.ensures
    c.plane_separation-d1.ensures

pub loop-i-preserved : goal.loop-i-preserved
loop-i-preserved c = goes_on _ _ _ _ _ _ _ _ c.requires.0 c.requires.2 _ _ _ _ _ _
    c.loop-i.invariant
    c.loop-i-test.true _ _
    c.corner_at-v2.ensures
    c.plane_separation-d2.ensures _ _ _ c.put_out-k.ensures

pub returns : goal.returns
returns c = cut_is _ _ _ _ _ _ _ _ c.requires.0 c.requires.2 _ _ _ _ _ _ c.loop-i.invariant (omega arith)
