-- The loop keeps `Filling`: what stands so far, and what will be put behind it, make the whole batch.
use mathlib.Core.Path.{refl}
use native.Mathlib.Omega.{arith}
use Rattle.hull.proofs.Hulls.{at_next}
use Rattle.clip.specs.inner.Batches.{sides_from}
use Rattle.clip.proofs.Batches.{fill_back, fill_goes, fill_ends}
use Rattle.clip.proofs.sides.fill_sides.Goals as goal

pub returns-then-e-start : goal.returns-then-e-start
unfolding sides_from
returns-then-e-start c = fill_back _ _ _ _ _ _ _ _ _ c.loop-side.invariant
    c.loop-side-test.true _ c.side_plane.ensures _ refl _ c.next_of-e.ensures c.if-e-start.true

pub loop-side-preserved : goal.loop-side-preserved
loop-side-preserved c = let i = c.loop-side.invariant in
    fill_goes _ _ _ _ _ _ _ _ _ i c.loop-side-test.true _
    c.side_plane.ensures _ refl _ c.next_of-e.ensures c.if-e-start.false
    (at_next _ _ _ c.requires.0 _ i.low _
    c.next_of-e.ensures).1

pub returns : goal.returns
unfolding sides_from
returns c = fill_ends _ _ _ _ _ _ _ _ _ c.loop-side.invariant (omega arith)
