-- The loop keeps `Sifted` of the part of the list that is behind it.
use Rattle.axis_row.proofs.Sifting.{list_begins, list_goes_on}
use Rattle.axis_row.specs.inner.Sift.{fails_later}
use native.Mathlib.Omega.{arith}
use lib.ListN.{get_or}
use mathlib.Core.Bool.{cond}
use mathlib.Core.Path.{◌≡◌}
use Prim.Native.Nat.{◌+◌}
use Rattle.axis_row.proofs.sift_again.Goals as goal

pub loop-edge-init : goal.loop-edge-init
loop-edge-init c = list_begins _ c.args.list.now _ c.requires.fits.5

pub loop-edge-preserved : goal.loop-edge-preserved
unfolding fails_later
loop-edge-preserved c =
    let l = c.loop-edge in
    let a = c.args in
    let r = a.rows.now in
    let h = a.hull.now in
    let p = c.requires.fits in
    let kept : c.advanced-left.result ≡ cond (fails_later r.table.now r.p a.along.now h.size h.links.now (get_or a.list.now l.edge-index 0))
    l.left (l.left + 1) =
    simp (
      c.advanced-left.ensures,
      c.fails-in-loop-edge.ensures,
      c.fails.ensures,
      c.face_of-in-loop-edge.ensures,
      c.face_of.ensures,
      c.from-i.ensures,
    ) in
    list_goes_on _ a.list.now l.edge-index l.left l.out c.advanced-left.result l.invariant (omega (arith, c.loop-edge-test.true, p.4))
    c.loop-edge-test.true kept
