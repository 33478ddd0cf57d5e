-- The loop keeps `Building`: the corners so far and those of the half-edges that are left make the whole polygon.
use Rattle.clip.proofs.Rings.{build_begins, build_goes, build_shorter, build_back, build_full, built_is}
use Rattle.clip.proofs.build_polygon.Goals as goal

pub loop-e-init : goal.loop-e-init
loop-e-init c = build_begins _ _ _ c.requires.0 _ c.requires.1 _ c.face_edge-start.ensures _ _ _

pub returns-then-e-start : goal.returns-then-e-start
returns-then-e-start c = built_is _ _ _ _ _ _ _ _ _ _ _ _
    c.make_matrix_from_quat-matrix.ensures
    (build_back _ _ _ c.requires.0 _ c.requires.1 _ c.face_edge-start.ensures _ _ _ _ _ _ _ c.loop-e.invariant _
    c.corner-v.ensures _ _ _
    c.put-n.ensures _ c.next_of-e.ensures c.if-e-start.true)

pub returns-then-n-ge64 : goal.returns-then-n-ge64
returns-then-n-ge64 c = built_is _ _ _ _ _ _ _ _ _ _ _ _
    c.make_matrix_from_quat-matrix.ensures (build_full _ _ _ c.requires.0 _ c.requires.1 _ c.face_edge-start.ensures _ _ _ _ _ _ _ c.loop-e.invariant _
    c.corner-v.ensures _ _ _
    c.put-n.ensures _ c.next_of-e.ensures c.if-n-ge64.true)

pub loop-e-smaller : goal.loop-e-smaller
loop-e-smaller c = build_shorter _ _ _ c.requires.0 _ c.requires.1 _ c.face_edge-start.ensures _ _ _ _ _ _ _ c.loop-e.invariant _
    c.corner-v.ensures _ _ _
    c.put-n.ensures _ c.next_of-e.ensures c.if-e-start.false

pub loop-e-preserved : goal.loop-e-preserved
loop-e-preserved c = build_goes _ _ _ c.requires.0 _ c.requires.1 _ c.face_edge-start.ensures _ _ _ _ _ _ _ c.loop-e.invariant _
    c.corner-v.ensures _ _ _
    c.put-n.ensures _ c.next_of-e.ensures c.if-e-start.false
    c.if-n-ge64.false
