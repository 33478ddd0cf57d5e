-- The next's face and origin are read and compared with the half-edge's own face and its twin's origin.
use mathlib.Core.Path.{sym}
use Rattle.hull_links.proofs.Facts.{next_lt, twin_lt}
use Rattle.hull_rules.proofs.Linked.{other_face, origins_decide}
use Rattle.hull_rules.proofs.tests.linked_at.Goals as goal

pub face_of-requires : goal.face_of-requires
face_of-requires c = let p = c.requires in
    (p.0, rw c.next_of-n.ensures (next_lt _ _ p.1 _ p.2))

pub returns-then-face_of : goal.returns-then-face_of
returns-then-face_of c = let f = c.before.before in
    sym (other_face _ _ _ _ _ _ f.next_of-n.ensures f.face_of.ensures c.face_of-2.ensures c.if-face_of.true)

pub origin_of-requires : goal.origin_of-requires
origin_of-requires c = let n = c.before.before.before.before in
    let p = n.requires in
    (p.0, rw n.next_of-n.ensures (next_lt _ _ p.1 _ p.2))

pub origin_of-requires-2 : goal.origin_of-requires-2
origin_of-requires-2 c = let p = c.requires in
    (p.0, rw c.twin_of-t.ensures (twin_lt _ _ p.1 _ p.2))

pub returns : goal.returns
returns c = let t = c.before.before in
    let g = t.before.before in
    let f = g.before in
    origins_decide _ _ _ _ _ _ f.next_of-n.ensures f.face_of.ensures g.face_of-2.ensures t.if-face_of.false _ _ _
    t.twin_of-t.ensures c.origin_of.ensures c.origin_of-2.ensures
