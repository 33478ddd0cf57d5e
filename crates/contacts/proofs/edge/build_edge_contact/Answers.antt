-- `build_edge_contact`: the ends of both edges are vertices, and the calls are the definition, one after the other.
use Rattle.hull.proofs.Hulls.{at_twin, at_origin}
use Rattle.contacts.proofs.Ends.{near_end, far_end, of_ends}
use Rattle.contacts.proofs.edge.build_edge_contact.Goals as goal

pub vertex_at-p_a-requires : goal.vertex_at-p_a-requires
vertex_at-p_a-requires c = let p = c.requires in
    at_origin _ _ _ p.0 _ p.2 _ c.origin_of.ensures

pub origin_of-requires-2 : goal.origin_of-requires-2
origin_of-requires-2 c = let p = c.requires in
    at_twin _ _ _ p.0 _ p.2 _ c.twin_of-twin_a.ensures

pub vertex_at-q_a-requires : goal.vertex_at-q_a-requires
vertex_at-q_a-requires c = let p = c.requires in
    let t = at_twin _ _ _ p.0 _ p.2 _ c.twin_of-twin_a.ensures in
    at_origin _ _ _ p.0 _ t.1 _ c.origin_of-2.ensures

pub vertex_at-requires : goal.vertex_at-requires
vertex_at-requires c = let p = c.requires in
    at_origin _ _ _ p.1 _ p.3 _ c.origin_of-3.ensures

pub origin_of-requires-4 : goal.origin_of-requires-4
origin_of-requires-4 c = let p = c.requires in
    at_twin _ _ _ p.1 _ p.3 _ c.twin_of-twin_b.ensures

pub vertex_at-requires-2 : goal.vertex_at-requires-2
vertex_at-requires-2 c = let p = c.requires in
    let t = at_twin _ _ _ p.1 _ p.3 _ c.twin_of-twin_b.ensures in
    at_origin _ _ _ p.1 _ t.1 _ c.origin_of-4.ensures

pub returns : goal.returns
returns c =
    let g = c.args in
    let a = g.a.now in
    let b = g.b.now in
    of_ends a.size a.numbers.now a.links.now b.size b.numbers.now b.links.now g.transform g.normal g.edge_a g.edge_b _ _ _ _ _ _ _ _ _ _
    (near_end a.size a.numbers.now a.links.now g.edge_a _ _ c.origin_of.ensures c.vertex_at-p_a.ensures)
    (far_end a.size a.numbers.now a.links.now g.edge_a _ _ _ c.twin_of-twin_a.ensures c.origin_of-2.ensures c.vertex_at-q_a.ensures)
    (near_end b.size b.numbers.now b.links.now g.edge_b _ _ c.origin_of-3.ensures c.vertex_at.ensures)
    (far_end b.size b.numbers.now b.links.now g.edge_b _ _ _ c.twin_of-twin_b.ensures c.origin_of-4.ensures c.vertex_at-2.ensures)
    c.transform_point-p_b.ensures c.transform_point-q_b.ensures c.sub.ensures
    c.sub-2.ensures c.line_distance-nearest.ensures c.along.ensures
