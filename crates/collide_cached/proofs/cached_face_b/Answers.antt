-- `cached_face_b`: the vertex that is found is the deepest, and the test picks the case of the definition.
use native.Mathlib.Omega.{arith}
use mathlib.Core.Path.{refl}
use Rattle.rotation.specs.Rotation.{inv_transform_point_of, rotate_of}
use Rattle.collide_cached.specs.Again.{deepest_below_b, separation_from_b}
use Rattle.collide_cached.proofs.Cases.{at_support, support_byte, is_deepest, off_face, b_far, b_close}
use Rattle.collide_outcome.specs.Told.{number_of}
use Rattle.collide_cached.proofs.cached_face_b.Goals as goal

pub vertex_at-requires : goal.vertex_at-requires
vertex_at-requires c = at_support _ _ _ c.requires.0 _ _ c.support_vertex-vertex.ensures

pub returns-then-plane_separation-speculative_distance : goal.returns-then-plane_separation-speculative_distance
unfolding separation_from_b deepest_below_b
returns-then-plane_separation-speculative_distance c =
    let g = c.args in let a = g.a.now in let b = g.b.now in
    let test = off_face b.size b.numbers.now a.size a.numbers.now (rotate_of g.transform.q) (inv_transform_point_of g.transform) g.cache.index_b
    _ c.plane_at-plane.ensures _ c.rotate_vector.ensures _ c.neg-direction.ensures _ c.support_vertex-vertex.ensures
    _ c.vertex_at.ensures _ c.inv_transform_point-corner.ensures _ c.plane_separation.ensures _ _ c.speculative_distance.ensures in
    b_far _ _ _ _ _ _ _ _ _ test c.if-plane_separation-speculative_distance.true _ c.empty_contact.ensures _ refl

pub overflow_cast-vertex : goal.overflow_cast-vertex
overflow_cast-vertex c = let b = support_byte _ _ _ c.requires.0 _ _ c.support_vertex-vertex.ensures in
    omega (arith, b)

pub returns : goal.returns
unfolding separation_from_b deepest_below_b
returns c =
    let g = c.args in let a = g.a.now in let b = g.b.now in
    let test = off_face b.size b.numbers.now a.size a.numbers.now (rotate_of g.transform.q) (inv_transform_point_of g.transform) g.cache.index_b
    _ c.plane_at-plane.ensures _ c.rotate_vector.ensures _ c.neg-direction.ensures _ c.support_vertex-vertex.ensures
    _ c.vertex_at.ensures _ c.inv_transform_point-corner.ensures _ c.plane_separation.ensures _ _ c.speculative_distance.ensures in
    let vertex = is_deepest b.size b.numbers.now a.size a.numbers.now (rotate_of g.transform.q) (inv_transform_point_of g.transform) g.cache.index_b
    _ c.plane_at-plane.ensures _ c.rotate_vector.ensures _ c.neg-direction.ensures _ c.support_vertex-vertex.ensures in
    b_close _ _ _ _ _ _ _ _ _ test c.if-plane_separation-speculative_distance.false _ vertex _ c.build_face_b_contact-built.ensures
    _ (c.served.ensures number_of)
