-- `cached_face_a`: the vertex that is found is the deepest, and the test picks the case of the definition.
use native.Mathlib.Omega.{arith}
use mathlib.Core.Path.{refl}
use Rattle.rotation.specs.Rotation.{inv_rotate_of, transform_point_of}
use Rattle.collide_cached.specs.Again.{deepest_below_a, separation_from_a}
use Rattle.collide_cached.proofs.Cases.{at_support, support_byte, is_deepest, off_face, a_far, a_close}
use Rattle.collide_outcome.specs.Told.{number_of}
use Rattle.collide_cached.proofs.cached_face_a.Goals as goal

pub vertex_at-requires : goal.vertex_at-requires
vertex_at-requires c = at_support _ _ _ c.requires.1 _ _ c.support_vertex-vertex.ensures

pub returns-then-plane_separation-speculative_distance : goal.returns-then-plane_separation-speculative_distance
unfolding separation_from_a deepest_below_a
returns-then-plane_separation-speculative_distance c =
    let g = c.args in let a = g.a.now in let b = g.b.now in
    let test = off_face a.size a.numbers.now b.size b.numbers.now (inv_rotate_of g.transform.q) (transform_point_of g.transform) g.cache.index_a
    _ c.plane_at-plane.ensures _ c.inv_rotate_vector.ensures _ c.neg-direction.ensures _ c.support_vertex-vertex.ensures
    _ c.vertex_at.ensures _ c.transform_point-support.ensures _ c.plane_separation.ensures _ _ c.speculative_distance.ensures in
    a_far _ _ _ _ _ _ _ _ _ test c.if-plane_separation-speculative_distance.true _ c.empty_contact.ensures _ refl

pub overflow_cast-vertex : goal.overflow_cast-vertex
overflow_cast-vertex c = let b = support_byte _ _ _ c.requires.1 _ _ c.support_vertex-vertex.ensures in
    omega (arith, b)

pub returns : goal.returns
unfolding separation_from_a deepest_below_a
returns c =
    let g = c.args in let a = g.a.now in let b = g.b.now in
    let test = off_face a.size a.numbers.now b.size b.numbers.now (inv_rotate_of g.transform.q) (transform_point_of g.transform) g.cache.index_a
    _ c.plane_at-plane.ensures _ c.inv_rotate_vector.ensures _ c.neg-direction.ensures _ c.support_vertex-vertex.ensures
    _ c.vertex_at.ensures _ c.transform_point-support.ensures _ c.plane_separation.ensures _ _ c.speculative_distance.ensures in
    let vertex = is_deepest a.size a.numbers.now b.size b.numbers.now (inv_rotate_of g.transform.q) (transform_point_of g.transform) g.cache.index_a
    _ c.plane_at-plane.ensures _ c.inv_rotate_vector.ensures _ c.neg-direction.ensures _ c.support_vertex-vertex.ensures in
    a_close _ _ _ _ _ _ _ _ _ test c.if-plane_separation-speculative_distance.false _ vertex _ c.build_face_a_contact-built.ensures
    _ (c.served.ensures number_of)
