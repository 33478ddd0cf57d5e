-- Document 02, b, "just tell me if they are apart": both sides of the speculative distance, by each sort of axis alone, and the refusals in their order, one
-- row each. Assumes nothing.
use mathlib.Core.Path.{◌≡◌, refl}
use mathlib.Core.Bool.{Bool}
use mathlib.Core.List.{List, [], ◌∷◌, ◌++◌}
use Prim.Native.Nat.{ℕ, ◌+◌, ◌-◌}
use lib.ListN.{length, get_or}
use lib.Ieee.{Float, to_bits}
use lib.Ieee as Ieee
use Rattle.root.specs.Root.{isqrt, pattern, root_of}
use Rattle.bounds.specs.LowBits.{pattern_of, embed_of, index_of}
use Rattle.units.specs.Units.{known_unit, units_per_meter}
use Rattle.units.specs.Limits.{slop, speculative, huge, coordinate_limit, offset_limit, edge_limit}
use Rattle.vector.specs.declared.Transform.{Transform}
use Rattle.vector.specs.Rounded.{float}
use Rattle.vector.specs.Scalar.{abs_of, min_of, max_of}
use Rattle.vector.specs.Arithmetic.{add_of, sub_of, neg_of, abs_vec_of, dot_of, mul_sv_of, length_squared_of}
use Rattle.vector.specs.Shape.{plane_of, center_of, extents_of}
use Rattle.lanes.specs.Lanes.{embed_w_of, least_of, least_w_of, lesser_of, min_index_of}
use Rattle.rotation.specs.Rotation.{matrix_of, transpose_of, mul_mv_of}
use Rattle.hull_links.specs.Tests.{◌&◌, ◌or◌, implies, all, any, first_broken}
use Rattle.hull_links.specs.Walks.{has, firsts, until, ring}
use Rattle.hull_links.specs.Rules.{h1, vertex_in_range, edge_in_range, face_in_range, h2, twins_at, h3, linked_at, h4, new_next, h5}
use Rattle.hull_links.specs.Rules.{ring_holds, ring_right, h6, fan_holds, fan_right, h7}
use Rattle.hull_limits.specs.Measures.{inside, within_limit, near_one, apart, in_box, plane_right, ends_apart}
use Rattle.hull_limits.specs.Transform.{transform_right}
use Rattle.hull.specs.Rule8.{finite_at, small_at, vertex_in_box, plane_right_at, edge_long, h8, broken_rule}
use Rattle.hull_shell.specs.Shell.{is_in, listed, edges_with, leads, one_step_on, within, h9}
use Rattle.hull.specs.Numbers.{box_of, vertex_at, plane_at, support_at}
use Rattle.axis_best.specs.declared.Lead.{Lead}
use Rattle.axis_best.specs.Leads.{none_of, stops_of, better_of}
use Rattle.axis_faces.specs.Support.{support_value_of, group_of, splat_of, least_lanes, support_of}
use Rattle.axis_faces.specs.Faces.{bias_of, direction_of, exact_of, face_axis_of, face_separation_of, farthest_vertex_of, face_taken_of, face_of}
use Rattle.axis_edges.specs.Edges.{dot_right, difference_of, sum_of, edge_of_a, turned_normal, turned_point, edge_of_b, passes_of, parallel_of, between_of}
use Rattle.axis_edges.specs.Edges.{axis_across_of, edge_separation_of, tried_of, edge_pair_of}
use Rattle.collide_refusals.specs.Refusals.{question_refusal_of}
use Rattle.apart.specs.Every.{is_far, best_through, through_faces, through_pairs, best_of_all, largest_separation, apart_by_every}
use Rattle.apart.specs.Question.{refused_question, answered_question, question_of}
use Rattle.computed.proofs.Rows.{Row, row, yes, no, given, said, vec, at}
use Rattle.computed.proofs.Shapes.{Sample, in_unit, numbers_of, tetrahedron, upright, lying, nothing, point, padding, faced}

-- the largest of these separations, in metres, is that far
abbrev largest_far : List ℕ → Bool
largest_far list =
    is_far 1 (best_through (λ (i : ℕ) (best : Lead). better_of 1 (vec 0 0 0) (float (get_or list i 0)) i 0 best) (length list) none_of).separation

-- the search through every axis, whatever the hulls are
abbrev far : Sample → Sample → Transform → Bool
far a b x = apart_by_every a.size (numbers_of a) a.links b.size (numbers_of b) b.links x

-- the question: its status, and yes or no
abbrev asked : Sample → Sample → Transform → List ℕ
asked a b x =
    let r = question_of a.size (numbers_of a) a.links b.size (numbers_of b) b.links x in
    r.status ∷ r.apart ∷ []

abbrev nowhere : Transform
nowhere = at 0 0x7fc0_0000

-- "strictly above speculative distance": the float below it, itself, the float above it, of these bits
abbrev either_side : (ℕ → Bool) → ℕ → List Row
either_side test f = no (test (f - 1)) ∷ no (test f) ∷ yes (test (f + 1)) ∷ []

abbrev table : List Row
table =
    either_side (λ f. is_far 1 (float f)) 0x3ca3_d70a ++ either_side (λ f. is_far 10 (float f)) 0x3e4c_cccc
    ++ either_side (λ f. is_far 100 (float f)) 0x4000_0000 ++ either_side (λ f. is_far 1000 (float f)) 0x41a0_0000
    -- by a face of A alone, by a face of B alone, by a pair of edges alone
    ++ either_side (λ f. far faced point (at 0 f)) 0x3ca3_d70a
    ++ either_side (λ f. far point faced (at 0 (0x8000_0000 + f))) 0x3ca3_d70a
    ++ either_side (λ f. far upright lying (at f 0)) 0x3ca3_d70a
    -- "then looks at the largest separation", by `>`: a NaN never is the largest, wherever it stands
    ++ yes (largest_far (0x3ca3_d70b ∷ 0x3ca3_d70a ∷ 0xbf80_0000 ∷ [])) ∷ yes (largest_far (0xbf80_0000 ∷ 0x3ca3_d70a ∷ 0x3ca3_d70b ∷ []))
    ∷ no (largest_far (0x3ca3_d70a ∷ 0xbf80_0000 ∷ [])) ∷ no (largest_far (0x7fc0_0000 ∷ 0x3ca3_d70a ∷ [])) ∷ no (largest_far (0x7fc0_0000 ∷ []))
    ∷ yes (largest_far (0x7fc0_0000 ∷ 0x3ca3_d70b ∷ [])) ∷ yes (largest_far (0x3ca3_d70b ∷ 0x7fc0_0000 ∷ [])) ∷ no (largest_far [])
    -- "Refusals: 1, 2, 3 only, in their old order", and 17 before 3; a refusal is no yes
    ∷ row (asked nothing nothing nowhere) (1 ∷ 0 ∷ []) ∷ row (asked tetrahedron nothing nowhere) (2 ∷ 0 ∷ [])
    ∷ row (asked tetrahedron (in_unit 10 tetrahedron) nowhere) (17 ∷ 0 ∷ []) ∷ row (asked tetrahedron tetrahedron nowhere) (3 ∷ 0 ∷ [])
    ∷ row (asked tetrahedron tetrahedron (at 0 0x4580_0001)) (3 ∷ 0 ∷ [])
    -- at the transform's limit they are apart, at one place they are not
    ∷ row (asked tetrahedron tetrahedron (at 0 0x4580_0000)) (0 ∷ 1 ∷ []) ∷ row (asked tetrahedron tetrahedron (at 0 0)) (0 ∷ 0 ∷ [])
    -- "A padding lane that wins is no refusal here": the lane at z = -1 is the support vertex, and the hulls are not apart
    ∷ no (far faced padding (at 0 0)) ∷ no (far padding faced (at 0 0))
    ∷ []

pub limits : given table ≡ said table
unfolding known_unit units_per_meter slop speculative huge coordinate_limit offset_limit edge_limit isqrt pattern root_of pattern_of embed_of index_of abs_of
    min_of
    max_of add_of sub_of neg_of abs_vec_of dot_of mul_sv_of length_squared_of plane_of center_of extents_of embed_w_of least_of least_w_of lesser_of
    min_index_of matrix_of transpose_of
    mul_mv_of ◌&◌ ◌or◌ implies all any first_broken has firsts until ring h1 vertex_in_range edge_in_range face_in_range h2 twins_at h3 linked_at h4 new_next h5
    ring_holds ring_right h6 fan_holds fan_right h7 inside within_limit near_one apart in_box plane_right ends_apart transform_right finite_at small_at
    vertex_in_box
    plane_right_at edge_long h8 is_in listed edges_with leads one_step_on within h9 broken_rule box_of vertex_at plane_at support_at stops_of better_of
    support_value_of
    group_of splat_of least_lanes support_of bias_of direction_of exact_of face_axis_of face_separation_of farthest_vertex_of face_taken_of face_of dot_right
    difference_of
    sum_of edge_of_a turned_normal turned_point edge_of_b passes_of parallel_of between_of axis_across_of edge_separation_of tried_of edge_pair_of
    question_refusal_of is_far
    best_through through_faces through_pairs best_of_all largest_separation apart_by_every refused_question answered_question question_of Ieee.size Ieee.of_bits
    to_bits Ieee.lt Ieee.le Ieee.neg Ieee.sub Ieee.div Ieee.add Ieee.mul
limits = refl
