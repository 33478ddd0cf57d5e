-- Both sides of each limit of document 01's "Refusal numbers", and what each type byte asks for, one row each. Assumes nothing.
use mathlib.Core.Path.{◌≡◌, refl}
use mathlib.Core.Bool.{Bool}
use mathlib.Core.List.{List, [], ◌∷◌}
use Prim.Native.Nat.{ℕ}
use lib.IntN.{ℤ, pos, negsuc}
use lib.Ieee.{Float, to_bits}
use lib.Ieee as Ieee
use Rattle.root.specs.Root.{isqrt, pattern, root_of}
use Rattle.bounds.specs.LowBits.{pattern_of, embed_of, index_of}
use Rattle.units.specs.Units.{known_unit, units_per_meter}
use Rattle.units.specs.Limits.{slop, speculative, huge, coordinate_limit, offset_limit, edge_limit}
use Rattle.vector.specs.declared.Transform.{Transform}
use Rattle.vector.specs.Rounded.{float}
use Rattle.vector.specs.Scalar.{abs_of, min_of, max_of}
use Rattle.vector.specs.Arithmetic.{add_of, sub_of, neg_of, abs_vec_of, dot_of, cross_of, length_squared_of, mul_sv_of, mul_add_of, mul_sub_of, lerp_of}
use Rattle.vector.specs.Arithmetic.{normalize_of}
use Rattle.vector.specs.Shape.{plane_separation_of, plane_of, center_of, extents_of, farther_of, farthest_of, support_vertex_of}
use Rattle.lanes.specs.Lanes.{embed_w_of, least_of, least_w_of, lesser_of, min_index_of}
use Rattle.rotation.specs.Rotation.{matrix_of, transpose_of, mul_mv_of, rotate_of, inv_rotate_of, transform_point_of, inv_transform_point_of, invert_of}
use Rattle.manifold.specs.declared.SatCache.{SatCache}
use Rattle.manifold.specs.declared.Answer.{Answer}
use Rattle.manifold.specs.Pairs.{owner_of, pair_of}
use Rattle.manifold.specs.Polygons.{turns}
use Rattle.hull_links.specs.Tests.{◌&◌, ◌or◌, implies, all, first_broken, any}
use Rattle.hull_links.specs.Walks.{has, firsts, until, ring}
use Rattle.hull_links.specs.Rules.{h1, vertex_in_range, edge_in_range, face_in_range, h2, twins_at, h3, linked_at, h4, new_next, h5}
use Rattle.hull_links.specs.Rules.{ring_holds, ring_right, h6, fan_holds, fan_right, h7}
use Rattle.hull_limits.specs.Measures.{inside, within_limit, near_one, apart, in_box, plane_right, ends_apart}
use Rattle.hull_limits.specs.Transform.{transform_right}
use Rattle.hull.specs.Rule8.{finite_at, small_at, vertex_in_box, plane_right_at, edge_long, h8, broken_rule}
use Rattle.hull_shell.specs.Shell.{is_in, listed, edges_with, leads, one_step_on, within, h9}
use Rattle.hull.specs.Numbers.{box_of, vertex_at, plane_at, support_at}
use Rattle.axis_best.specs.Leads.{stops_of, better_of, lead_after}
use Rattle.axis_faces.specs.Support.{support_value_of, group_of, splat_of, least_lanes, support_of}
use Rattle.axis_faces.specs.Faces.{bias_of, direction_of, exact_of, face_axis_of, face_separation_of, farthest_vertex_of, face_taken_of, face_of}
use Rattle.axis_faces.specs.Faces.{face_search_of}
use Rattle.axis_edges.specs.Edges.{dot_right, difference_of, sum_of, edge_of_a, turned_normal, turned_point, edge_of_b, passes_of, parallel_of, between_of}
use Rattle.axis_edges.specs.Edges.{axis_across_of, edge_separation_of}
use Rattle.axis_edges.specs.Edges.{tried_of, edge_pair_of, row_pairs}
use Rattle.axis_pairs.specs.All.{all_pairs}
use Rattle.axis.specs.Search.{axis_of, apart_of, edge_of, found_of, search_answer_of, side_of_a, side_of_b, pairs_of, search_of}
use Rattle.axis.specs.Meaning.{cache_of}
use Rattle.clip_cut.specs.Cut.{put_out_of, cut_from, last_of, cut_of}
use Rattle.clip_incident.specs.Incident.{projection_of, flatter_of, flattest_from, flattest_of, lower_face_of, incident_face_of}
use Rattle.clip.specs.Candidates.{tagged_of, corner_of, built_of, side_plane_of, cut_on, goes_on, cut_round, candidates_of}
use Rattle.reduce_scores.specs.Images.{least_separation_of, touching_of}
use Rattle.contacts.specs.Faces.{on_face, face_a_of, face_b_of}
use Rattle.collide_outcome.specs.Answers.{retired_of, answer_of}
use Rattle.collide_outcome.specs.Served.{near_of, served_of}
use Rattle.collide_refusals.specs.Refusals.{first_half, cache_right, refusal_of}
use Rattle.collide_cached.specs.Again.{deepest_below_a, separation_from_a, cached_face_a_of, deepest_below_b, separation_from_b, cached_face_b_of}
use Rattle.collide_cached.specs.Again.{cached_edge_of}
use Rattle.collide_cached.specs.Ridges.{ridge_of, carried_ridge, cross_over, wide_of, crosses_of, axis_between}
use Rattle.collide_full.specs.Full.{apart_built, contact_a, contact_b, winner_contact, with_edge, found_contact, after_search, full_of}
use Rattle.collide.specs.Call.{after_cached, worked_of, collide_of}
use Rattle.computed.proofs.Rows.{Row, row, is, yes, no, given, said, vec, sizes, at}
use Rattle.computed.proofs.Shapes.{Sample, in_unit, numbers_of, tetrahedron, upright, lying, nothing, point, padding, faced}

abbrev cache : (separation kind a b hit : ℕ) → SatCache
cache separation kind a b hit = record { separation = separation; kind = kind; index_a = a; index_b = b; hit = hit }

-- here or there
abbrev here : Transform
here = at 0 0

abbrev above : Transform
above = at 0 0x3f80_0000

abbrev below : Transform
below = at 0 0xbf80_0000

abbrev away : Transform
away = at 0x447a_0000 0

-- refusal 4 of a cache of this type with these numbers, A a tetrahedron's sizes and B a cube's
abbrev served : (kind a b : ℕ) → Bool
served kind a b = cache_right (sizes 4 12 4) (sizes 8 24 6) (cache 0 kind a b 0)

-- an answer: its status, how many points, its mark, and the cache
abbrev told : Answer → List ℕ
told r =
    r.outcome.status ∷ r.outcome.contact.count ∷ r.outcome.retired ∷ r.cache.separation ∷ r.cache.kind ∷ r.cache.index_a ∷ r.cache.index_b
    ∷ r.cache.hit ∷ []

-- the refusal before any work
abbrev refusal : Sample → Sample → Transform → SatCache → ℕ
refusal a b x c = refusal_of a.size (numbers_of a) a.links b.size (numbers_of b) b.links x c

-- a transform and a cache that are refused by 3 and by 4; two tetrahedra at these units, with a transform at this height and a cache of type 2 for this face
abbrev nowhere : Transform
nowhere = at 0 0x7fc0_0000

abbrev unserved : SatCache
unserved = cache 0 2 4 4 0

abbrev both : (a b z face : ℕ) → ℕ
both a b z face = refusal (in_unit a tetrahedron) (in_unit b tetrahedron) (at 0 z) (cache 0 2 face 0 0)

-- the call of two tetrahedra of units 1 and 10, with this capacity, any transform and a cache of type 2 and any other bits
abbrev unlike : ℤ → List ℕ
unlike capacity =
    told
    (collide_of tetrahedron.size (numbers_of tetrahedron) tetrahedron.links (in_unit 10 tetrahedron).size (numbers_of tetrahedron) tetrahedron.links
    nowhere capacity (cache 0x7f80_0001 2 9 9 1))

-- the call of two hulls of nothing, with this capacity and a cache of this type and any other bits; and that cache with this status
abbrev called : ℤ → ℕ → List ℕ
called capacity kind = told (collide_of (sizes 0 0 0) [] [] (sizes 0 0 0) [] [] here capacity (cache 0x7f80_0001 kind 9 9 1))

abbrev untouched : ℕ → ℕ → List ℕ
untouched status kind = status ∷ 0 ∷ 0 ∷ 0x7f80_0001 ∷ kind ∷ 9 ∷ 9 ∷ 1 ∷ []

-- the work for a cache of this type with separation 2 and hit 1; and the type that it leaves in the cache, 0 where the cache is cleared
abbrev work : Sample → Sample → Transform → ℕ → Answer
work a b x kind = worked_of a.size (numbers_of a) a.links b.size (numbers_of b) b.links x (cache 0x4000_0000 kind 0 0 1)

abbrev worked : Sample → Sample → Transform → ℕ → List ℕ
worked a b x kind = told (work a b x kind)

abbrev leaves : Sample → Sample → Transform → ℕ → ℕ
leaves a b x kind = (work a b x kind).cache.kind

-- the status of the contact on face 0 of A with vertex v of B, and on face 0 of B with vertex v of A
abbrev on_a : ℕ → ℕ
on_a v = (face_a_of faced.size (numbers_of faced) faced.links point.size (numbers_of point) point.links here 0 v).status

abbrev on_b : ℕ → ℕ
on_b v = (face_b_of point.size (numbers_of point) point.links faced.size (numbers_of faced) faced.links here 0 v).status

-- the status of the side that wins, where A's contact is refusal 5 and B's none
abbrev winner : ℕ → ℕ → ℕ
winner a b =
    (winner_contact point.size (numbers_of point) point.links faced.size (numbers_of faced) faced.links here
    (record { normal = vec 0 0 0; separation = float a; index_a = 0; index_b = 9 })
    (record { normal = vec 0 0 0; separation = float b; index_a = 0; index_b = 0 })
    ).status

-- no points, and the cache: as it was but for hit; an axis apart of this type with separation 1, and this mark; refusal 5, and the cache as it was
abbrev kept_but : ℕ → ℕ → List ℕ
kept_but hit kind = 0 ∷ 0 ∷ 0 ∷ 0x4000_0000 ∷ kind ∷ 0 ∷ 0 ∷ hit ∷ []

abbrev apart_by : ℕ → ℕ → List ℕ
apart_by mark kind = 0 ∷ 0 ∷ mark ∷ 0x3f80_0000 ∷ kind ∷ 0 ∷ 0 ∷ 0 ∷ []

abbrev refused5 : ℕ → List ℕ
refused5 kind = 5 ∷ 0 ∷ 0 ∷ 0x4000_0000 ∷ kind ∷ 0 ∷ 0 ∷ 1 ∷ []

-- two edges far apart, where each cached axis is a hit, and the full search stops at A's first face
abbrev searches : ℕ → Row
searches kind = is (leaves upright lying away kind) 2

-- and the mark that it gives
abbrev mark : ℕ → ℕ
mark kind = (work upright lying away kind).outcome.retired

abbrev table : List Row
table =
    -- "1, 2: hull A, hull B breaks a rule"; "3: the transform breaks a rule"; "Then 1, 2, 3, 4": the first of them
    is (refusal nothing nothing (at 0 0x7fc0_0000) (cache 0 2 4 4 0)) 1
    ∷ is (refusal tetrahedron nothing (at 0 0x7fc0_0000) (cache 0 2 4 4 0)) 2
    ∷ is (refusal tetrahedron tetrahedron (at 0 0x4580_0001) (cache 0 2 4 4 0)) 3
    ∷ is (refusal tetrahedron tetrahedron (at 0 0x4580_0000) (cache 0 2 4 4 0)) 4
    ∷ is (refusal tetrahedron tetrahedron (at 0 0x4580_0000) (cache 0 2 3 4 0)) 0
    -- document 02, i: "17, units differ, after 2 and before 3"; "H1 also for an unknown unit", of A and of B
    ∷ is (refusal nothing (in_unit 10 tetrahedron) nowhere unserved) 1 ∷ is (refusal (in_unit 10 nothing) tetrahedron nowhere unserved) 1
    ∷ is (refusal tetrahedron (in_unit 10 nothing) nowhere unserved) 2 ∷ is (refusal (in_unit 10 tetrahedron) nothing nowhere unserved) 2
    ∷ is (both 2 2 0 0) 1 ∷ is (both 2 1 0 0) 1 ∷ is (both 1 2 0 0) 2
    ∷ is (both 1 10 0x7fc0_0000 4) 17 ∷ is (both 1 10 0x7fc0_0000 0) 17 ∷ is (both 1 10 0 4) 17 ∷ is (both 1 10 0 0) 17
    ∷ is (both 10 1 0 0) 17 ∷ is (both 10 100 0 0) 17 ∷ is (both 1000 100 0 0) 17
    ∷ row (unlike (pos 4)) (untouched 17 2) ∷ row (unlike (pos 3)) (untouched 0 2)
    -- of one unit the transform's limit goes by it: 40960 at 10, 409600 at 100, 4096000 at 1000
    ∷ is (both 10 10 0x7fc0_0000 4) 3 ∷ is (both 10 10 0x4720_0001 4) 3 ∷ is (both 10 10 0x4720_0001 0) 3 ∷ is (both 10 10 0x4720_0000 4) 4
    ∷ is (both 10 10 0x4720_0000 3) 0 ∷ is (both 1 1 0x4720_0000 3) 3
    ∷ is (both 100 100 0x48c8_0001 3) 3 ∷ is (both 100 100 0x48c8_0000 3) 0 ∷ is (both 1000 1000 0x4a7a_0001 3) 3 ∷ is (both 1000 1000 0x4a7a_0000 3) 0
    -- "4: the cache's type is 2 and index_a >= F of A;"
    ∷ yes (served 2 3 255) ∷ no (served 2 4 0) ∷ no (served 2 255 0)
    -- "3 and index_b >= F of B;"
    ∷ yes (served 3 255 5) ∷ no (served 3 0 6) ∷ no (served 3 0 255)
    -- "4 and either index is odd or not below its hull's H"
    ∷ yes (served 4 0 0) ∷ yes (served 4 10 22) ∷ no (served 4 12 22) ∷ no (served 4 10 24) ∷ no (served 4 11 22) ∷ no (served 4 10 23)
    ∷ no (served 4 1 0) ∷ no (served 4 0 1)
    -- the other types look at no number
    ∷ yes (served 0 255 255) ∷ yes (served 1 255 255) ∷ yes (served 5 255 255) ∷ yes (served 6 255 255) ∷ yes (served 7 255 255) ∷ yes (served 8 255 255)
    ∷ yes (served 9 255 255) ∷ yes (served 255 255 255)
    -- "5: the face .. has a support vertex not below V"
    ∷ is (on_a 0) 0 ∷ is (on_a 1) 5 ∷ is (on_b 0) 0 ∷ is (on_b 1) 5
    -- "capacity below 4 comes first and is accepted, with no points, the cache untouched, nothing else looked at."
    ∷ row (called (pos 3) 2) (untouched 0 2) ∷ row (called (pos 0) 2) (untouched 0 2) ∷ row (called (negsuc 0) 2) (untouched 0 2)
    ∷ row (called (negsuc 0x7fff_ffff) 2) (untouched 0 2)
    -- "Refusals .. return an empty contact and leave the cache's bits, hit included."
    ∷ row (called (pos 4) 2) (untouched 1 2) ∷ row (called (pos 0x7fff_ffff) 2) (untouched 1 2)
    -- document 02, j: a retired type acts as type 0, and the mark "is set only on accepted calls with capacity 4 or more"
    ∷ row (worked faced point above 6) (apart_by 1 2) ∷ row (worked point faced below 7) (apart_by 1 3) ∷ row (worked faced point above 8) (apart_by 1 2)
    ∷ row (worked faced padding here 6) (refused5 6) ∷ row (worked padding faced here 7) (refused5 7)
    ∷ row (called (pos 3) 6) (untouched 0 6) ∷ row (called (pos 3) 7) (untouched 0 7) ∷ row (called (pos 3) 8) (untouched 0 8)
    ∷ row (called (pos 4) 6) (untouched 1 6) ∷ row (called (pos 4) 7) (untouched 1 7) ∷ row (called (pos 4) 8) (untouched 1 8)
    ∷ is (mark 0) 0 ∷ is (mark 1) 0 ∷ is (mark 2) 0 ∷ is (mark 3) 0 ∷ is (mark 4) 0 ∷ is (mark 5) 0 ∷ is (mark 6) 1 ∷ is (mark 7) 1 ∷ is (mark 8) 1
    ∷ is (mark 9) 0 ∷ is (mark 255) 0
    -- "Type 2 or 3: .. At or above speculative: hit 1, no points. .. Else full search."
    ∷ row (worked faced point above 2) (kept_but 1 2) ∷ is (leaves faced point here 2) 0
    ∷ row (worked point faced below 3) (kept_but 1 3) ∷ is (leaves point faced here 3) 0
    -- "Type 4: .. Strictly above speculative: hit 1, no points."; where the tests fail, full search
    ∷ row (worked upright lying away 4) (kept_but 1 4) ∷ row (worked upright lying away 2) (kept_but 1 2) ∷ row (worked upright lying away 3) (kept_but 1 3)
    ∷ row (worked faced point above 4) (apart_by 0 2)
    -- "Otherwise face A wins only if strictly above face B."
    ∷ is (winner 0x3f80_0001 0x3f80_0000) 5 ∷ is (winner 0x3f80_0000 0x3f80_0000) 0 ∷ is (winner 0x3f80_0000 0x3f80_0001) 0
    -- "With 1 to 4 passed, hit becomes 0": the full search leaves its own axis in the cache, and a refusal leaves all as it was
    ∷ row (worked faced point above 0) (apart_by 0 2) ∷ row (worked point faced below 0) (apart_by 0 3) ∷ row (worked faced padding here 0) (refused5 0)
    -- types 1 and 5 to 255 act as type 0: full search
    ∷ searches 0 ∷ searches 1 ∷ searches 5 ∷ searches 6 ∷ searches 7 ∷ searches 8 ∷ searches 9 ∷ searches 10 ∷ searches 127 ∷ searches 128
    ∷ searches 254 ∷ searches 255
    ∷ []

pub limits : given table ≡ said table
unfolding known_unit units_per_meter slop speculative huge coordinate_limit offset_limit edge_limit isqrt pattern root_of pattern_of embed_of index_of abs_of
    min_of
    max_of add_of sub_of neg_of abs_vec_of dot_of cross_of length_squared_of mul_sv_of mul_add_of mul_sub_of lerp_of normalize_of plane_separation_of plane_of
    center_of extents_of
    farther_of farthest_of support_vertex_of embed_w_of least_of least_w_of lesser_of min_index_of matrix_of transpose_of mul_mv_of rotate_of inv_rotate_of
    transform_point_of
    inv_transform_point_of invert_of owner_of pair_of turns ◌&◌ ◌or◌ implies all first_broken has firsts until ring h1 vertex_in_range edge_in_range
    face_in_range h2
    twins_at h3 linked_at h4 new_next h5 ring_holds ring_right h6 fan_holds fan_right h7 inside within_limit near_one apart in_box plane_right ends_apart
    transform_right
    finite_at small_at vertex_in_box plane_right_at edge_long h8 is_in listed edges_with any leads one_step_on within h9 broken_rule box_of vertex_at plane_at
    support_at
    stops_of better_of lead_after support_value_of group_of splat_of least_lanes support_of bias_of direction_of exact_of face_axis_of face_separation_of
    farthest_vertex_of
    face_taken_of face_of face_search_of dot_right difference_of sum_of edge_of_a turned_normal turned_point edge_of_b passes_of parallel_of between_of
    axis_across_of
    edge_separation_of tried_of edge_pair_of row_pairs all_pairs axis_of apart_of edge_of found_of search_answer_of side_of_a side_of_b pairs_of search_of
    cache_of put_out_of
    cut_from last_of cut_of projection_of flatter_of flattest_from flattest_of lower_face_of incident_face_of tagged_of corner_of built_of side_plane_of cut_on
    goes_on
    cut_round candidates_of least_separation_of touching_of on_face face_a_of face_b_of retired_of answer_of near_of served_of first_half cache_right refusal_of
    deepest_below_a separation_from_a cached_face_a_of deepest_below_b separation_from_b cached_face_b_of cached_edge_of ridge_of carried_ridge cross_over
    wide_of crosses_of
    axis_between apart_built contact_a contact_b winner_contact with_edge found_contact after_search full_of after_cached worked_of collide_of Ieee.size
    Ieee.of_bits
    to_bits Ieee.lt Ieee.le Ieee.neg Ieee.sub Ieee.div Ieee.add Ieee.mul
limits = refl
