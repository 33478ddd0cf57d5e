-- Both sides of speculative and slop where a cached axis is tried again, and where an edge contact is tried, one row each. Assumes nothing.
use mathlib.Core.Path.{◌≡◌, refl}
use mathlib.Core.Bool.{Bool, true, false}
use mathlib.Core.List.{List, [], ◌∷◌, ◌++◌, map}
use Prim.Native.Nat.{ℕ, ◌+◌, ◌-◌}
use lib.ListN.{get_or}
use lib.Dec.{eqb}
use lib.Ieee.{Float, to_bits}
use lib.Ieee as Ieee
use Rattle.root.specs.Root.{isqrt, pattern, root_of}
use Rattle.units.specs.Units.{units_per_meter}
use Rattle.units.specs.Limits.{slop, speculative}
use Rattle.vector.specs.declared.Transform.{Transform}
use Rattle.vector.specs.Rounded.{float}
use Rattle.vector.specs.Scalar.{abs_of, min_of, max_of}
use Rattle.vector.specs.Arithmetic.{add_of, sub_of, neg_of, dot_of, cross_of, length_squared_of, mul_sv_of, mul_add_of, mul_sub_of, lerp_of, normalize_of}
use Rattle.vector.specs.Shape.{plane_separation_of, plane_of, farther_of, farthest_of, support_vertex_of}
use Rattle.vector.specs.Awaited.{arbitrary_perp_of, line_distance_of, is_fraction_of, is_within_segments_of}
use Rattle.rotation.specs.Rotation.{matrix_of, mul_mv_of, rotate_of, inv_rotate_of, transform_point_of, inv_transform_point_of, invert_of}
use Rattle.manifold.specs.declared.SatCache.{SatCache}
use Rattle.manifold.specs.Records.{empty_contact, past_point}
use Rattle.manifold.specs.Pairs.{owner_of, pair_of, flip_of}
use Rattle.manifold.specs.Polygons.{turns}
use Rattle.hull_links.specs.Walks.{until, ring}
use Rattle.hull.specs.Numbers.{vertex_at, plane_at, support_at}
use Rattle.axis.specs.declared.Axis.{Axis}
use Rattle.clip_cut.specs.Cut.{meeting_of, leaving_of, entering_of, put_out_of, cut_from, last_of, cut_of}
use Rattle.clip_incident.specs.Incident.{projection_of, flatter_of, flattest_from, flattest_of, lower_face_of, incident_face_of}
use Rattle.clip.specs.Candidates.{tagged_of, corner_of, built_of, side_plane_of, cut_on, goes_on, cut_round, candidates_of}
use Rattle.reduce_scores.specs.Images.{image_of, least_separation_of, touching_of}
use Rattle.reduce_scores.specs.Scores.{better_pick_of, as_good_of, reach_of, first_turn, across_of, spread_of, signed_area_of, side_of, outside_of, triangle_of}
use Rattle.reduce.specs.Reduce.{without, taken, first_best, second_best, third_best, fourth_best, fourth_picks, third_picks, second_picks, first_picks}
use Rattle.reduce.specs.Reduce.{all_or_picked, points_of}
use Rattle.reduce_points.specs.Points.{point_of, placed_from, normal_of, contact_of}
use Rattle.contacts.specs.Faces.{images_on, picks_on, carried_of, contact_on_a, contact_on_b, on_face, face_a_of, face_b_of}
use Rattle.contacts.specs.EdgePairs.{edge_point, along_of, nearest_of, edge_contact_of}
use Rattle.collide_outcome.specs.Builds.{Built, touched_of}
use Rattle.collide_outcome.specs.Served.{Cached, near_of, served_of}
use Rattle.collide_cached.specs.Again.{deepest_below_a, separation_from_a, cached_face_a_of, deepest_below_b, separation_from_b, cached_face_b_of}
use Rattle.collide_cached.specs.Again.{cached_edge_of}
use Rattle.collide_cached.specs.Ridges.{ridge_of, carried_ridge, cross_over, wide_of, crosses_of, axis_between}
use Rattle.collide_full.specs.Full.{tries_edge, pair_contact, instead_of}
use Rattle.computed.proofs.Rows.{Row, is, yes, no, given, said, bits, vec}
use Rattle.computed.proofs.Shapes.{Sample, in_unit, tetrahedron, upright, lying}

abbrev numbers_of : Sample → List Float
numbers_of h = map float h.bits

abbrev cache : (separation a b : ℕ) → SatCache
cache separation a b = record { separation = separation; kind = 0; index_a = a; index_b = b; hit = 0 }

-- the tetrahedron, and the same turned by half a turn about z: their faces 2, x = 0 of each, look at each other across a gap, which is given negated
abbrev across : ℕ → Transform
across x = record { p = vec x 0x3f80_0000 0; q = record { v = vec 0 0 0x3f80_0000; s = float 0 } }

abbrev from_a : ℕ → ℕ
from_a x = bits (separation_from_a tetrahedron.size (numbers_of tetrahedron) tetrahedron.size (numbers_of tetrahedron) (across x) 2)

abbrev from_b : ℕ → ℕ
from_b x = bits (separation_from_b tetrahedron.size (numbers_of tetrahedron) tetrahedron.size (numbers_of tetrahedron) (across x) 2)

-- at this unit: face 2 of A, and face 2 of B, tried again after this separation
abbrev again_a_in : (unit x separation : ℕ) → Cached
again_a_in unit x separation =
    let h = in_unit unit tetrahedron in
    cached_face_a_of h.size (numbers_of h) h.links h.size (numbers_of h) h.links (across x) (cache separation 2 9)

abbrev again_b_in : (unit x separation : ℕ) → Cached
again_b_in unit x separation =
    let h = in_unit unit tetrahedron in
    cached_face_b_of h.size (numbers_of h) h.links h.size (numbers_of h) h.links (across x) (cache separation 9 2)

abbrev again_a : ℕ → ℕ → Cached
again_a x separation = again_a_in 1 x separation

abbrev again_b : ℕ → ℕ → Cached
again_b x separation = again_b_in 1 x separation

-- two edges that cross, the second at (x, y, 0), not turned
abbrev beside : ℕ → ℕ → Transform
beside x y = record { p = vec x y 0; q = record { v = vec 0 0 0; s = float 0x3f80_0000 } }

-- the pair of edges tried again after this separation, the second edge at x
abbrev again_edge_in : (unit x separation : ℕ) → Cached
again_edge_in unit x separation =
    cached_edge_of (in_unit unit upright).size (numbers_of upright) upright.links (in_unit unit lying).size (numbers_of lying) lying.links (beside x 0)
    (cache separation 0 0)

abbrev again_edge : ℕ → ℕ → Cached
again_edge x separation = again_edge_in 1 x separation

-- the four dots of the sign tests, by their bits; the parallel test
abbrev crossing : (cba dba adc bdc : ℕ) → Bool
crossing cba dba adc bdc = cross_over (float cba) (float dba) (float adc) (float bdc)

abbrev wide : (cba dba x y z : ℕ) → Bool
wide cba dba x y z = wide_of (float cba) (float dba) (vec x y z)

-- two separations differ by less than slop, in metres
abbrev near : ℕ → ℕ → Bool
near a b = near_of 1 (cache a 0 0) (cache b 0 0)

-- what was built, by whether it touches and the bits of its separation; and whether that serves again after 0
abbrev made : Bool → ℕ → Built
made touching separation = record { status = 0; touching = touching; contact = empty_contact; cache = cache separation 0 0 }

-- a contact of so many points and this separation
abbrev standing : ℕ → ℕ → Built
standing count separation =
    record { status = 0; touching = true; contact = record { points = []; normal = vec 0 0 0; count = count }; cache = cache separation 0 0 }

abbrev edge : ℕ → Axis
edge separation = record { normal = vec 0x3f80_0000 0 0; separation = float separation; index_a = 0; index_b = 0 }

-- the type that is left in the cache where the edge contact may replace one of two points at 0: 4 where it does. The second edge stands at y
abbrev replaced_in : (unit y separation : ℕ) → ℕ
replaced_in unit y separation =
    (instead_of (in_unit unit upright).size (numbers_of upright) upright.links (in_unit unit lying).size (numbers_of lying) lying.links (beside 0 y)
    (standing 2 0) (edge separation)
    ).cache.kind

abbrev replaced : ℕ → ℕ → ℕ
replaced y separation = replaced_in 1 y separation

-- a gap with these bits, negated as `across` takes it; the rows of one unit, given the bits of its slop s and its speculative distance f
abbrev gap : ℕ → ℕ
gap b = 0x8000_0000 + b

abbrev both_sides : (unit s f : ℕ) → List Row
both_sides unit s f =
    yes (again_a_in unit (gap f) 0).hit ∷ no (again_a_in unit (gap (f - 1)) 0).hit ∷ no (eqb (again_a_in unit (gap (f - 1)) (f - 1)).contact.count 0)
    ∷ yes (again_b_in unit (gap f) 0).hit ∷ no (again_b_in unit (gap (f - 1)) 0).hit ∷ no (eqb (again_b_in unit (gap (f - 1)) (f - 1)).contact.count 0)
    ∷ yes (again_edge_in unit (f + 1) 0).hit ∷ no (again_edge_in unit f 0).hit ∷ is (again_edge_in unit f f).contact.count 1
    ∷ is (replaced_in unit 0 s) 0 ∷ is (replaced_in unit 0 (s + 1)) 4
    ∷ []

abbrev table : List Row
table =
    -- "Type 2 or 3: support vertex and separation of the cached face. At or above speculative: hit 1, no points. Else build the face contact":
    -- one bit above, at it, one bit below
    is (from_a 0xbca3_d70b) 0x3ca3_d70b ∷ is (from_a 0xbca3_d70a) 0x3ca3_d70a ∷ is (from_a 0xbca3_d709) 0x3ca3_d709
    ∷ yes (again_a 0xbca3_d70b 0).hit ∷ yes (again_a 0xbca3_d70a 0).hit ∷ no (again_a 0xbca3_d709 0).hit
    ∷ is (again_a 0xbca3_d70a 0x3ca3_d70a).contact.count 0 ∷ no (eqb (again_a 0xbca3_d709 0x3ca3_d709).contact.count 0)
    ∷ is (from_b 0xbca3_d70b) 0x3ca3_d70b ∷ is (from_b 0xbca3_d70a) 0x3ca3_d70a ∷ is (from_b 0xbca3_d709) 0x3ca3_d709
    ∷ yes (again_b 0xbca3_d70b 0).hit ∷ yes (again_b 0xbca3_d70a 0).hit ∷ no (again_b 0xbca3_d709 0).hit
    ∷ is (again_b 0xbca3_d70a 0x3ca3_d70a).contact.count 0 ∷ no (eqb (again_b 0xbca3_d709 0x3ca3_d709).contact.count 0)
    -- "if it touches and the two separations differ by less than slop: hit 1"
    ∷ no (near 0x3ba3_d70a 0) ∷ yes (near 0x3ba3_d709 0) ∷ no (near 0 0x3ba3_d70a) ∷ yes (near 0 0x3ba3_d709)
    ∷ no (near 0xbba3_d70a 0) ∷ yes (near 0xbba3_d709 0) ∷ no (near 0 0xbba3_d70a) ∷ yes (near 0 0xbba3_d709)
    ∷ yes (near 0 0) ∷ no (near 0x7fc0_0000 0) ∷ no (near 0 0x7fc0_0000)
    ∷ yes (served_of 1 (cache 0 0 0) (made true 0x3ba3_d709)).hit ∷ no (served_of 1 (cache 0 0 0) (made true 0x3ba3_d70a)).hit
    ∷ no (served_of 1 (cache 0 0 0) (made false 0)).hit
    -- "Type 4: the three sign tests,": each product strictly on its side of 0
    ∷ yes (crossing 0x3f80_0000 0x8000_0001 0xbf80_0000 0x3f80_0000) ∷ no (crossing 0x3f80_0000 0x8000_0000 0xbf80_0000 0x3f80_0000)
    ∷ no (crossing 0x3f80_0000 0 0xbf80_0000 0x3f80_0000)
    ∷ yes (crossing 0x3f80_0000 0xbf80_0000 0x8000_0001 0x3f80_0000) ∷ no (crossing 0x3f80_0000 0xbf80_0000 0x8000_0000 0x3f80_0000)
    ∷ no (crossing 0x3f80_0000 0xbf80_0000 0x0000_0001 0x3f80_0000)
    ∷ yes (crossing 0x0000_0001 0xbf80_0000 0xbf80_0000 0x3f80_0000) ∷ no (crossing 0x0000_0001 0xbf80_0000 0xbf80_0000 0x3e80_0000)
    ∷ no (crossing 0xbf80_0000 0x3f80_0000 0xbf80_0000 0x3f80_0000) ∷ yes (crossing 0xbf80_0000 0x3f80_0000 0x3f80_0000 0xbf80_0000)
    -- "the 0.005 parallel test,": the larger square at 0.005 * 0.005 * the square of the direction or above it is not near parallel
    ∷ yes (wide 0x3ba3_d70a 0 0x3f80_0000 0 0) ∷ no (wide 0x3ba3_d709 0 0x3f80_0000 0 0)
    ∷ yes (wide 0 0xbba3_d70a 0 0x3f80_0000 0) ∷ no (wide 0 0xbba3_d709 0 0 0x3f80_0000)
    -- every other order of its products and sums turns these
    ∷ yes (wide 0x3b14_6d04 0 0x3e6d_53a3 0x3e2d_1033 0x3eb3_7cfe) ∷ no (wide 0x3c63_a22f 0 0x3fbe_d2e2 0x3feb_2627 0x3fba_8a90)
    -- "then the axis. Strictly above speculative: hit 1, no points. Else as for a face.": one bit above, at it, one bit below
    ∷ yes (again_edge 0x3ca3_d70b 0).hit ∷ no (again_edge 0x3ca3_d70a 0).hit ∷ no (again_edge 0x3ca3_d709 0).hit
    ∷ is (again_edge 0x3ca3_d70b 0x3ca3_d70b).contact.count 0 ∷ is (again_edge 0x3ca3_d70a 0x3ca3_d70a).contact.count 1
    ∷ is (again_edge 0xbca3_d70a 0xbca3_d70a).contact.count 1
    -- "An edge point has place 0" (document 02, d)
    ∷ is (get_or (again_edge 0xbca3_d70a 0xbca3_d70a).contact.points 0 past_point).place 0
    ∷ is (get_or (again_edge 0xbca3_d70a 0xbca3_d70a).contact.points 1 past_point).place 255
    -- "The edge contact is then tried if there is a pair and either no points stand or the edge separation is strictly above the cache's plus slop;"
    ∷ no (tries_edge 1 (standing 1 0) (edge 0x3ba3_d70a)) ∷ yes (tries_edge 1 (standing 1 0) (edge 0x3ba3_d70b))
    ∷ no (tries_edge 1 (standing 1 0) (edge 0x3ba3_d709))
    ∷ yes (tries_edge 1 (standing 0 0) (edge 0xff80_0000)) ∷ no (tries_edge 1 (standing 1 0) (edge 0x7fc0_0000))
    ∷ no (tries_edge 1 (standing 4 0xbf80_0000) (edge 0xbf7e_b852)) ∷ yes (tries_edge 1 (standing 4 0xbf80_0000) (edge 0xbf7e_b851))
    -- "it replaces contact and cache only if it made its one point.": where the nearest points lie within both edges, ends too
    ∷ is (replaced 0 0x3ba3_d70a) 0 ∷ is (replaced 0 0x3ba3_d70b) 4 ∷ is (replaced 0x3f80_0000 0x3ba3_d70b) 4 ∷ is (replaced 0x3f80_0002 0x3ba3_d70b) 0
    ∷ is (replaced 0xbf80_0000 0x3ba3_d70b) 4 ∷ is (replaced 0xbf80_0001 0x3ba3_d70b) 0
    -- the same at the other units, 10, 100 and 1000 a metre: "multiplied by it, as are slop, speculative distance" (document 02, i). At or above
    -- speculative a face serves with no points, strictly above it a pair of edges; one float nearer each is built and has points; slop strictly passed
    ∷ (both_sides 10 0x3d4c_cccc 0x3e4c_cccc ++ (both_sides 100 0x3f00_0000 0x4000_0000 ++ both_sides 1000 0x40a0_0000 0x41a0_0000))

pub limits : given table ≡ said table
unfolding units_per_meter slop speculative isqrt pattern root_of abs_of min_of max_of add_of sub_of neg_of dot_of cross_of length_squared_of mul_sv_of
    mul_add_of mul_sub_of
    lerp_of normalize_of plane_separation_of plane_of farther_of farthest_of support_vertex_of arbitrary_perp_of line_distance_of is_fraction_of
    is_within_segments_of
    matrix_of mul_mv_of rotate_of inv_rotate_of transform_point_of inv_transform_point_of invert_of owner_of pair_of flip_of turns until ring vertex_at
    plane_at support_at
    meeting_of leaving_of entering_of put_out_of cut_from last_of cut_of projection_of flatter_of flattest_from flattest_of lower_face_of incident_face_of
    tagged_of corner_of
    built_of side_plane_of cut_on goes_on cut_round candidates_of image_of least_separation_of touching_of better_pick_of as_good_of reach_of first_turn
    across_of spread_of
    signed_area_of side_of outside_of triangle_of without taken first_best second_best third_best fourth_best fourth_picks third_picks second_picks first_picks
    all_or_picked points_of point_of placed_from normal_of contact_of images_on picks_on carried_of contact_on_a contact_on_b on_face face_a_of face_b_of
    edge_point along_of
    nearest_of edge_contact_of touched_of near_of served_of deepest_below_a separation_from_a cached_face_a_of deepest_below_b separation_from_b
    cached_face_b_of cached_edge_of
    ridge_of carried_ridge cross_over wide_of crosses_of axis_between tries_edge pair_contact instead_of Ieee.size Ieee.of_bits to_bits Ieee.lt Ieee.le Ieee.neg
    Ieee.sub Ieee.div Ieee.add Ieee.mul
limits = refl
