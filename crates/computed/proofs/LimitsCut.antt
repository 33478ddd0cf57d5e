-- Both sides of each limit, sign and tie of the cuts, the candidates and the picks, one row each. Assumes nothing.
use mathlib.Core.Path.{◌≡◌, refl}
use mathlib.Core.List.{List, [], ◌∷◌, ◌++◌, map}
use Prim.Native.Nat.{ℕ, ◌*◌}
use lib.ListN.{length, replicate}
use lib.Ieee.{Float, to_bits}
use lib.Ieee as Ieee
use Rattle.std.specs.Prelude.{Some, unwrap_or}
use Rattle.units.specs.Units.{units_per_meter}
use Rattle.units.specs.Limits.{slop, speculative}
use Rattle.vector.specs.declared.Vec3.{Vec3}
use Rattle.vector.specs.declared.Plane.{Plane}
use Rattle.vector.specs.declared.Transform.{Transform}
use Rattle.vector.specs.Rounded.{float}
use Rattle.vector.specs.Scalar.{abs_of, min_of, max_of}
use Rattle.vector.specs.Arithmetic.{add_of, sub_of, neg_of, dot_of, cross_of, length_squared_of, mul_add_of, mul_sub_of}
use Rattle.vector.specs.Shape.{plane_separation_of}
use Rattle.vector.specs.Awaited.{arbitrary_perp_of}
use Rattle.rotation.specs.Rotation.{matrix_of, mul_mv_of}
use Rattle.manifold.specs.declared.ClipVertex.{ClipVertex}
use Rattle.manifold.specs.declared.Point.{Point}
use Rattle.manifold.specs.Records.{zero_pair, zero_vertex, empty_contact}
use Rattle.manifold.specs.Pairs.{flip_of}
use Rattle.manifold.specs.Polygons.{turns}
use Rattle.hull_links.specs.Walks.{until, ring}
use Rattle.hull.specs.Numbers.{vertex_at, plane_at}
use Rattle.clip_corners.specs.Places.{laid}
use Rattle.clip_cut.specs.Cut.{kept, beyond, meeting_of, leaving_of, entering_of, put_out_of}
use Rattle.clip_incident.specs.Incident.{flatter_of, lower_face_of}
use Rattle.clip.specs.Candidates.{built_of, goes_on}
use Rattle.reduce_scores.specs.declared.Best.{Best}
use Rattle.reduce_scores.specs.Images.{image_of, least_separation_of, touching_of}
use Rattle.reduce_scores.specs.Scores.{bias, better_pick_of, as_good_of, reach_of, first_turn, across_of, spread_of, signed_area_of, side_of, outside_of}
use Rattle.reduce_scores.specs.Scores.{triangle_of}
use Rattle.reduce.specs.Reduce.{without, standing, taken, first_best, second_best, third_best, fourth_best, tolerance, fourth_picks, third_picks, second_picks}
use Rattle.reduce.specs.Reduce.{first_picks, all_or_picked, points_of, numbered, places_of}
use Rattle.reduce_points.specs.Points.{point_of, placed_from, placed, normal_of, contact_of}
use Rattle.contacts.specs.Faces.{images_on, picks_on, carried_of, contact_on_a, contact_on_b, on_face}
use Rattle.collide_outcome.specs.Builds.{Built, touched_of}
use Rattle.computed.proofs.Rows.{Row, row, is, yes, no, given, said, bits, vec, sizes}

-- the speculative distance in metres
abbrev far : Float
far = speculative 1

abbrev o : Vec3
o = vec 0 0 0

abbrev up : Vec3
up = vec 0 0 0x3f80_0000

-- a corner at (x, y, 0), at this separation; the corner at the origin with the pair (1, i, 1, j)
abbrev corner : (x y separation : ℕ) → ClipVertex
corner x y separation = record { position = vec x y 0; separation = float separation; pair = zero_pair }

abbrev tagged : ℕ → ℕ → ClipVertex
tagged i j = record { position = o; separation = float 0; pair = record { owner1 = 1; index1 = i; owner2 = 1; index2 = j } }

abbrev level : Plane
level = record { normal = up; offset = float 0 }

-- the pairs that an edge of the corners (1, 2, 1, 3) and (1, 4, 1, 5) puts out when edge 7 of A cuts, these being their distances
abbrev pairs : List ClipVertex → List ℕ
pairs [] = []
pairs (v ∷ vs) = v.pair.owner1 ∷ v.pair.index1 ∷ v.pair.owner2 ∷ v.pair.index2 ∷ pairs vs

abbrev out : ℕ → ℕ → List ℕ
out d1 d2 = pairs (put_out_of 7 level (tagged 2 3) (float d1) (tagged 4 5) (float d2))

-- what an edge puts out that stays inside, one that leaves, one that enters
abbrev stays : List ℕ
stays = 1 ∷ 4 ∷ 1 ∷ 5 ∷ []

abbrev leaves : List ℕ
leaves = 1 ∷ 4 ∷ 0 ∷ 7 ∷ []

abbrev enters : List ℕ
enters = 0 ∷ 7 ∷ 1 ∷ 3 ∷ 1 ∷ 4 ∷ 1 ∷ 5 ∷ []

-- how many corners are read of a face whose ring has h + 1 half-edges: from 0 on every next is 1, so that the walk ends after h steps
abbrev read_of : ℕ → ℕ
read_of h = length (built_of (sizes 0 h 1) [] (replicate (4 * h) 1) (record { p = o; q = record { v = o; s = float 0x3f80_0000 } }) level 0)

-- so many corners in all: does a cut go on with them; where they are put behind k that stand from corner p on; the status of their contact
abbrev many : ℕ → List ClipVertex
many n = replicate n zero_vertex

abbrev put : ℕ → ℕ → ℕ → List ℕ
put p k n = laid (λ (at : List ℕ) (q : ℕ) (v : ClipVertex). q ∷ at) [] p k (many n)

abbrev onto : List ClipVertex → Built
onto candidates = on_face 1 empty_contact 2 3 4 candidates

-- the places that points say, and those of so many candidates at one position
abbrev places : List Point → List ℕ
places points = map (λ (p : Point). p.place) points

abbrev places_of_picks : ℕ → List ℕ
places_of_picks n = places (points_of (first_picks far (vec 0x3f80_0000 0 0) up (many n)) (many n))

-- half a turn about z, to (0, 0, 1)
abbrev turn : Transform
turn = record { p = up; q = record { v = up; s = float 0 } }

-- the first pick of one candidate at this separation
abbrev pick1 : ℕ → List ℕ
pick1 separation = first_picks far (vec 0x3f80_0000 0 0) up (corner 0 0 separation ∷ [])

-- the second, after one at the origin, of one at (x, 0, 0), this deep
abbrev pick2 : ℕ → ℕ → List ℕ
pick2 x separation = second_picks far up (corner 0 0 0) (corner x 0 separation ∷ [])

-- the third, after (0, 0, 0) and (1, 0, 0), of one at (0, y, 0); the fourth, after (0, 1, 0) too, of one at (1/4, y, 0)
abbrev pick3 : ℕ → List ℕ
pick3 y = third_picks far up (corner 0 0 0) (corner 0x3f80_0000 0 0) (corner 0 y 0 ∷ [])

abbrev pick4 : ℕ → List ℕ
pick4 y = fourth_picks far up (corner 0 0 0) (corner 0x3f80_0000 0 0) (corner 0 0x3f80_0000 0) (corner 0x3e80_0000 y 0 ∷ [])

-- the best is number 3 at this score; number 8 comes with a score of 1, which counts as 0.95
abbrev index_of : Best → ℕ
index_of b = unwrap_or b.index 255

abbrev best : ℕ → Best
best score = record { index = Some 3; score = float score }

-- a pair flipped: its status and its four numbers
abbrev flipped : (a b c d : ℕ) → List ℕ
flipped a b c d =
    let r = flip_of (record { owner1 = a; index1 = b; owner2 = c; index2 = d }) in
    r.status ∷ r.pair.owner1 ∷ r.pair.index1 ∷ r.pair.owner2 ∷ r.pair.index2 ∷ []

-- the face of half-edge 0 or of its twin, 0 and 1, with these normals' x, along x
abbrev lower_face : ℕ → ℕ → ℕ
lower_face x0 x1 =
    lower_face_of (sizes 0 2 2) (replicate 6 (float 0) ++ (float x0 ∷ float 0 ∷ float 0 ∷ float 0 ∷ float x1 ∷ float 0 ∷ float 0 ∷ float 0 ∷ []))
    (0 ∷ 1 ∷ 0 ∷ 0 ∷ 0 ∷ 0 ∷ 0 ∷ 1 ∷ []) (vec 0x3f80_0000 0 0) 0

abbrev table : List Row
table =
    -- "8: a pair to be flipped has an owner above 1 (the flip call alone; it returns four zeros)"
    row (flipped 0 3 1 9) (0 ∷ 0 ∷ 9 ∷ 1 ∷ 3 ∷ []) ∷ row (flipped 1 3 0 9) (0 ∷ 1 ∷ 9 ∷ 0 ∷ 3 ∷ []) ∷ row (flipped 1 5 1 6) (0 ∷ 0 ∷ 6 ∷ 0 ∷ 5 ∷ [])
    ∷ row (flipped 2 3 1 9) (8 ∷ 0 ∷ 0 ∷ 0 ∷ 0 ∷ []) ∷ row (flipped 0 3 2 9) (8 ∷ 0 ∷ 0 ∷ 0 ∷ 0 ∷ []) ∷ row (flipped 255 3 255 9) (8 ∷ 0 ∷ 0 ∷ 0 ∷ 0 ∷ [])
    -- the incident face: a new least is strictly less, and of two equal faces the second
    ∷ is (flatter_of (record { edge = 3; projection = float 0x3f80_0000 }) 8 (float 0x3f80_0000)).edge 3
    ∷ is (flatter_of (record { edge = 3; projection = float 0x3f80_0000 }) 8 (float 0x3f7f_ffff)).edge 8
    ∷ is (lower_face 0x3f80_0000 0x3f80_0000) 1 ∷ is (lower_face 0x3f7f_ffff 0x3f80_0000) 0 ∷ is (lower_face 0x3f80_0001 0x3f80_0000) 1
    -- "Cut: points at distance 0 are kept;"
    ∷ yes (kept (float 0)) ∷ yes (kept (float 0x8000_0000)) ∷ no (kept (float 0x0000_0001)) ∷ yes (kept (float 0x8000_0001))
    ∷ no (kept (float 0x7fc0_0000))
    ∷ no (beyond (float 0)) ∷ no (beyond (float 0x8000_0000)) ∷ yes (beyond (float 0x0000_0001)) ∷ no (beyond (float 0x8000_0001))
    ∷ no (beyond (float 0x7fc0_0000))
    ∷ row (out 0 0) stays ∷ row (out 0x8000_0000 0) stays ∷ row (out 0xbf80_0000 0) stays ∷ row (out 0 0xbf80_0000) stays
    -- "leaving gives one new vertex, entering gives a new one and the old one."
    ∷ row (out 0 0x0000_0001) leaves ∷ row (out 0xbf80_0000 0x3f80_0000) leaves
    ∷ row (out 0x0000_0001 0) enters ∷ row (out 0x3f80_0000 0xbf80_0000) enters
    ∷ row (out 0x0000_0001 0x0000_0001) [] ∷ row (out 0x7fc0_0000 0) [] ∷ row (out 0 0x7fc0_0000) []
    -- "A face ring longer than 64 is read to 64."
    ∷ is (read_of 62) 63 ∷ is (read_of 63) 64 ∷ is (read_of 64) 64
    -- "a clip buffer has 64 places."
    ∷ row (put 0 62 3) (63 ∷ 62 ∷ []) ∷ row (put 64 63 2) (127 ∷ [])
    -- "6: a cut would put out a 65th vertex", and fewer than 3 are cut no more
    ∷ no (goes_on (many 2)) ∷ yes (goes_on (many 3)) ∷ yes (goes_on (many 64)) ∷ no (goes_on (many 65))
    ∷ is (onto (many 64)).status 0 ∷ is (onto (many 65)).status 6
    -- "Fewer than 3 left, or least separation at or above speculative: not touching, cache cleared."
    ∷ no (touching_of far 2 (float 0)) ∷ yes (touching_of far 3 (float 0)) ∷ no (touching_of far 3 (float 0x3ca3_d70b))
    ∷ no (touching_of far 3 (float 0x3ca3_d70a)) ∷ yes (touching_of far 3 (float 0x3ca3_d709))
    ∷ is (onto (many 2)).cache.kind 0 ∷ is (onto (many 3)).cache.kind 2
    ∷ is (bits (least_separation_of (corner 0 0 0x3f80_0000 ∷ corner 0 0 0xbf80_0000 ∷ corner 0 0 0 ∷ []))) 0xbf80_0000
    ∷ is (bits (least_separation_of [])) 0x7f7f_ffff
    -- "A candidate's image is its position less half its separation along the reference normal,": 1 - 2 / 2, and 1 + 2 / 2
    ∷ is (bits (image_of up (record { position = up; separation = float 0x4000_0000; pair = zero_pair })).position.z) 0
    ∷ is (bits (image_of up (record { position = up; separation = float 0xc000_0000; pair = zero_pair })).position.z) 0x4000_0000
    -- "for face B it is then carried into A's frame and its pair flipped."
    ∷ is (bits (carried_of turn (corner 0x3f80_0000 0 0)).position.x) 0xbf80_0000
    ∷ is (bits (carried_of turn (corner 0x3f80_0000 0 0)).position.z) 0x3f80_0000
    ∷ row (pairs (carried_of turn (tagged 5 6) ∷ [])) (0 ∷ 6 ∷ 0 ∷ 5 ∷ [])
    -- "More than four candidates: up to four picks": four are all taken, of five in one place one
    ∷ row (places_of_picks 4) (0 ∷ 1 ∷ 2 ∷ 3 ∷ []) ∷ row (places_of_picks 5) (0 ∷ [])
    -- "the place of its candidate in the list as it stood before any pick": the second pick's 1 is the last of five by then, and the third's the fourth
    ∷ row (places (points_of (1 ∷ 1 ∷ 1 ∷ []) (many 5))) (1 ∷ 4 ∷ 3 ∷ []) ∷ row (places_of (1 ∷ 1 ∷ 1 ∷ []) 5) (1 ∷ 4 ∷ 3 ∷ [])
    ∷ row (places (points_of (4 ∷ 3 ∷ 2 ∷ 0 ∷ []) (many 5))) (4 ∷ 3 ∷ 2 ∷ 0 ∷ [])
    ∷ row (places (points_of (1 ∷ 1 ∷ 1 ∷ []) (many 4))) (0 ∷ 1 ∷ 2 ∷ 3 ∷ [])
    -- "the face contacts hand it up", of a face of A and of B; "unused places 255"
    ∷ row (places (contact_on_a 1 up (many 3)).points) (0 ∷ 1 ∷ 2 ∷ 255 ∷ []) ∷ row (places (contact_on_b 1 turn up (many 3)).points) (0 ∷ 1 ∷ 2 ∷ 255 ∷ [])
    ∷ row (places empty_contact.points) (255 ∷ 255 ∷ 255 ∷ 255 ∷ [])
    -- "each pick's place filled by the last candidate."
    ∷ row (without 0 (10 ∷ 11 ∷ 12 ∷ 13 ∷ []) 1) (10 ∷ 13 ∷ 12 ∷ []) ∷ row (without 0 (10 ∷ 11 ∷ 12 ∷ 13 ∷ []) 3) (10 ∷ 11 ∷ 12 ∷ [])
    ∷ is (standing 4 1 1) 3 ∷ is (standing 4 1 2) 2 ∷ row (taken 0 (1 ∷ 1 ∷ 1 ∷ []) (10 ∷ 11 ∷ 12 ∷ 13 ∷ [])) (11 ∷ 13 ∷ 12 ∷ [])
    -- the scores: a bias of 0.95, with `>` and with `>=`
    ∷ is (bits bias) 0x3f73_3333
    ∷ is (index_of (better_pick_of (best 0x3f73_3333) 8 (float 0x3f80_0000))) 3
    ∷ is (index_of (better_pick_of (best 0x3f73_3332) 8 (float 0x3f80_0000))) 8
    ∷ is (index_of (as_good_of (best 0x3f73_3333) 8 (float 0x3f80_0000))) 8 ∷ is (index_of (as_good_of (best 0x3f73_3334) 8 (float 0x3f80_0000))) 3
    ∷ is (bits (better_pick_of (best 0) 8 (float 0x3f80_0000)).score) 0x3f80_0000
    -- first, "extreme point that is touching": one strictly above speculative is passed over, and a deeper one is better
    ∷ row (pick1 0x3ca3_d709) (0 ∷ []) ∷ row (pick1 0x3ca3_d70a) (0 ∷ []) ∷ row (pick1 0x3ca3_d70b) []
    ∷ is (bits (reach_of (vec 0x3f80_0000 0 0) (corner 0x3f80_0000 0 0xbf80_0000))) 0x4000_0000
    -- second, "farthest point in 2D": at speculative squared or above it is picked
    ∷ is (bits (tolerance far)) 0x39d1_b717
    ∷ row (pick2 0x3ca3_d70a 0) (0 ∷ []) ∷ row (pick2 0x3ca3_d709 0) [] ∷ row (pick2 0 0x3f80_0000) [] ∷ row (pick2 0 0xbf80_0000) (0 ∷ [])
    -- third, "maximum triangular area": 0.95 of it at speculative squared or above, either way round
    ∷ row (pick3 0x39dc_c0ba) (0 ∷ []) ∷ row (pick3 0x39dc_c0b9) [] ∷ row (pick3 0xb9dc_c0ba) (0 ∷ []) ∷ row (pick3 0xb9dc_c0b9) []
    -- fourth, "adds the most area outside the triangle": 0.95 of it strictly above speculative squared, and outside
    ∷ row (pick4 0xb9dc_c0bb) (0 ∷ []) ∷ row (pick4 0xb9dc_c0ba) [] ∷ row (pick4 0x39dc_c0bb) []
    -- the sign of the first three: -1 where their area is below zero, else 1
    ∷ is (bits (triangle_of up o (vec 0x3f80_0000 0 0) (vec 0 0x0000_0001 0)).sign) 0x3f80_0000
    ∷ is (bits (triangle_of up o (vec 0x3f80_0000 0 0) o).sign) 0x3f80_0000
    ∷ is (bits (triangle_of up o (vec 0x3f80_0000 0 0) (vec 0 0x8000_0001 0)).sign) 0xbf80_0000
    -- "Places at or above the count are zero, and so is the normal when the count is 0."
    ∷ is (bits (contact_of up []).normal.z) 0 ∷ is (bits (contact_of up (placed (many 1))).normal.z) 0x3f80_0000
    ∷ is (length (contact_of up []).points) 4 ∷ is (length (contact_of up (placed (many 1))).points) 4
    ∷ is (length (contact_of up (placed (many 4))).points) 4
    ∷ []

pub limits : given table ≡ said table
unfolding units_per_meter slop speculative abs_of min_of max_of add_of sub_of neg_of dot_of cross_of length_squared_of mul_add_of mul_sub_of plane_separation_of
    matrix_of mul_mv_of flip_of turns until ring vertex_at plane_at laid meeting_of leaving_of entering_of put_out_of flatter_of
    lower_face_of built_of goes_on image_of least_separation_of touching_of better_pick_of as_good_of reach_of first_turn across_of spread_of signed_area_of
    side_of outside_of
    triangle_of without standing taken first_best second_best third_best fourth_best fourth_picks third_picks second_picks first_picks all_or_picked points_of
    numbered
    places_of point_of placed_from normal_of contact_of arbitrary_perp_of images_on picks_on carried_of contact_on_a contact_on_b on_face touched_of Ieee.size
    Ieee.of_bits
    to_bits Ieee.lt Ieee.le Ieee.neg Ieee.sub Ieee.div Ieee.add Ieee.mul
limits = refl
