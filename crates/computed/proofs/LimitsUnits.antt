-- Document 02, i: "A hull carries its length unit: 1, 10, 100 or 1000 per metre", and the limits that are lengths at each of the four, both sides of
-- each, one row each. The bits are binary32 products worked out apart from the definitions. Assumes nothing.
use mathlib.Core.Path.{◌≡◌, refl}
use mathlib.Core.Bool.{Bool, true}
use mathlib.Core.List.{List, [], ◌∷◌, ◌++◌}
use Prim.Native.Nat.{ℕ, ◌+◌, ◌-◌}
use lib.ListN.{replicate}
use lib.Ieee.{to_bits}
use lib.Ieee as Ieee
use Rattle.root.specs.Root.{isqrt, pattern, root_of}
use Rattle.bounds.specs.LowBits.{pattern_of, embed_of, index_of}
use Rattle.units.specs.Units.{known_unit, units_per_meter}
use Rattle.units.specs.Limits.{slop, speculative, huge, coordinate_limit, offset_limit, edge_limit}
use Rattle.vector.specs.declared.Vec3.{Vec3}
use Rattle.vector.specs.declared.Plane.{Plane}
use Rattle.vector.specs.declared.Transform.{Transform}
use Rattle.vector.specs.Rounded.{float}
use Rattle.vector.specs.Scalar.{abs_of, min_of, max_of}
use Rattle.vector.specs.Arithmetic.{sub_of, dot_of, length_squared_of, mul_sv_of, mul_sub_of, normalize_of}
use Rattle.vector.specs.Awaited.{arbitrary_perp_of}
use Rattle.lanes.specs.Lanes.{embed_w_of, least_of, least_w_of, lesser_of, min_index_of}
use Rattle.manifold.specs.declared.ClipVertex.{ClipVertex}
use Rattle.manifold.specs.declared.SatCache.{SatCache}
use Rattle.manifold.specs.Records.{zero_pair, empty_contact}
use Rattle.manifold.specs.Polygons.{turns}
use Rattle.hull_links.specs.Tests.{◌&◌, ◌or◌}
use Rattle.hull_limits.specs.Measures.{inside, within_limit, near_one, apart, plane_right, ends_apart}
use Rattle.hull_limits.specs.Transform.{transform_right}
use Rattle.hull.specs.Numbers.{vertex_at}
use Rattle.axis_best.specs.Leads.{none_of, stops_of, better_of}
use Rattle.axis_faces.specs.Support.{support_value_of, group_of, splat_of, least_lanes, support_of}
use Rattle.reduce_scores.specs.Images.{image_of, least_separation_of, touching_of}
use Rattle.reduce_scores.specs.Scores.{better_pick_of, reach_of, first_turn}
use Rattle.reduce.specs.Reduce.{without, first_best, second_best, tolerance, second_picks, first_picks}
use Rattle.contacts.specs.Faces.{images_on, picks_on, on_face}
use Rattle.collide_outcome.specs.Builds.{Built, touched_of}
use Rattle.collide_outcome.specs.Served.{near_of, served_of}
use Rattle.collide_full.specs.Full.{tries_edge}
use Rattle.computed.proofs.Rows.{Row, row, is, yes, no, given, said, bits, vec, sizes_at}

-- the bits of a number above zero with its sign turned
abbrev minus : ℕ → ℕ
minus b = 0x8000_0000 + b

abbrev along_x : Vec3
along_x = vec 0x3f80_0000 0 0

abbrev up : Vec3
up = vec 0 0 0x3f80_0000

-- the plane z = offset; at this place, not turned
abbrev level : ℕ → Plane
level offset = record { normal = up; offset = float offset }

abbrev at : ℕ → ℕ → ℕ → Transform
at x y z = record { p = vec x y z; q = record { v = vec 0 0 0; s = float 0x3f80_0000 } }

-- at this unit: a coordinate, an offset, two coordinates, a place
abbrev within : ℕ → ℕ → Bool
within unit x = within_limit (coordinate_limit unit) (float x)

abbrev offset_right : ℕ → ℕ → Bool
offset_right unit offset = plane_right (offset_limit unit) (level offset)

abbrev split : ℕ → ℕ → ℕ → Bool
split unit a b = apart (edge_limit unit) (float a) (float b)

abbrev placed : ℕ → ℕ → ℕ → ℕ → Bool
placed unit x y z = transform_right unit (at x y z)

-- the number that the support search finds, of vertices 4 to 7 with this value, and 0 to 3 with a value that is more by the starting value, of these bits
abbrev started : ℕ → ℕ → ℕ → ℕ
started unit start value =
    support_of (float value) along_x (sizes_at unit 8 0 0) (replicate 6 (float 0) ++ (replicate 4 (float (minus start)) ++ replicate 20 (float 0)))

-- a candidate at the origin with this separation; the picks of one, and the type that three of them leave in the cache
abbrev corner : ℕ → ClipVertex
corner separation = record { position = vec 0 0 0; separation = float separation; pair = zero_pair }

abbrev picked : ℕ → ℕ → List ℕ
picked unit separation = picks_on unit up (corner separation ∷ [])

abbrev leaves : ℕ → ℕ → ℕ
leaves unit separation = (on_face unit empty_contact 2 3 4 (replicate 3 (corner separation))).cache.kind

-- a cache with this separation; two separations differ by less than slop
abbrev cache : ℕ → SatCache
cache separation = record { separation = separation; kind = 0; index_a = 0; index_b = 0; hit = 0 }

abbrev near : ℕ → ℕ → ℕ → Bool
near unit a b = near_of unit (cache a) (cache b)

-- a contact of so many points at this separation; an edge axis at this one is tried against one point at 0
abbrev standing : ℕ → ℕ → Built
standing count separation =
    record { status = 0; touching = true; contact = record { points = []; normal = vec 0 0 0; count = count }; cache = cache separation }

abbrev tried : ℕ → ℕ → Bool
tried unit separation =
    tries_edge unit (standing 1 0) (record { normal = along_x; separation = float separation; index_a = 0; index_b = 0 })

-- the rows of one unit, given the bits of its slop s, its speculative distance f and the square of that, its starting support value h and the seven low
-- bits of that, its limits of coordinates c, offsets o and edges e
abbrev rows_at : (unit s f square h low c o e : ℕ) → List Row
rows_at unit s f square h low c o e =
    -- "The hull rules' 4096, 8192 and 1/1024 are multiplied by it, as are slop, speculative distance, the starting support value and the transform .. limits"
    is (bits (slop unit)) s ∷ is (bits (speculative unit)) f ∷ is (bits (huge unit)) h
    ∷ is (bits (coordinate_limit unit)) c ∷ is (bits (offset_limit unit)) o ∷ is (bits (edge_limit unit)) e
    -- "Coordinates, padding and box within 4096 either way;"
    ∷ yes (within unit c) ∷ no (within unit (c + 1)) ∷ yes (within unit (minus c)) ∷ no (within unit (minus (c + 1)))
    -- "Offsets within 8192."
    ∷ yes (offset_right unit o) ∷ no (offset_right unit (o + 1)) ∷ yes (offset_right unit (minus o)) ∷ no (offset_right unit (minus (o + 1)))
    -- "some coordinate's rounded difference between its ends is 1/1024 or more either way."
    ∷ yes (split unit 0 e) ∷ no (split unit 0 (e - 1)) ∷ yes (split unit e 0) ∷ no (split unit (e - 1) 0)
    ∷ yes (ends_apart (edge_limit unit) (vec 0 0 0) (vec 0 0 e)) ∷ no (ends_apart (edge_limit unit) (vec 0 0 0) (vec (e - 1) (e - 1) (e - 1)))
    -- a transform's "position is within 4096 on each axis"
    ∷ yes (placed unit c (minus c) c) ∷ no (placed unit (c + 1) 0 0) ∷ no (placed unit 0 (c + 1) 0) ∷ no (placed unit 0 0 (c + 1))
    ∷ yes (placed unit (minus c) c (minus c)) ∷ no (placed unit (minus (c + 1)) 0 0)
    -- "It stops at the first new best strictly above speculative."
    ∷ no (stops_of unit (float f)) ∷ yes (stops_of unit (float (f + 1)))
    ∷ no (better_of unit along_x (float f) 7 9 none_of).apart ∷ yes (better_of unit along_x (float (f + 1)) 7 9 none_of).apart
    -- the starting support value: a value one bit below it wins, one that is above it in more than the seven low bits does not
    ∷ is (index_of (huge unit)) low ∷ is (started unit h (h - 1)) 4 ∷ is (started unit h (h + 128)) low
    -- "least separation at or above speculative: not touching, cache cleared."
    ∷ no (touching_of (speculative unit) 3 (float f)) ∷ yes (touching_of (speculative unit) 3 (float (f - 1)))
    ∷ is (leaves unit f) 0 ∷ is (leaves unit (f - 1)) 2
    -- the first pick passes over what is strictly above speculative; the others ask for its square
    ∷ row (picked unit f) (0 ∷ []) ∷ row (picked unit (f + 1)) [] ∷ is (bits (tolerance (speculative unit))) square
    -- "if it touches and the two separations differ by less than slop: hit 1"
    ∷ no (near unit s 0) ∷ yes (near unit (s - 1) 0) ∷ no (near unit 0 s) ∷ yes (near unit 0 (s - 1)) ∷ no (near unit (minus s) 0)
    ∷ yes (near unit (minus (s - 1)) 0)
    ∷ no (served_of unit (cache 0) (standing 1 s)).hit ∷ yes (served_of unit (cache 0) (standing 1 (s - 1))).hit
    -- "the edge separation is strictly above the cache's plus slop;"
    ∷ no (tried unit s) ∷ yes (tried unit (s + 1))
    ∷ []

abbrev table : List Row
table =
    -- "1, 10, 100 or 1000 per metre", and no other
    yes (known_unit 1) ∷ yes (known_unit 10) ∷ yes (known_unit 100) ∷ yes (known_unit 1000)
    ∷ no (known_unit 0) ∷ no (known_unit 2) ∷ no (known_unit 5) ∷ no (known_unit 10000) ∷ no (known_unit 65535)
    ∷ is (bits (units_per_meter 1)) 0x3f80_0000 ∷ is (bits (units_per_meter 10)) 0x4120_0000 ∷ is (bits (units_per_meter 100)) 0x42c8_0000
    ∷ is (bits (units_per_meter 1000)) 0x447a_0000
    -- slop at 10 is a tie that goes to even; the binary32 number nearest 0.05 is 3d4ccccd. At 1000 the seven low bits of the starting support value are not 0
    ∷ (rows_at 1 0x3ba3_d70a 0x3ca3_d70a 0x39d1_b717 0x47c3_5000 0 0x4580_0000 0x4600_0000 0x3a80_0000
    ++ (rows_at 10 0x3d4c_cccc 0x3e4c_cccc 0x3d23_d709 0x4974_2400 0 0x4720_0000 0x47a0_0000 0x3c20_0000
    ++ (rows_at 100 0x3f00_0000 0x4000_0000 0x4080_0000 0x4b18_9680 0 0x48c8_0000 0x4948_0000 0x3dc8_0000
    ++ rows_at 1000 0x40a0_0000 0x41a0_0000 0x43c8_0000 0x4cbe_bc20 32 0x4a7a_0000 0x4afa_0000 0x3f7a_0000)))

pub limits : given table ≡ said table
unfolding known_unit units_per_meter slop speculative huge coordinate_limit offset_limit edge_limit isqrt pattern root_of pattern_of embed_of index_of abs_of
    min_of
    max_of sub_of dot_of length_squared_of mul_sv_of mul_sub_of normalize_of arbitrary_perp_of embed_w_of least_of least_w_of lesser_of min_index_of turns ◌&◌
    ◌or◌ inside
    within_limit near_one apart plane_right ends_apart transform_right vertex_at stops_of better_of support_value_of group_of splat_of least_lanes support_of
    image_of
    least_separation_of touching_of better_pick_of reach_of first_turn without first_best second_best second_picks first_picks images_on picks_on on_face
    touched_of near_of
    served_of tries_edge Ieee.size Ieee.of_bits to_bits Ieee.lt Ieee.le Ieee.neg Ieee.sub Ieee.div Ieee.add Ieee.mul
limits = refl
