-- Both sides of each limit of document 01's "Numbers" and "What makes a hull", one row each, in the document's order. Assumes nothing.
use mathlib.Core.Path.{◌≡◌, refl}
use mathlib.Core.Bool.{Bool}
use mathlib.Core.List.{List, [], ◌∷◌, map}
use Prim.Native.Nat.{ℕ}
use lib.ListN.{length, set, replicate}
use lib.Ieee.{Float, to_bits}
use lib.Ieee as Ieee
use Rattle.bounds.specs.LowBits.{index_of}
use Rattle.vector.specs.Rounded.{float, ◌⊗◌, ◌⊘◌}
use Rattle.vector.specs.declared.Vec3.{Vec3}
use Rattle.vector.specs.declared.Plane.{Plane}
use Rattle.vector.specs.declared.Aabb.{Aabb}
use Rattle.vector.specs.declared.Transform.{Transform}
use Rattle.units.specs.Units.{known_unit, units_per_meter}
use Rattle.units.specs.Limits.{slop, speculative, huge, coordinate_limit, offset_limit, edge_limit}
use Rattle.manifold.specs.Records.{empty_contact}
use Rattle.hull_links.specs.Tests.{◌&◌, ◌or◌, implies, all}
use Rattle.hull_links.specs.Walks.{has, until, ring}
use Rattle.hull_links.specs.Rules.{h1, vertex_in_range, edge_in_range, face_in_range, h2, twins_at, h3, ring_holds, ring_right}
use Rattle.hull_limits.specs.Measures.{inside, within_limit, near_one, apart, in_box, plane_right, ends_apart}
use Rattle.hull_limits.specs.Transform.{transform_right}
use Rattle.hull.specs.Rule8.{finite_at, small_at, vertex_in_box, plane_right_at, edge_long, h8}
use Rattle.hull.specs.Numbers.{box_of, vertex_at, plane_at}
use Rattle.computed.proofs.Rows.{Row, is, yes, no, given, said, bits, vec, sizes}
use Rattle.computed.proofs.Shapes.{tetrahedron}

-- H1 of sizes, with so many numbers and so many links
abbrev fits : (v h f numbers links : ℕ) → Bool
fits v h f numbers links = h1 (sizes v h f) (replicate numbers (float 0)) (replicate links 0)

-- the limits in metres: of a coordinate, of an offset, of a plane; of two coordinates, and of the ends of an edge; of a transform
abbrev small : Float → Bool
small x = within_limit (coordinate_limit 1) x

abbrev moderate : Float → Bool
moderate x = within_limit (offset_limit 1) x

abbrev plane_fits : Plane → Bool
plane_fits p = plane_right (offset_limit 1) p

abbrev split : Float → Float → Bool
split a b = apart (edge_limit 1) a b

abbrev ends_split : Vec3 → Vec3 → Bool
ends_split a b = ends_apart (edge_limit 1) a b

abbrev placed : Transform → Bool
placed t = transform_right 1 t

-- the tetrahedron's links with one changed
abbrev relinked : ℕ → ℕ → List ℕ
relinked place to = set tetrahedron.links place to

-- the face 0 of the tetrahedron with half-edge 4 taken out of it: half-edges 0 and 2 are all of its ring
abbrev ring_of_two : List ℕ
ring_of_two = set (relinked 12 0) 23 1

-- from (-1, -2, -3) to (1, 2, 3)
abbrev box : Aabb
box = record { lower = vec 0xbf80_0000 0xc000_0000 0xc040_0000; upper = vec 0x3f80_0000 0x4000_0000 0x4040_0000 }

-- a plane with this normal through the origin, and the plane z = offset
abbrev through : ℕ → ℕ → ℕ → Plane
through x y z = record { normal = vec x y z; offset = float 0 }

abbrev level : ℕ → Plane
level offset = record { normal = vec 0 0 0x3f80_0000; offset = float offset }

-- five vertices, so that three lanes of each list are padding: six edges from (0, 0, 0) to (1, 0, 0), and four planes z = 0
abbrev five : List ℕ
five =
    0 ∷ 0 ∷ 0 ∷ 0x3f80_0000 ∷ 0x3f80_0000 ∷ 0x3f80_0000 ∷ 0 ∷ 0x3f80_0000 ∷ 0 ∷ 0 ∷ 0 ∷ 0 ∷ 0 ∷ 0 ∷ 0 ∷ 0 ∷ 0 ∷ 0 ∷ 0 ∷ 0 ∷ 0 ∷ 0 ∷ 0 ∷ 0 ∷ 0 ∷ 0 ∷
    0 ∷ 0 ∷ 0 ∷ 0 ∷ 0 ∷ 0 ∷ 0x3f80_0000 ∷ 0 ∷ 0 ∷ 0 ∷ 0x3f80_0000 ∷ 0 ∷ 0 ∷ 0 ∷ 0x3f80_0000 ∷ 0 ∷ 0 ∷ 0 ∷ 0x3f80_0000 ∷ 0 ∷ []

abbrev six_edges : List ℕ
six_edges =
    0 ∷ 0 ∷ 0 ∷ 0 ∷ 0 ∷ 0 ∷ 0 ∷ 0 ∷ 0 ∷ 0 ∷ 0 ∷ 1 ∷ 0 ∷ 0 ∷ 0 ∷ 0 ∷ 0 ∷ 0 ∷ 0 ∷ 1 ∷ 0 ∷ 0 ∷ 0 ∷ 0 ∷ 0 ∷ 0 ∷ 0 ∷ 1 ∷ 0 ∷ 0 ∷ 0 ∷ 0 ∷ 0 ∷ 0 ∷ 0 ∷ 1 ∷
    0 ∷ 0 ∷ 0 ∷ 0 ∷ 0 ∷ 0 ∷ 0 ∷ 1 ∷ 0 ∷ 0 ∷ 0 ∷ 0 ∷ 0 ∷ 0 ∷ 0 ∷ 1 ∷ 0 ∷ 0 ∷ 0 ∷ 0 ∷ 0 ∷ []

-- H8 of it with one number changed, and with one link changed
abbrev measured : ℕ → ℕ → Bool
measured place to = h8 (sizes 5 12 4) (map float (set five place to)) six_edges

abbrev rejoined : ℕ → ℕ → Bool
rejoined place to = h8 (sizes 5 12 4) (map float five) (set six_edges place to)

-- at this place, not turned; and turned by this quaternion, its scalar last
abbrev at : ℕ → ℕ → ℕ → Transform
at x y z = record { p = vec x y z; q = record { v = vec 0 0 0; s = float 0x3f80_0000 } }

abbrev by : ℕ → ℕ → ℕ → ℕ → Transform
by x y z s = record { p = vec 0 0 0; q = record { v = vec x y z; s = float s } }

abbrev table : List Row
table =
    -- "Slop is binary32 0.005 (3ba3d70a), speculative distance four times that (3ca3d70a), starting support value 100000 (47c35000)": 5 / 1000, rounded
    is (bits (slop 1)) 0x3ba3_d70a
    ∷ is (bits (float 0x40a0_0000 ⊘ float 0x447a_0000)) 0x3ba3_d70a
    ∷ is (bits (speculative 1)) 0x3ca3_d70a
    ∷ is (bits (float 0x4080_0000 ⊗ slop 1)) 0x3ca3_d70a
    ∷ is (bits (huge 1)) 0x47c3_5000
    -- "Seven low bits of 47c35000 are 0"
    ∷ is (index_of (huge 1)) 0
    -- "A contact has 0 to 4 points;"
    ∷ is (length empty_contact.points) 4
    -- "H1. V 4 to 128,"
    ∷ no (fits 3 12 4 34 55) ∷ yes (fits 4 12 4 34 56)
    ∷ yes (fits 128 12 4 406 180) ∷ no (fits 129 12 4 418 181)
    -- "H even and 12 to 256,"
    ∷ no (fits 4 10 4 34 48) ∷ no (fits 4 13 4 34 60)
    ∷ yes (fits 4 256 4 34 1032) ∷ no (fits 4 258 4 34 1040) ∷ no (fits 4 255 4 34 1028)
    -- "F 4 to 128,"
    ∷ no (fits 4 12 3 30 55) ∷ yes (fits 4 12 128 530 180) ∷ no (fits 4 12 129 534 181)
    -- "all lists of fitting length", coordinates "padded to a multiple of four"; the largest hull
    ∷ no (fits 4 12 4 33 56) ∷ no (fits 4 12 4 35 56) ∷ no (fits 4 12 4 34 55) ∷ no (fits 4 12 4 34 57)
    ∷ no (fits 5 12 4 37 57) ∷ yes (fits 5 12 4 46 57) ∷ no (fits 5 12 4 45 57) ∷ yes (fits 8 12 4 46 60) ∷ yes (fits 128 256 128 902 1280)
    -- "H2. Every stored vertex, half-edge and face number is in range.": a vertex's edge, next, twin, origin, face, a face's edge
    ∷ yes (vertex_in_range (sizes 4 12 4) (relinked 0 11) 0) ∷ no (vertex_in_range (sizes 4 12 4) (relinked 0 12) 0)
    ∷ yes (edge_in_range (sizes 4 12 4) (relinked 4 11) 0) ∷ no (edge_in_range (sizes 4 12 4) (relinked 4 12) 0)
    ∷ yes (edge_in_range (sizes 4 12 4) (relinked 5 11) 0) ∷ no (edge_in_range (sizes 4 12 4) (relinked 5 12) 0)
    ∷ yes (edge_in_range (sizes 4 12 4) (relinked 6 3) 0) ∷ no (edge_in_range (sizes 4 12 4) (relinked 6 4) 0)
    ∷ yes (edge_in_range (sizes 4 12 4) (relinked 7 3) 0) ∷ no (edge_in_range (sizes 4 12 4) (relinked 7 4) 0)
    ∷ yes (face_in_range (sizes 4 12 4) (relinked 52 11) 0) ∷ no (face_in_range (sizes 4 12 4) (relinked 52 12) 0)
    -- of the last vertex, the last half-edge and the last face too
    ∷ yes (h2 (sizes 4 12 4) tetrahedron.links)
    ∷ no (h2 (sizes 4 12 4) (relinked 3 12)) ∷ no (h2 (sizes 4 12 4) (relinked 48 12)) ∷ no (h2 (sizes 4 12 4) (relinked 55 12))
    -- "H3. Half-edges 2k and 2k+1 are each other's twin.": the last two too
    ∷ yes (h3 (sizes 4 12 4) tetrahedron.links) ∷ no (h3 (sizes 4 12 4) (relinked 45 10)) ∷ no (h3 (sizes 4 12 4) (relinked 49 11))
    -- "H6. .. Its ring (next, until back) has at least 3 and holds every half-edge of that face."
    ∷ yes (ring_right (sizes 4 12 4) tetrahedron.links 0) ∷ no (ring_right (sizes 4 12 4) ring_of_two 0)
    -- "H8. All floats finite."
    ∷ yes (finite_at (float 0x7f7f_ffff ∷ []) 0) ∷ no (finite_at (float 0x7f80_0000 ∷ []) 0)
    ∷ no (finite_at (float 0xff80_0000 ∷ []) 0) ∷ no (finite_at (float 0x7fc0_0000 ∷ []) 0)
    -- "Coordinates, padding and box within 4096 either way;"
    ∷ yes (small (float 0x4580_0000)) ∷ no (small (float 0x4580_0001)) ∷ yes (small (float 0xc580_0000)) ∷ no (small (float 0xc580_0001))
    ∷ no (small (float 0x7f80_0000)) ∷ no (small (float 0xff80_0000)) ∷ no (small (float 0x7fc0_0000))
    -- "every vertex inside the box."
    ∷ yes (in_box box (vec 0x3f80_0000 0x4000_0000 0x4040_0000)) ∷ yes (in_box box (vec 0xbf80_0000 0xc000_0000 0xc040_0000))
    ∷ no (in_box box (vec 0x3f80_0001 0 0)) ∷ no (in_box box (vec 0xbf80_0001 0 0))
    ∷ no (in_box box (vec 0 0x4000_0001 0)) ∷ no (in_box box (vec 0 0xc000_0001 0))
    ∷ no (in_box box (vec 0 0 0x4040_0001)) ∷ no (in_box box (vec 0 0 0xc040_0001))
    ∷ no (in_box box (vec 0x7fc0_0000 0 0)) ∷ no (in_box box (vec 0 0x7fc0_0000 0)) ∷ no (in_box box (vec 0 0 0x7fc0_0000))
    -- "Offsets within 8192."
    ∷ yes (moderate (float 0x4600_0000)) ∷ no (moderate (float 0x4600_0001)) ∷ yes (moderate (float 0xc600_0000)) ∷ no (moderate (float 0xc600_0001))
    ∷ no (moderate (float 0x7f80_0000)) ∷ no (moderate (float 0xff80_0000)) ∷ no (moderate (float 0x7fc0_0000))
    ∷ yes (plane_fits (level 0x4600_0000)) ∷ no (plane_fits (level 0x4600_0001)) ∷ yes (plane_fits (level 0xc600_0000))
    ∷ no (plane_fits (level 0xc600_0001))
    -- "The sum of squares of each normal is 0.99 to 1.01. .. compared with the binary32 numbers nearest 0.99 and 1.01.": 99 / 100 and 101 / 100, rounded
    ∷ is (bits (float 0x42c6_0000 ⊘ float 0x42c8_0000)) 0x3f7d_70a4 ∷ yes (near_one (float 0x3f7d_70a4)) ∷ no (near_one (float 0x3f7d_70a3))
    ∷ is (bits (float 0x42ca_0000 ⊘ float 0x42c8_0000)) 0x3f81_47ae ∷ yes (near_one (float 0x3f81_47ae)) ∷ no (near_one (float 0x3f81_47af))
    ∷ no (near_one (float 0x7f80_0000)) ∷ no (near_one (float 0x7fc0_0000))
    -- "Sums of squares here and below are rounded at each operation, left to right in stored order": every other order, and a sum rounded later, turns these
    ∷ yes (plane_fits (through 0x3f48_d653 0x3efb_0dfb 0x3ebb_7cf7)) ∷ no (plane_fits (through 0x3f4a_0f70 0x3ef1_ef07 0x3ec2_1b29))
    ∷ yes (plane_fits (through 0x3f1d_6601 0x3eb9_c0de 0x3f35_1538)) ∷ no (plane_fits (through 0x3f2d_f785 0x3ee1_52a1 0x3f18_6d93))
    ∷ no (plane_fits (through 0 0 0))
    -- "For every edge some coordinate's rounded difference between its ends is 1/1024 or more either way."
    ∷ yes (split (float 0) (float 0x3a80_0000)) ∷ no (split (float 0) (float 0x3a7f_ffff))
    ∷ yes (split (float 0) (float 0xba80_0000)) ∷ no (split (float 0) (float 0xba7f_ffff))
    ∷ yes (split (float 0x3a80_0000) (float 0)) ∷ no (split (float 0x3a7f_ffff) (float 0))
    -- a difference of 1/1024 less 2^-35, which rounds to 1/1024, either way
    ∷ yes (split (float 0xae00_0000) (float 0x3a7f_ffff)) ∷ yes (split (float 0x2e00_0000) (float 0xba7f_ffff))
    ∷ yes (ends_split (vec 0 0 0) (vec 0x3a80_0000 0 0)) ∷ yes (ends_split (vec 0 0 0) (vec 0 0x3a80_0000 0))
    ∷ yes (ends_split (vec 0 0 0) (vec 0 0 0x3a80_0000))
    ∷ no (ends_split (vec 0 0 0) (vec 0x3a7f_ffff 0x3a7f_ffff 0x3a7f_ffff))
    -- the rule of a whole hull: the box, the last vertex, the first and the last lane of padding, the last plane, the last edge
    ∷ yes (measured 6 0)
    ∷ yes (measured 0 0xc580_0000) ∷ no (measured 0 0xc580_0001) ∷ yes (measured 5 0x4580_0000) ∷ no (measured 5 0x4580_0001)
    ∷ yes (measured 10 0x3f80_0000) ∷ no (measured 10 0x3f80_0001) ∷ yes (measured 26 0x3f80_0000) ∷ no (measured 26 0x3f80_0001)
    ∷ yes (measured 11 0x4580_0000) ∷ no (measured 11 0x4580_0001) ∷ yes (measured 29 0xc580_0000) ∷ no (measured 29 0xc580_0001)
    ∷ yes (measured 45 0x4600_0000) ∷ no (measured 45 0x4600_0001) ∷ yes (measured 7 0x3a80_0000) ∷ no (measured 7 0x3a7f_ffff)
    ∷ no (rejoined 51 0)
    -- "A transform is accepted when all is finite, its position is within 4096 on each axis"
    ∷ yes (placed (at 0x4580_0000 0xc580_0000 0x4580_0000)) ∷ yes (placed (at 0xc580_0000 0x4580_0000 0xc580_0000))
    ∷ no (placed (at 0x4580_0001 0 0)) ∷ no (placed (at 0 0x4580_0001 0)) ∷ no (placed (at 0 0 0x4580_0001))
    ∷ no (placed (at 0xc580_0001 0 0)) ∷ no (placed (at 0 0xc580_0001 0)) ∷ no (placed (at 0 0 0xc580_0001))
    ∷ no (placed (at 0x7fc0_0000 0 0)) ∷ no (placed (at 0 0x7fc0_0000 0)) ∷ no (placed (at 0 0 0x7fc0_0000))
    ∷ no (placed (by 0x7fc0_0000 0 0 0x3f80_0000)) ∷ no (placed (by 0 0x7fc0_0000 0 0x3f80_0000))
    ∷ no (placed (by 0 0 0x7fc0_0000 0x3f80_0000)) ∷ no (placed (by 0 0 0 0x7fc0_0000)) ∷ no (placed (by 0 0 0 0x7f80_0000))
    -- "and the squares of its quaternion sum to 0.99 to 1.01. Ends count as inside in all of these.": each alone
    ∷ yes (placed (by 0 0 0 0x3f7e_b77f)) ∷ no (placed (by 0 0 0 0x3f7e_b77e)) ∷ yes (placed (by 0x3f7e_b77f 0 0 0))
    ∷ no (placed (by 0x3f7e_b77e 0 0 0)) ∷ yes (placed (by 0 0x3f7e_b77f 0 0)) ∷ yes (placed (by 0 0 0x3f7e_b77f 0))
    ∷ yes (placed (by 0 0 0 0x3f80_a36e)) ∷ no (placed (by 0 0 0 0x3f80_a36f))
    -- left to right in stored order: every other order, and a sum rounded later, turns these
    ∷ yes (placed (by 0x3dd5_4751 0x3ebb_6396 0x3e94_a9d7 0x3f5f_4e99)) ∷ no (placed (by 0x3f15_02f4 0x3e31_81eb 0x3ea4_5b9e 0x3f38_43ca))
    ∷ yes (placed (by 0x3df5_e1c7 0x3f06_8bcf 0x3ea8_906c 0x3f48_19f7)) ∷ no (placed (by 0x3ebb_142c 0x3eec_13a0 0x3e57_3357 0x3f49_879e))
    ∷ []

pub limits : given table ≡ said table
unfolding known_unit units_per_meter slop speculative huge coordinate_limit offset_limit edge_limit ◌&◌ ◌or◌ implies all has until ring h1
    vertex_in_range edge_in_range face_in_range h2 twins_at h3 ring_holds ring_right inside within_limit near_one apart
    in_box plane_right ends_apart finite_at small_at vertex_in_box plane_right_at edge_long h8 box_of vertex_at plane_at transform_right index_of Ieee.size
    Ieee.of_bits to_bits Ieee.lt Ieee.le Ieee.neg Ieee.sub Ieee.div Ieee.add Ieee.mul
limits = refl
