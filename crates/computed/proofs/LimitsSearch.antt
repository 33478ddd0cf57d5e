-- Both sides of each limit and tie of the axis search, one row each. Assumes nothing.
use mathlib.Core.Path.{◌≡◌, refl}
use mathlib.Core.Bool.{Bool}
use mathlib.Core.List.{List, [], ◌∷◌, ◌++◌}
use Prim.Native.Nat.{ℕ}
use lib.ListN.{get_or, replicate}
use lib.Ieee.{Float, nan, to_bits}
use lib.Ieee as Ieee
use Rattle.bounds.specs.LowBits.{pattern_of, embed_of, index_of}
use Rattle.units.specs.Units.{units_per_meter}
use Rattle.units.specs.Limits.{slop, speculative, huge}
use Rattle.vector.specs.declared.Vec3.{Vec3}
use Rattle.vector.specs.Rounded.{float}
use Rattle.vector.specs.Scalar.{max_of}
use Rattle.vector.specs.Arithmetic.{dot_of, length_squared_of}
use Rattle.vector.specs.Shape.{farther_of, farthest_of, support_vertex_of}
use Rattle.lanes.specs.Lanes.{embed_w_of, least_of, least_w_of, lesser_of, min_index_of}
use Rattle.hull.specs.Numbers.{vertex_at}
use Rattle.axis_best.specs.declared.Lead.{Lead}
use Rattle.axis_best.specs.Leads.{none_of, stops_of, better_of, lead_after}
use Rattle.axis_faces.specs.Support.{support_value_of, group_of, splat_of, least_lanes, support_of}
use Rattle.axis_edges.specs.Edges.{eps, dot_right, passes_of, parallel_of}
use Rattle.axis_row.specs.inner.Marks.{at_least_eps, fails_first}
use Rattle.axis_row.specs.inner.Sift.{fails_later}
use Rattle.axis.specs.declared.Search.{Search}
use Rattle.manifold.specs.Kinds.{kind_number}
use Rattle.axis.specs.Search.{axis_of, apart_of, edge_of, found_of, search_answer_of}
use Rattle.computed.proofs.Rows.{Row, is, yes, no, given, said, bits, vec, sizes}

abbrev none : Vec3
none = vec 0 0 0

abbrev ones : Vec3
ones = vec 0x3f80_0000 0x3f80_0000 0x3f80_0000

abbrev along_x : Vec3
along_x = vec 0x3f80_0000 0 0

-- in metres: a new best at this separation, with numbers 7 and 9, after one at 2^-7, below speculative, with numbers 3 and 5
abbrev first : Lead
first = better_of 1 none (float 0x3c00_0000) 3 5 none_of

abbrev second : ℕ → Lead
second separation = better_of 1 none (float separation) 7 9 first

-- the first of all, at this separation
abbrev alone : ℕ → Lead
alone separation = better_of 1 none (float separation) 7 9 none_of

-- separations speculative, one bit more, and 1, one after the other
abbrev rising : List Float
rising = float 0x3ca3_d70a ∷ float 0x3ca3_d70b ∷ float 0x3f80_0000 ∷ []

abbrev searched : Lead
searched = lead_after (λ (i : ℕ) (lead : Lead). better_of 1 none (get_or rising i nan) i 0 lead) none_of 3

-- the answer in one number: the type of an axis apart, 0 where faces are found
abbrev told : Search → ℕ
told (Search.Apart a) = kind_number a.kind
told (Search.Found f) = 0

-- eight vertices at the origin; four at x = -100000 and four at the origin; five vertices at the origin with three lanes of padding, which lie there too
abbrev eight : List Float
eight = replicate 30 (float 0)

abbrev two_fours : List Float
two_fours = replicate 6 (float 0) ++ (replicate 4 (float 0xc7c3_5000) ++ replicate 20 (float 0))

-- the number of the vertex that is found, of v vertices at the origin, all with this value
abbrev supported : ℕ → ℕ → ℕ
supported v value = support_of (float value) none (sizes v 0 0) eight

-- of vertices 0 to 3 with a value of 100000 more, and 4 to 7 with this value
abbrev started : ℕ → ℕ
started value = support_of (float value) along_x (sizes 8 0 0) two_fours

-- the first support vertex along x of two, the second of them this far
abbrev farthest : ℕ → ℕ
farthest x = support_vertex_of (float 0x3f80_0000 ∷ float x ∷ []) (float 0 ∷ float 0 ∷ []) (float 0 ∷ float 0 ∷ []) 2 along_x

-- the tests of signs: these four dots, by their bits
abbrev passes : (cba dba adc bdc : ℕ) → Bool
passes cba dba adc bdc = passes_of (float cba) (float dba) (float adc) (float bdc)

-- the first by a table with cba and dba in it; the others by a table with cba in it, and adc and bdc by the faces of half-edges 0 and 1
abbrev first_fails : ℕ → ℕ → Bool
first_fails cba dba = fails_first (float cba ∷ float dba ∷ []) 0 1 0

abbrev later_fails : (cba adc bdc : ℕ) → Bool
later_fails cba adc bdc = fails_later (float cba ∷ []) 0 (float adc ∷ float bdc ∷ []) (sizes 0 2 2) (0 ∷ 0 ∷ 0 ∷ 0 ∷ 0 ∷ 0 ∷ 0 ∷ 1 ∷ []) 0

abbrev parallel : (cba dba x y z : ℕ) → Bool
parallel cba dba x y z = parallel_of (float cba) (float dba) (vec x y z)

abbrev table : List Row
table =
    -- "sums go left to right over x, y, z": 1 and twice 2^-24
    is (bits (dot_of ones (vec 0x3f80_0000 0x3380_0000 0x3380_0000))) 0x3f80_0000
    ∷ is (bits (dot_of ones (vec 0x3380_0000 0x3380_0000 0x3f80_0000))) 0x3f80_0001
    ∷ is (bits (length_squared_of (vec 0x3f80_0000 0x3980_0000 0x3980_0000))) 0x3f80_0000
    ∷ is (bits (length_squared_of (vec 0x3980_0000 0x3980_0000 0x3f80_0000))) 0x3f80_0001
    -- "the support vertex is the lowest-numbered one with the largest dot product"
    ∷ is (farthest 0x3f80_0000) 0 ∷ is (farthest 0x3f80_0001) 1 ∷ is (farthest 0x3f7f_ffff) 0
    -- the search begins at minus infinity with nothing found, and a new best is strictly greater
    ∷ is (bits none_of.separation) 0xff80_0000 ∷ no none_of.found ∷ no none_of.apart
    ∷ yes (alone 0xff7f_ffff).found ∷ no (alone 0xff80_0000).found ∷ no (alone 0x7fc0_0000).found
    ∷ is (second 0x3c00_0000).index_a 3 ∷ is (second 0x3c00_0001).index_a 7 ∷ is (second 0x3bff_ffff).index_a 3
    ∷ is (second 0x7fc0_0000).index_a 3 ∷ is (second 0x3c00_0000).index_b 5 ∷ is (second 0x3c00_0001).index_b 9
    -- "It stops at the first new best strictly above speculative."
    ∷ no (stops_of 1 (float 0x3ca3_d709)) ∷ no (stops_of 1 (float 0x3ca3_d70a)) ∷ yes (stops_of 1 (float 0x3ca3_d70b))
    ∷ no (stops_of 1 (float 0x7fc0_0000)) ∷ yes (stops_of 1 (float 0x7f80_0000))
    ∷ no (alone 0x3ca3_d70a).apart ∷ yes (alone 0x3ca3_d70a).found ∷ yes (alone 0x3ca3_d70b).apart ∷ yes (second 0x7f7f_ffff).apart
    ∷ is searched.index_a 1
    -- "an axis apart with its separation": a stop among A's faces, then B's, then the pairs
    ∷ is (told (search_answer_of (alone 0x3f80_0000) (alone 0x4000_0000) (alone 0x4000_0000))) 2
    ∷ is (told (search_answer_of first (alone 0x4000_0000) (alone 0x4000_0000))) 3
    ∷ is (told (search_answer_of first first (alone 0x4000_0000))) 4
    ∷ is (told (search_answer_of first first first)) 0
    -- "its low seven bits replaced by the vertex number"
    ∷ is (bits (embed_of (float 0x3f80_007f) 0)) 0x3f80_0000 ∷ is (bits (embed_of (float 0x3f80_0080) 127)) 0x3f80_00ff
    ∷ is (index_of (float 0x3f80_007f)) 127 ∷ is (index_of (float 0x3f80_0080)) 0
    -- "value = bias - dot": the text's own order, from z to x
    ∷ is (bits (support_value_of (float 0) ones (vec 0x3380_0000 0x3380_0000 0x3f80_0000))) 0xbf80_0001
    ∷ is (bits (support_value_of (float 0) ones (vec 0x3f80_0000 0x3380_0000 0x3380_0000))) 0xbf80_0000
    ∷ is (bits (support_value_of (float 0x4000_0000) ones along_x)) 0x3f80_0000
    -- "smallest of four lanes, then across lanes": the lowest of equal values above zero, the highest of equal values below it, and so with the two zeros
    ∷ is (supported 8 0x3f80_0000) 0 ∷ is (supported 8 0xbf80_0000) 7 ∷ is (supported 8 0) 0 ∷ is (supported 8 0x8000_0000) 7
    -- "5: .. (a padding lane won)": of five vertices lanes 5, 6 and 7 are padding, of four there is none
    ∷ is (supported 5 0xbf80_0000) 7 ∷ is (supported 4 0xbf80_0000) 3
    -- "starting support value 100000": a value of 100000 does not win against it, and one just below does
    ∷ is (started 0x47c3_5000) 0 ∷ is (started 0x47c3_4fff) 4
    ∷ is (bits (least_of (float 0) (float 0x8000_0000))) 0 ∷ is (bits (least_of (float 1) (float 0))) 0
    ∷ is (bits (lesser_of (float 0) (float 0x8000_0000))) 0 ∷ is (bits (lesser_of (float 1) (float 0))) 0
    -- the edge tests at -0.0001, each of the three products: at it or above it fails, one bit below it passes
    ∷ is (bits eps) 0xb8d1_b717
    ∷ no (passes 0x3f80_0000 0xb8d1_b717 0x3f80_0000 0xbf80_0000) ∷ yes (passes 0x3f80_0000 0xb8d1_b718 0x3f80_0000 0xbf80_0000)
    ∷ no (passes 0x3f80_0000 0xbf80_0000 0x38d1_b717 0xbf80_0000) ∷ yes (passes 0x3f80_0000 0xbf80_0000 0x38d1_b718 0xbf80_0000)
    ∷ no (passes 0x38d1_b717 0xc7c3_5000 0x3f80_0000 0xbf80_0000) ∷ yes (passes 0x38d1_b718 0xc7c3_5000 0x3f80_0000 0xbf80_0000)
    ∷ yes (at_least_eps (float 0xb8d1_b717)) ∷ no (at_least_eps (float 0xb8d1_b718)) ∷ yes (at_least_eps (float 0)) ∷ no (at_least_eps (float 0x7fc0_0000))
    ∷ yes (first_fails 0x3f80_0000 0xb8d1_b717) ∷ no (first_fails 0x3f80_0000 0xb8d1_b718)
    ∷ yes (later_fails 0x3f80_0000 0x38d1_b717 0xbf80_0000) ∷ no (later_fails 0x3f80_0000 0x38d1_b718 0xbf80_0000)
    ∷ yes (later_fails 0x38d1_b717 0x3f80_0000 0xbf80_0000) ∷ no (later_fails 0x38d1_b718 0x3f80_0000 0xbf80_0000)
    -- the parallel test at 0.005: the larger square at 0.005 * 0.005 * the square of the direction or below it is near parallel
    ∷ yes (parallel 0x3ba3_d70a 0 0x3f80_0000 0 0) ∷ no (parallel 0x3ba3_d70b 0 0x3f80_0000 0 0)
    ∷ yes (parallel 0 0xbba3_d70a 0 0x3f80_0000 0) ∷ no (parallel 0 0xbba3_d70b 0 0 0x3f80_0000)
    -- every other order of its products and sums turns these
    ∷ yes (parallel 0x3ca6_51ec 0 0x4036_bffa 0x4032_856e 0x3f3e_7aec) ∷ no (parallel 0x3c2e_3b2c 0 0x3fe5_d24b 0x3f5f_f31a 0x3f3b_265d)
    ∷ []

pub limits : given table ≡ said table
unfolding units_per_meter slop speculative huge pattern_of embed_of index_of max_of dot_of length_squared_of farther_of farthest_of support_vertex_of
    embed_w_of least_of
    least_w_of lesser_of min_index_of vertex_at stops_of better_of lead_after support_value_of group_of splat_of least_lanes support_of dot_right passes_of
    parallel_of
    at_least_eps fails_first fails_later axis_of apart_of edge_of found_of search_answer_of Ieee.size Ieee.of_bits to_bits Ieee.lt Ieee.le Ieee.neg Ieee.sub
    Ieee.div
    Ieee.add Ieee.mul
limits = refl
