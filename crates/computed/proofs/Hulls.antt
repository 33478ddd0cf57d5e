-- The rules are not empty: hulls that a reader knows break none of them, and for each rule a hull that breaks it is told by its number. Assumes nothing.
use mathlib.Core.Path.{◌≡◌, refl, ap}
use mathlib.Core.Bool.{Bool, true, false}
use mathlib.Core.List.{List, [], ◌∷◌, map, ◌++◌}
use Prim.Native.Nat.{ℕ, ◌+◌, ◌-◌}
use native.Mathlib.Omega.{arith}
use lib.ListN.{set}
use lib.Ieee.{binary32, le, neg, of_bits, add, sub, mul}
use Rattle.units.specs.Units.{known_unit, units_per_meter}
use Rattle.units.specs.Limits.{coordinate_limit, offset_limit, edge_limit}
use Rattle.hull_links.specs.Tests.{◌&◌, ◌or◌, implies, all, first_broken, any}
use Rattle.hull_links.specs.Walks.{has, firsts, until, ring}
use Rattle.hull_links.specs.Rules.{h1, vertex_in_range, edge_in_range, face_in_range, h2, twins_at, h3, linked_at, h4, new_next, h5, ring_holds, ring_right, h6}
use Rattle.hull_links.specs.Rules.{fan_holds, fan_right, h7}
use Rattle.hull_shell.specs.Shell.{is_in, listed, edges_with, leads, one_step_on, within, h9}
use Rattle.hull.specs.Numbers.{box_of, vertex_at, plane_at}
use Rattle.hull_limits.specs.Measures.{inside, within_limit, near_one, apart, in_box, plane_right, ends_apart}
use Rattle.hull.specs.Rule8.{finite_at, small_at, vertex_in_box, plane_right_at, edge_long, h8, broken_rule}
use Rattle.computed.proofs.Rows.{sizes}
use Rattle.computed.proofs.Shapes.{Sample, in_unit, tetrahedron, cube, log, pyramid, two_tetrahedra, torus, tetrahedron_and_torus}
use Rattle.computed.proofs.Walked.{repeated, passed, one_shell_walked}

abbrev answer : Sample → ℕ
answer h = broken_rule h.size (map (of_bits binary32) h.bits) h.links

-- ---- the tetrahedron with something changed
abbrev with_vertices : ℕ → Sample
with_vertices v = record { size = sizes v 12 4; bits = tetrahedron.bits; links = tetrahedron.links }

abbrev with_links : List ℕ → Sample
with_links l = record { size = tetrahedron.size; bits = tetrahedron.bits; links = l }

abbrev with_link : ℕ → ℕ → Sample
with_link place to = with_links (set tetrahedron.links place to)

abbrev with_numbers : List ℕ → Sample
with_numbers n = record { size = tetrahedron.size; bits = n; links = tetrahedron.links }

abbrev with_number : ℕ → ℕ → Sample
with_number place to = with_numbers (set tetrahedron.bits place to)

pub record Row : Type 0 where
  pub hull : Sample
  pub rule : ℕ

abbrev row : Sample → ℕ → Row
row h r = record { hull = h; rule = r }

-- the tetrahedron at this unit, with an edge of just its limit e and one float shorter, a box out to just its limit c and one float farther, and an offset
-- of just its limit o and one float more
abbrev both_sides : (unit e c o : ℕ) → List Row
both_sides unit e c o =
    row (in_unit unit (with_number 7 e)) 0 ∷ row (in_unit unit (with_number 7 (e - 1))) 8
    ∷ row (in_unit unit (with_number 3 c)) 0 ∷ row (in_unit unit (with_number 3 (c + 1))) 8
    ∷ row (in_unit unit (with_number 21 o)) 0 ∷ row (in_unit unit (with_number 21 (o + 1))) 8
    ∷ []

abbrev table : List Row
table =
    row tetrahedron 0
    ∷ row cube 0
    ∷ row log 0
    -- H1: a vertex more than the lists hold; a link too many; a number too many
    ∷ row (with_vertices 5) 1
    ∷ row (with_links (tetrahedron.links ++ (0 ∷ []))) 1
    ∷ row (with_numbers (tetrahedron.bits ++ (0 ∷ []))) 1
    -- H2: the next of half-edge 0 is 12
    ∷ row (with_link 4 12) 2
    -- H3: half-edge 0 is its own twin
    ∷ row (with_link 5 0) 3
    -- H4: half-edge 0 is its own next
    ∷ row (with_link 4 0) 4
    -- H5: face 1 goes by the number 0, and half-edge 8 of it leads to half-edge 0, as half-edge 4 does
    ∷ row (with_links (set (set (set (set tetrahedron.links 27 0) 31 0) 39 0) 36 0)) 5
    -- H6: face 0 stores half-edge 5, which is of face 1
    ∷ row (with_link 52 5) 6
    -- H7: vertex 0 stores half-edge 1, which starts at vertex 2
    ∷ row (with_link 0 1) 7
    -- H8: a normal with a NaN; an offset just above 8192; a vertex just outside the box; an edge just shorter than 1/1024, and one of just that
    ∷ row (with_number 19 0x7fc0_0000) 8
    ∷ row (with_number 21 0x4600_0001) 8
    ∷ row (with_number 7 0x3f80_0001) 8
    ∷ row (with_number 7 0x3a7f_ffff) 8
    ∷ row (with_number 7 0x3a80_0000) 0
    -- H9: two shells; one with a hole; both, so that V - H/2 + F = 2
    ∷ row two_tetrahedra 9
    ∷ row torus 9
    ∷ row tetrahedron_and_torus 9
    -- document 02, i: "H1 also for an unknown unit", before any other rule
    ∷ row (in_unit 0 tetrahedron) 1 ∷ row (in_unit 2 tetrahedron) 1 ∷ row (in_unit 5 cube) 1 ∷ row (in_unit 10000 cube) 1 ∷ row (in_unit 65535 tetrahedron) 1
    ∷ row (in_unit 2 (with_link 4 12)) 1
    -- "The hull rules' 4096, 8192 and 1/1024 are multiplied by it": a cube of half-size 1 is right at each unit; what is just right in metres is not at 10,
    -- nor what is just right at 10 in metres
    ∷ row (in_unit 10 cube) 0 ∷ row (in_unit 100 cube) 0 ∷ row (in_unit 1000 cube) 0
    ∷ row (in_unit 10 (with_number 7 0x3a80_0000)) 8 ∷ row (with_number 3 0x4720_0000) 8 ∷ row (with_number 21 0x47a0_0000) 8
    ∷ (both_sides 10 0x3c20_0000 0x4720_0000 0x47a0_0000
    ++ (both_sides 100 0x3dc8_0000 0x48c8_0000 0x4948_0000
    ++ both_sides 1000 0x3f7a_0000 0x4a7a_0000 0x4afa_0000))

pub answers : map (λ (r : Row). answer r.hull) table ≡ map (λ (r : Row). r.rule) table
unfolding known_unit units_per_meter coordinate_limit offset_limit edge_limit ◌&◌ ◌or◌ implies all first_broken has firsts until ring h1 vertex_in_range
    edge_in_range
    face_in_range h2 twins_at h3 linked_at h4 new_next h5 ring_holds ring_right h6 fan_holds fan_right h7 box_of vertex_at plane_at inside within_limit
    near_one apart
    finite_at small_at in_box vertex_in_box plane_right plane_right_at ends_apart edge_long h8 is_in listed edges_with any leads one_step_on within h9
    broken_rule le neg
    of_bits add sub mul
answers = refl

-- ---- the largest pyramid: each side is gone round and left for the next one
abbrev walk : List Bool
walk = repeated 64 (false ∷ true ∷ false ∷ true ∷ false ∷ [])

pyramid_one_shell : h9 pyramid.size pyramid.links ≡ true
unfolding ◌&◌ all h2 vertex_in_range edge_in_range face_in_range has repeated passed
pyramid_one_shell =
    one_shell_walked pyramid.size pyramid.links walk
    (record {
      v_low = omega arith;
      v_high = omega arith;
      h_even = refl;
      h_low = omega arith;
      h_high = omega arith;
      f_low = omega arith;
      f_high = omega arith;
      long = refl;
    }) refl refl refl

pub pyramid_right : answer pyramid ≡ 0
unfolding known_unit units_per_meter coordinate_limit offset_limit edge_limit ◌&◌ ◌or◌ implies all first_broken has firsts until ring h1 vertex_in_range
    edge_in_range
    face_in_range h2 twins_at h3 linked_at h4 new_next h5 ring_holds ring_right h6 fan_holds fan_right h7 box_of vertex_at plane_at inside within_limit
    near_one apart
    finite_at small_at in_box vertex_in_box plane_right plane_right_at ends_apart edge_long h8 broken_rule le neg of_bits add sub mul
pyramid_right = ap (λ (last : Bool). first_broken 9 (last ∷ [])) pyramid_one_shell
