-- The rules H1 to H7 of document 01, as tests that compute; each test of one number has a name, and the rule is that test of all. Definitions only.
use Rattle.std.specs.Prelude.{Bool, true, not, List, [], ◌∷◌, ◌≡◌, ℕ, ◌+◌, ◌*◌, ◌/◌, ◌%◌, eqb, ltb, leb, length, Float}
use Rattle.units.specs.Units.{known_unit}
use Rattle.hull_links.specs.declared.HullSize.{HullSize}
use Rattle.hull_links.specs.Tests.{◌&◌, implies, all, first_broken}
use Rattle.hull_links.specs.Walks.{has, firsts}
use Rattle.hull_links.specs.Links.{link_count, number_count, next, twin, origin, face, vertex_edge, face_edge, face_ring, fan, LinksFit}

-- H1. V 4 to 128, H even and 12 to 256, F 4 to 128, all lists of fitting length. "H1 also for an unknown unit" (document 02, i).
unfoldable pub h1 : HullSize → List Float → List ℕ → Bool
h1 s n l =
    known_unit s.unit
    & (leb 4 s.vertices & leb s.vertices 128)
    & (eqb (s.half_edges % 2) 0 & leb 12 s.half_edges & leb s.half_edges 256)
    & (leb 4 s.faces & leb s.faces 128)
    & (eqb (length l) (link_count s) & eqb (length n) (number_count s))

-- H2. Every stored vertex, half-edge and face number is in range.
unfoldable pub vertex_in_range : HullSize → List ℕ → ℕ → Bool
vertex_in_range s l v = ltb (vertex_edge s l v) s.half_edges

unfoldable pub edge_in_range : HullSize → List ℕ → ℕ → Bool
edge_in_range s l e =
    ltb (next s l e) s.half_edges & ltb (twin s l e) s.half_edges & ltb (origin s l e) s.vertices & ltb (face s l e) s.faces

unfoldable pub face_in_range : HullSize → List ℕ → ℕ → Bool
face_in_range s l f = ltb (face_edge s l f) s.half_edges

unfoldable pub h2 : HullSize → List ℕ → Bool
h2 s l = all (vertex_in_range s l) s.vertices & all (edge_in_range s l) s.half_edges & all (face_in_range s l) s.faces

-- H3. Half-edges 2k and 2k+1 are each other's twin.
unfoldable pub twins_at : HullSize → List ℕ → ℕ → Bool
twins_at s l k = eqb (twin s l (2 * k)) (2 * k + 1) & eqb (twin s l (2 * k + 1)) (2 * k)

unfoldable pub h3 : HullSize → List ℕ → Bool
h3 s l = all (twins_at s l) (s.half_edges / 2)

-- H4. A half-edge's next has the same face, and its origin is the origin of the half-edge's twin.
unfoldable pub linked_at : HullSize → List ℕ → ℕ → Bool
linked_at s l e = eqb (face s l (next s l e)) (face s l e) & eqb (origin s l (next s l e)) (origin s l (twin s l e))

unfoldable pub h4 : HullSize → List ℕ → Bool
h4 s l = all (linked_at s l) s.half_edges

-- H5. No two half-edges have the same next: none has the next of one before it.
unfoldable pub new_next : HullSize → List ℕ → ℕ → Bool
new_next s l e = not (has (next s l e) (firsts (next s l) e))

unfoldable pub h5 : HullSize → List ℕ → Bool
h5 s l = all (new_next s l) s.half_edges

-- H6. Each face's stored edge has that face. Its ring (next, until back) has at least 3 and holds every half-edge of that face.
unfoldable pub ring_holds : HullSize → List ℕ → ℕ → ℕ → Bool
ring_holds s l f e = implies (eqb (face s l e) f) (has e (face_ring s l f))

unfoldable pub ring_right : HullSize → List ℕ → ℕ → Bool
ring_right s l f = eqb (face s l (face_edge s l f)) f & leb 3 (length (face_ring s l f)) & all (ring_holds s l f) s.half_edges

unfoldable pub h6 : HullSize → List ℕ → Bool
h6 s l = all (ring_right s l) s.faces

-- H7. Each vertex's stored edge starts there. Its fan (next of the twin, until back) holds every half-edge with that origin.
unfoldable pub fan_holds : HullSize → List ℕ → ℕ → ℕ → Bool
fan_holds s l v e = implies (eqb (origin s l e) v) (has e (fan s l v))

unfoldable pub fan_right : HullSize → List ℕ → ℕ → Bool
fan_right s l v = eqb (origin s l (vertex_edge s l v)) v & all (fan_holds s l v) s.half_edges

unfoldable pub h7 : HullSize → List ℕ → Bool
h7 s l = all (fan_right s l) s.vertices

-- the first broken rule of H2 to H7, 0 if none
unfoldable pub broken_links : HullSize → List ℕ → ℕ
broken_links s l = first_broken 2 (h2 s l ∷ h3 s l ∷ h4 s l ∷ h5 s l ∷ h6 s l ∷ h7 s l ∷ [])

-- the lists of links fit, and H2 to H5 are not broken: then every walk comes back
pub record Linked (s : HullSize) (l : List ℕ) : Type 0 where
  pub fits : LinksFit s l
  pub r2 : h2 s l ≡ true
  pub r3 : h3 s l ≡ true
  pub r4 : h4 s l ≡ true
  pub r5 : h5 s l ≡ true
