-- The links of a hull, one list of bytes: the stored edge of each vertex, then next, twin, origin and face of each half-edge, then the stored edge of
-- each face. Definitions only.
use Rattle.std.specs.Prelude.{List, ◌≡◌, ℕ, ◌+◌, ◌*◌, ◌/◌, ◌%◌, ◌≤◌, length, get_or, Float}
use Rattle.hull_links.specs.declared.HullSize.{HullSize}
use Rattle.hull_links.specs.Walks.{ring, joined}

-- how long the links are
abbrev pub link_count : HullSize → ℕ
link_count s = s.vertices + 4 * s.half_edges + s.faces

-- how long one list of coordinates is, padded to a multiple of four; where the planes begin, behind the box and the three lists; how long the numbers are
abbrev pub padded : HullSize → ℕ
padded s = (s.vertices + 3) / 4 * 4

abbrev pub planes_from : HullSize → ℕ
planes_from s = 6 + 3 * padded s

abbrev pub number_count : HullSize → ℕ
number_count s = planes_from s + 4 * s.faces

-- the four numbers of half-edge e
abbrev pub next : HullSize → List ℕ → ℕ → ℕ
next s l e = get_or l (s.vertices + 4 * e) 0

abbrev pub twin : HullSize → List ℕ → ℕ → ℕ
twin s l e = get_or l (s.vertices + 4 * e + 1) 0

abbrev pub origin : HullSize → List ℕ → ℕ → ℕ
origin s l e = get_or l (s.vertices + 4 * e + 2) 0

abbrev pub face : HullSize → List ℕ → ℕ → ℕ
face s l e = get_or l (s.vertices + 4 * e + 3) 0

-- the stored edge of vertex v, and of face f
abbrev pub vertex_edge : HullSize → List ℕ → ℕ → ℕ
vertex_edge s l v = get_or l v 0

abbrev pub face_edge : HullSize → List ℕ → ℕ → ℕ
face_edge s l f = get_or l (s.vertices + 4 * s.half_edges + f) 0

-- the next half-edge round a corner: next of the twin
abbrev pub turn : HullSize → List ℕ → ℕ → ℕ
turn s l e = next s l (twin s l e)

-- the ring of face f (next, until back), and the fan of vertex v (next of the twin, until back), each from its stored edge
abbrev pub face_ring : HullSize → List ℕ → ℕ → List ℕ
face_ring s l f = ring (next s l) s.half_edges (face_edge s l f)

abbrev pub fan : HullSize → List ℕ → ℕ → List ℕ
fan s l v = ring (turn s l) s.half_edges (vertex_edge s l v)

-- faces are listed by number, each ring from its stored edge; vertices likewise
abbrev pub round_faces : HullSize → List ℕ → List ℕ
round_faces s l = joined (face_ring s l) s.faces

abbrev pub round_corners : HullSize → List ℕ → List ℕ
round_corners s l = joined (fan s l) s.vertices

-- what H1 says of the sizes and the links, and of the sizes and the numbers: what the accessors ask for
pub record LinksFit (s : HullSize) (l : List ℕ) : Type 0 where
  pub v_low : 4 ≤ s.vertices
  pub v_high : s.vertices ≤ 128
  pub h_even : s.half_edges % 2 ≡ 0
  pub h_low : 12 ≤ s.half_edges
  pub h_high : s.half_edges ≤ 256
  pub f_low : 4 ≤ s.faces
  pub f_high : s.faces ≤ 128
  pub long : length l ≡ link_count s

pub record NumbersFit (s : HullSize) (n : List Float) : Type 0 where
  pub v_low : 4 ≤ s.vertices
  pub v_high : s.vertices ≤ 128
  pub f_low : 4 ≤ s.faces
  pub f_high : s.faces ≤ 128
  pub long : length n ≡ number_count s
