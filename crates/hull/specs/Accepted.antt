-- What an accepted hull gives to whoever works with it. Definitions only; proofs/Accepted.antt shows it from the validator's answer.
-- Bounds are stated at the largest unit, 1000 a metre: coordinates within 4096000 (4000 * 2 ^ 26 in units of 2 ^ -16), offsets within 2 ^ 23.
use Rattle.std.specs.Prelude.{true, List, ◌≡◌, ℕ, ◌+◌, ◌*◌, ◌/◌, ◌<◌, Float}
use Rattle.bounds.specs.Bound.{Below}
use Rattle.bounds.specs.Squares.{squares3}
use Rattle.units.specs.Units.{known_unit}
use Rattle.units.specs.Limits.{edge_limit}
use Rattle.hull_links.specs.declared.HullSize.{HullSize}
use Rattle.hull_links.specs.Links.{padded, next, twin, origin, face, vertex_edge, face_edge, LinksFit, NumbersFit}
use Rattle.hull_links.specs.Rounds.{Rounds}
use Rattle.hull_shell.specs.Shell.{OneShell}
use Rattle.vector.specs.Bounded.{VecBelow}
use Rattle.vector.specs.Within.{VecWithin}
use Rattle.hull.specs.Numbers.{box_of, vertex_at, plane_at}
use Rattle.hull_limits.specs.Measures.{near_one, ends_apart}

pub record Accepted (s : HullSize) (n : List Float) (l : List ℕ) : Type 0 where
  -- the unit is 1, 10, 100 or 1000
  pub unit_known : known_unit s.unit ≡ true
  -- the sizes are within H1's limits, so that every number of a vertex, half-edge or face fits a byte; the lists are as long as they should be
  pub links_fit : LinksFit s l
  pub numbers_fit : NumbersFit s n
  -- every link is in range
  pub next_in : (e : ℕ) → e < s.half_edges → next s l e < s.half_edges
  pub twin_in : (e : ℕ) → e < s.half_edges → twin s l e < s.half_edges
  pub origin_in : (e : ℕ) → e < s.half_edges → origin s l e < s.vertices
  pub face_in : (e : ℕ) → e < s.half_edges → face s l e < s.faces
  pub vertex_edge_in : (v : ℕ) → v < s.vertices → vertex_edge s l v < s.half_edges
  pub face_edge_in : (f : ℕ) → f < s.faces → face_edge s l f < s.half_edges
  -- the twin of an even half-edge stands next to it, and the stored edges are of their own vertex and face
  pub twin_even : (k : ℕ) → k < s.half_edges / 2 → twin s l (2 * k) ≡ 2 * k + 1
  pub twin_odd : (k : ℕ) → k < s.half_edges / 2 → twin s l (2 * k + 1) ≡ 2 * k
  pub vertex_edge_starts : (v : ℕ) → v < s.vertices → origin s l (vertex_edge s l v) ≡ v
  pub face_edge_starts : (f : ℕ) → f < s.faces → face s l (face_edge s l f) ≡ f
  -- every ring and every fan closes, and each round lists every half-edge once
  pub rounds : Rounds s l
  -- it is one closed shell
  pub one_shell : OneShell s l
  -- vertices, padding and box; normals; offsets
  pub vertices_within : (v : ℕ) → v < padded s → VecWithin 4000 26 (vertex_at s n v)
  pub lower_within : VecWithin 4000 26 (box_of n).lower
  pub upper_within : VecWithin 4000 26 (box_of n).upper
  pub normals_below : (f : ℕ) → f < s.faces → VecBelow 1 (plane_at s n f).normal
  pub normals_unit : (f : ℕ) → f < s.faces → near_one (squares3 (plane_at s n f).normal.x (plane_at s n f).normal.y (plane_at s n f).normal.z) ≡ true
  pub offsets_below : (f : ℕ) → f < s.faces → Below 23 (plane_at s n f).offset
  -- no edge is shorter than 1/1024 of a metre on every axis
  pub edges_long : (k : ℕ) → k < s.half_edges / 2
      → ends_apart (edge_limit s.unit) (vertex_at s n (origin s l (2 * k))) (vertex_at s n (origin s l (2 * k + 1))) ≡ true
