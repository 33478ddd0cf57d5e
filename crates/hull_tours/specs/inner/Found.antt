-- Inner: what the two tours of a hull find, and what one walk of them answers: how the functions that decide the rules tell each other what they saw.
-- Definitions only.
use Rattle.std.specs.Prelude.{List, ◌≡◌, ℕ, ◌≤◌, ◌<◌}
use Rattle.std.specs.Int.Bits.{bit_xor}
use Rattle.hull_links.specs.declared.HullSize.{HullSize}
use Rattle.hull_links.specs.inner.Tours.{Walk, Toured}
use Rattle.hull_links.specs.Links.{next, twin, origin, face, vertex_edge, face_edge, turn}

-- r is the length of the walk from s; 0 where there is none of at most fuel steps
pub record Length (step : ℕ → ℕ) (P : ℕ → Type 0) (s fuel r : ℕ) : Type 0 where
  pub low : r ≤ fuel
  pub found : 1 ≤ r → Walk step P s r
  pub missed : r ≡ 0 → (m : ℕ) → m ≤ fuel → Walk step P s m → ⊥

-- what the walk of face f asks of each half-edge, and the walk of vertex v
pub record OnFace (s : HullSize) (l : List ℕ) (f e : ℕ) : Type 0 where
  pub on : face s l e ≡ f
  pub low : e < s.half_edges
  pub next_in : next s l e < s.half_edges

pub record OnVertex (s : HullSize) (l : List ℕ) (v e : ℕ) : Type 0 where
  pub on : origin s l e ≡ v
  pub low : e < s.half_edges
  pub mate : twin s l e ≡ bit_xor e 1

-- each face's walk from its stored edge comes back after 3 or more half-edges of that face, and together they are as long as there are half-edges
abbrev pub Ringed : HullSize → List ℕ → Type 0
Ringed s l = Toured (next s l) (face_edge s l) (OnFace s l) 3 s.half_edges s.faces

-- each vertex's walk from its stored edge comes back after half-edges that start there, and together they are as long as there are half-edges
abbrev pub Fanned : HullSize → List ℕ → Type 0
Fanned s l = Toured (turn s l) (vertex_edge s l) (OnVertex s l) 1 s.half_edges s.vertices
