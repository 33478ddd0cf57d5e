-- Inner: what the edge phase asks for, links in range. It asks no bound of any float. Definitions only.
use Rattle.std.specs.Prelude.{ℕ, ◌<◌, List}
use Rattle.hull_links.specs.declared.HullSize.{HullSize}
use Rattle.hull_links.specs.Links.{origin, face, LinksFit}

pub record EdgesIn (s : HullSize) (l : List ℕ) : Type 0 where
  pub fit : LinksFit s l
  pub origin_in : (e : ℕ) → e < s.half_edges → origin s l e < s.vertices
  pub face_in : (e : ℕ) → e < s.half_edges → face s l e < s.faces
