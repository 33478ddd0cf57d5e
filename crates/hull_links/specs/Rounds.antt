-- What the client asks of every accepted hull: going round the faces lists each half-edge exactly once, and so does going round the corners; and no walk
-- outlasts the half-edges. Definitions only; proofs/Rounds.antt shows it.
use Rattle.std.specs.Prelude.{List, ℕ, ◌<◌}
use Rattle.hull_links.specs.declared.HullSize.{HullSize}
use Rattle.hull_links.specs.Walks.{Once, Closes}
use Rattle.hull_links.specs.Links.{next, turn, round_faces, round_corners}

pub record Rounds (s : HullSize) (l : List ℕ) : Type 0 where
  pub faces : Once s.half_edges (round_faces s l)
  pub corners : Once s.half_edges (round_corners s l)
  pub rings : (e : ℕ) → e < s.half_edges → Closes (next s l) s.half_edges e
  pub fans : (e : ℕ) → e < s.half_edges → Closes (turn s l) s.half_edges e
