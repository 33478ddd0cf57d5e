-- A hull in a frame: its unit, "V, H, F (2 bytes each), box low and high, x, y, z lists, vertex edges, half-edges (next, twin, origin, face, a byte each),
-- face edges, planes". The numbers before the links and the planes behind them make one list, as a hull's numbers are lent. Definitions only.
use Rattle.std.specs.Prelude.{ℕ, ◌+◌, ◌*◌, ◌<◌, cond, List, [], ◌++◌, ◌≡◌, leb, length, take, drop, Float}
use Rattle.hull_links.specs.declared.HullSize.{HullSize}
use Rattle.hull_links.specs.Links.{planes_from, link_count, number_count}
use Rattle.lists.specs.Written.{Wrote}
use Rattle.frame_decode.specs.Fields.{floats_at}

-- where the links of the hull that begins at `at` begin, where its planes do, and how long it is "by its V, H, F as sent"
abbrev pub links_from : HullSize → ℕ → ℕ
links_from s at = at + 8 + 4 * planes_from s

abbrev pub planes_at : HullSize → ℕ → ℕ
planes_at s at = links_from s at + link_count s

abbrev pub hull_length : HullSize → ℕ
hull_length s = 8 + 4 * planes_from s + link_count s + 16 * s.faces

-- the numbers of the hull that begins at `at`, and its links
unfoldable pub numbers_of : List ℕ → ℕ → HullSize → List Float
numbers_of f at s = floats_at f (at + 8) (planes_from s) ++ floats_at f (planes_at s at) (4 * s.faces)

unfoldable pub links_of : List ℕ → ℕ → HullSize → List ℕ
links_of f at s = take (link_count s) (drop (links_from s at) f)

-- What is taken of the numbers: all of them, up to the 902 that the largest hull of H1 has. Of more than that none: such sizes break H1 whatever the
-- numbers are.
unfoldable pub numbers_taken : List ℕ → ℕ → HullSize → List Float
numbers_taken f at s = cond (leb (number_count s) 902) (numbers_of f at s) []

-- the numbers went from m to m', and r of them were taken
pub record Taken (f : List ℕ) (at : ℕ) (s : HullSize) (m : List Float) (r : ℕ) (m' : List Float) : Type 0 where
  pub count : r ≡ length (numbers_taken f at s)
  pub numbers : Wrote m 0 (numbers_taken f at s) m'

-- sizes that came from two bytes each
pub record Sent (s : HullSize) : Type 0 where
  pub vertices_sent : s.vertices < 65536
  pub half_edges_sent : s.half_edges < 65536
  pub faces_sent : s.faces < 65536
