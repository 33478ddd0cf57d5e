-- What the client asks of the points: at most four come back, each the image of a candidate, none used twice; four candidates or fewer: all, in order.
-- Definitions only; proofs/Chosen.antt shows it.
use Rattle.std.specs.Prelude.{ℕ, ◌≤◌, ◌<◌, ◌≡◌, List, map, length, get_or}
use Rattle.manifold.specs.declared.ClipVertex.{ClipVertex}
use Rattle.manifold.specs.declared.Point.{Point}
use Rattle.manifold.specs.Records.{past_vertex}
use Rattle.reduce_points.specs.Points.{point_of, placed}

-- points chosen from a list of images; each is the image at its place, and says so
pub record Chosen (images : List ClipVertex) (points : List Point) (places : List ℕ) : Type 0 where
  pub few : length points ≤ 4
  pub same : points ≡ map (λ (j : ℕ). point_of j (get_or images j past_vertex)) places
  pub below : (i : ℕ) → i < length places → get_or places i 0 < length images
  pub apart : (i j : ℕ) → i < j → j < length places → get_or places i 0 ≡ get_or places j 0 → ⊥
  pub all : length images ≤ 4 → points ≡ placed images
