-- Where a list of corners stands, as the code hands it on. Definitions only.
use Rattle.std.specs.Prelude.{ℕ, ◌≤◌, ◌≡◌, List, length, Float}
use Rattle.manifold.specs.declared.ClipVertex.{ClipVertex}
use Rattle.clip_corners.specs.declared.Kept.{Kept}
use Rattle.clip_corners.specs.Places.{Roomy, corners_in}

-- these corners stand in the lists at that place; of more than 64 only their number is told
pub record Standing (n : List Float) (t : List ℕ) (vs : List ClipVertex) (k : Kept) : Type 0 where
  pub roomy : Roomy n t
  pub low : k.from ≤ 64
  pub counted : k.count ≡ length vs
  pub corners : length vs ≤ 64 → corners_in n t k.from k.count ≡ vs
