-- Inner: the sides of a face in batches of sixteen planes. Definitions only.
use Rattle.std.specs.Prelude.{ℕ, zero, suc, ◌+◌, ◌≡◌, cond, List, [], ◌∷◌, map, set, ltb, Float}
use Rattle.vector.specs.declared.Vec3.{Vec3}
use Rattle.vector.specs.declared.Plane.{Plane}
use Rattle.hull_links.specs.declared.HullSize.{HullSize}
use Rattle.hull_links.specs.Walks.{until}
use Rattle.hull_links.specs.Links.{next}
use Rattle.clip.specs.Candidates.{side_plane_of}

-- these planes are put from plane k on
unfoldable pub planes_with : List Plane → ℕ → List Plane → List Plane
planes_with n k [] = n
planes_with n k (p ∷ ps) = planes_with (set n k p) (k + 1) ps

-- e and what comes behind it until start comes, at most m of them
unfoldable pub at_most : ℕ → (ℕ → ℕ) → ℕ → ℕ → List ℕ
at_most zero step start e = []
at_most (suc m) step start e = e ∷ until step start m (step e)

-- the sides of a batch that begins at half-edge e
unfoldable pub sides_from : HullSize → List Float → List ℕ → Vec3 → ℕ → ℕ → List Plane
sides_from s n l normal start e = map (side_plane_of s n l normal) (at_most 16 (next s l) start e)

-- behind plane k comes plane r: the next, and behind the sixteenth the first of a new batch
pub record Followed (n : List Plane) (k : ℕ) (batch : List Plane) (n' : List Plane) (r : ℕ) : Type 0 where
  pub number : r ≡ cond (ltb k 15) (k + 1) 0
  pub planes : n' ≡ cond (ltb k 15) n (planes_with n 0 batch)
