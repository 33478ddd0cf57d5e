-- Inner: vectors in lists: three lists of 128 numbers in one, and a table of dots. Definitions only.
use Rattle.std.specs.Prelude.{ℕ, ◌+◌, ◌<◌, ◌≤◌, List, ◌≡◌, length, get_or, Float}
use Rattle.std.specs.Float.{nan}
use Rattle.vector.specs.declared.Vec3.{Vec3}
use Rattle.axis_edges.specs.Edges.{dot_right}

-- vector k
unfoldable pub vector_in : List Float → ℕ → Vec3
vector_in xs k = record { x = get_or xs k nan; y = get_or xs (128 + k) nan; z = get_or xs (256 + k) nan }

-- the first n vectors are those of g
pub record Three (g : ℕ → Vec3) (n : ℕ) (xs : List Float) : Type 0 where
  pub long : length xs ≡ 384
  pub each : (k : ℕ) → k < n → vector_in xs k ≡ g k

-- from the place at on, a table has c along the first n vectors of g
pub record Row (c : Vec3) (g : ℕ → Vec3) (n at : ℕ) (table : List Float) : Type 0 where
  pub room : at + n ≤ length table
  pub each : (k : ℕ) → k < n → get_or table (at + k) nan ≡ dot_right c (g k)
