-- What it is for a vector to be bounded. Definitions only.
use Rattle.std.specs.Prelude.{ℕ}
use Rattle.bounds.specs.Bound.{Below}
use Rattle.vector.specs.declared.Vec3.{Vec3}

-- each number of v is finite, and at most 2 ^ k in size
pub record VecBelow (k : ℕ) (v : Vec3) : Type 0 where
  pub on_x : Below k v.x
  pub on_y : Below k v.y
  pub on_z : Below k v.z
