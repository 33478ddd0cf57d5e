-- A finer bound of a vector than a power of two. Definitions only.
use Rattle.std.specs.Prelude.{ℕ}
use Rattle.bounds.specs.Within.{Within}
use Rattle.vector.specs.declared.Vec3.{Vec3}

-- each number of v is finite, and at most p * 2 ^ r in size, counted in units of 2 ^ -16
pub record VecWithin (p r : ℕ) (v : Vec3) : Type 0 where
  pub on_x : Within p r v.x
  pub on_y : Within p r v.y
  pub on_z : Within p r v.z
