-- What it is for a rotation to be bounded. Definitions only.
use Rattle.std.specs.Prelude.{ℕ}
use Rattle.vector.specs.declared.Vec3.{Vec3}
use Rattle.vector.specs.Bounded.{VecBelow}
use Rattle.rotation.specs.Rotation.{Rows, entry}

-- row i of m as a vector
abbrev pub row_of : Rows → ℕ → Vec3
row_of m i = record { x = entry m i 0; y = entry m i 1; z = entry m i 2 }

-- each of the nine numbers of m is finite, and at most 2 ^ k in size
pub record RowsBelow (k : ℕ) (m : Rows) : Type 0 where
  pub row0 : VecBelow k (row_of m 0)
  pub row1 : VecBelow k (row_of m 1)
  pub row2 : VecBelow k (row_of m 2)
