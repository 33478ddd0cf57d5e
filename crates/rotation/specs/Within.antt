-- A finer bound of a rotation than a power of two. Definitions only.
use Rattle.std.specs.Prelude.{ℕ}
use Rattle.vector.specs.Within.{VecWithin}
use Rattle.rotation.specs.Rotation.{Rows}
use Rattle.rotation.specs.Bounded.{row_of}

-- each of the nine numbers of m is finite, and at most p * 2 ^ r in size, counted in units of 2 ^ -16
pub record RowsWithin (p r : ℕ) (m : Rows) : Type 0 where
  pub row0 : VecWithin p r (row_of m 0)
  pub row1 : VecWithin p r (row_of m 1)
  pub row2 : VecWithin p r (row_of m 2)
