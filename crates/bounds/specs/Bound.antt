-- What it is for a float to be bounded: finite, and at most a power of two in size. Definitions only. The powers in use, at the largest unit (1000 a
-- metre): coordinates 2 ^ 22 (4096 * 1000), offsets 2 ^ 23 (8192 * 1000), a number of a unit normal or quaternion 2.
use Rattle.std.specs.Prelude.{ℕ, ◌*◌, ◌^◌, Bool, false, T, leb, Float}
use Rattle.std.specs.Float.{nan, inf, fin}
use Rattle.std.specs.Float.Ieee.{up, down}

-- x is finite, and at most 2 ^ k in size
abbrev pub within : ℕ → Float → Bool
within k nan = false
within k (inf s) = false
within k (fin s m e) = leb (m * up e) (2 ^ k * down e)

-- The same as a record, so that antt finds k and x by itself.
pub record Below (k : ℕ) (x : Float) : Type 0 where
  pub holds : T (within k x)
