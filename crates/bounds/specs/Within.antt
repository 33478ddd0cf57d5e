-- A finer bound than a power of two: finite, and at most p * 2 ^ r in size, counted in units of 2 ^ -16. Definitions only. Numbers in use: 5/4 is
-- (5, 14), 5/2 is (5, 15), and 4096000, the largest coordinate at 1000 a metre, is (4000, 26).
use Rattle.std.specs.Prelude.{ℕ, ◌*◌, ◌^◌, Bool, false, T, leb, Float}
use Rattle.std.specs.Float.{nan, inf, fin}
use Rattle.std.specs.Float.Ieee.{up, down}

-- x is finite, and at most p * 2 ^ r units in size
abbrev pub at_most : ℕ → ℕ → Float → Bool
at_most p r nan = false
at_most p r (inf s) = false
at_most p r (fin s m e) = leb (m * up e * 65536) (p * 2 ^ r * down e)

-- The same as a record, so that antt finds p, r and x by itself.
pub record Within (p r : ℕ) (x : Float) : Type 0 where
  pub holds : T (at_most p r x)
