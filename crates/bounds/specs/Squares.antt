-- Sums of squares as document 01 has them: rounded at each operation, left to right in stored order. Definitions only.
use Rattle.std.specs.Prelude.{Float}
use Rattle.std.specs.Float.{binary32}
use Rattle.std.specs.Float.Ieee.{add, mul}

abbrev pub squares3 : Float → Float → Float → Float
squares3 x y z = add binary32 (add binary32 (mul binary32 x x) (mul binary32 y y)) (mul binary32 z z)

abbrev pub squares4 : Float → Float → Float → Float → Float
squares4 x y z w = add binary32 (squares3 x y z) (mul binary32 w w)
