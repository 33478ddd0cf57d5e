-- Four lanes: "its low seven bits replaced by the vertex number; smallest of four lanes, then across lanes". Definitions only.
use Rattle.std.specs.Prelude.{ℕ, ◌+◌, cond, T, Float}
use Rattle.std.specs.Float.Ieee as Ieee
use Rattle.std.specs.Float.Ieee.Scale.{finite}
use Rattle.bounds.specs.LowBits.{embed_of, index_of}
use Rattle.lanes.specs.declared.FloatW.{FloatW}

-- every lane is a finite number
pub record FiniteW (v : FloatW) : Type 0 where
  pub on_x : T (finite v.x)
  pub on_y : T (finite v.y)
  pub on_z : T (finite v.z)
  pub on_w : T (finite v.w)

-- the numbers from base on, one a lane
unfoldable pub embed_w_of : FloatW → ℕ → FloatW
embed_w_of v base = record { x = embed_of v.x base; y = embed_of v.y (base + 1); z = embed_of v.z (base + 2); w = embed_of v.w (base + 3) }

-- a where a <= b, else b
unfoldable pub least_of : Float → Float → Float
least_of a b = cond (Ieee.le a b) a b

-- lane by lane
unfoldable pub least_w_of : FloatW → FloatW → FloatW
least_w_of a b = record { x = least_of a.x b.x; y = least_of a.y b.y; z = least_of a.z b.z; w = least_of a.w b.w }

-- across lanes: the next one only where it is strictly below
unfoldable pub lesser_of : Float → Float → Float
lesser_of held next = cond (Ieee.lt next held) next held

-- the number of the least of the four. The number is part of the value, so a tie of positive values goes to the lower number, and one of negative
-- values to the higher.
unfoldable pub min_index_of : FloatW → ℕ
min_index_of a = index_of (lesser_of (lesser_of (lesser_of a.x a.y) a.z) a.w)
