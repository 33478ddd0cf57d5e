-- A vertex number in the low seven bits of a float: "its low seven bits replaced by the vertex number". Definitions only.
use Rattle.std.specs.Prelude.{ℕ, ◌+◌, ◌-◌, ◌%◌, Float}
use Rattle.std.specs.Float.{binary32}
use Rattle.std.specs.Float.Ieee.{to_bits, of_bits}

-- the bits of v, the low seven replaced by i
unfoldable pub pattern_of : Float → ℕ → ℕ
pattern_of v i = to_bits binary32 v - to_bits binary32 v % 128 + i

-- the float with those bits
unfoldable pub embed_of : Float → ℕ → Float
unfolding pattern_of
embed_of v i = of_bits binary32 (pattern_of v i)

-- the number that the low seven bits of v hold
unfoldable pub index_of : Float → ℕ
index_of v = to_bits binary32 v % 128
