-- The values that stand in a frame, by the place where they begin: "Numbers have the high byte first; capacity is signed, and the cache's fields
-- stand in the record's order." A byte past the end counts as 0. Definitions only.
use Rattle.std.specs.Prelude.{ℕ, ◌+◌, ◌*◌, ◌-◌, cond, List, ltb, get_or, ℤ, pos, negsuc, Float}
use Rattle.std.specs.Float.{binary32}
use Rattle.std.specs.Float.Ieee.{of_bits}
use Rattle.vector.specs.declared.Vec3.{Vec3}
use Rattle.vector.specs.declared.Transform.{Transform}
use Rattle.manifold.specs.declared.FeaturePair.{FeaturePair}
use Rattle.manifold.specs.declared.SatCache.{SatCache}
use Rattle.hull_links.specs.declared.HullSize.{HullSize}
use Rattle.lists.specs.Written.{table}

abbrev pub byte_at : List ℕ → ℕ → ℕ
byte_at f i = get_or f i 0

-- numbers of two and of four bytes
abbrev pub number16_at : List ℕ → ℕ → ℕ
number16_at f at = byte_at f at * 256 + byte_at f (at + 1)

abbrev pub number32_at : List ℕ → ℕ → ℕ
number32_at f at = byte_at f at * 16777216 + byte_at f (at + 1) * 65536 + byte_at f (at + 2) * 256 + byte_at f (at + 3)

-- the number whose 32 bits, with a sign, these are
unfoldable pub signed : ℕ → ℤ
signed w = cond (ltb w 0x8000_0000) (pos w) (negsuc (0xffff_ffff - w))

abbrev pub capacity_at : List ℕ → ℕ → ℤ
capacity_at f at = signed (number32_at f at)

-- a float by its bits; every NaN pattern is the one NaN
abbrev pub float_at : List ℕ → ℕ → Float
float_at f at = of_bits binary32 (number32_at f at)

abbrev pub vec_at : List ℕ → ℕ → Vec3
vec_at f at = record { x = float_at f at; y = float_at f (at + 4); z = float_at f (at + 8) }

-- "position, quaternion with its scalar last"
abbrev pub transform_at : List ℕ → ℕ → Transform
transform_at f at = record { p = vec_at f at; q = record { v = vec_at f (at + 12); s = float_at f (at + 24) } }

-- "pair (owner1, index1, owner2, index2)"
abbrev pub pair_at : List ℕ → ℕ → FeaturePair
pair_at f at = record { owner1 = byte_at f at; index1 = byte_at f (at + 1); owner2 = byte_at f (at + 2); index2 = byte_at f (at + 3) }

-- "(separation, type, index_a, index_b, hit)"; the separation is kept as bits
abbrev pub cache_at : List ℕ → ℕ → SatCache
cache_at f at = record {
  separation = number32_at f at;
  kind = byte_at f (at + 4);
  index_a = byte_at f (at + 5);
  index_b = byte_at f (at + 6);
  hit = byte_at f (at + 7);
}

-- "V, H, F (2 bytes each)"; the unit "as two bytes before each hull's V" (document 02, i)
abbrev pub size_at : List ℕ → ℕ → HullSize
size_at f at = record {
  unit = number16_at f at;
  vertices = number16_at f (at + 2);
  half_edges = number16_at f (at + 4);
  faces = number16_at f (at + 6);
}

-- n floats, one behind the other
abbrev pub floats_at : List ℕ → ℕ → ℕ → List Float
floats_at f at n = table (λ i. float_at f (at + 4 * i)) n
