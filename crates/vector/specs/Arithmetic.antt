-- Vectors of three numbers: each operation rounded once, sums left to right over x, y, z. Provisional readings. Definitions only.
use Rattle.std.specs.Prelude.{cond, Float}
use Rattle.std.specs.Float.Ieee as Ieee
use Rattle.root.specs.Root.{root_of}
use Rattle.vector.specs.declared.Vec3.{Vec3}
use Rattle.vector.specs.Rounded.{◌⊕◌, ◌⊖◌, ◌⊗◌, ◌⊘◌, float}
use Rattle.vector.specs.Scalar.{abs_of}

-- a vector of three zeros
abbrev pub zero_vec : Vec3
zero_vec = record { x = float 0; y = float 0; z = float 0 }

-- by component
unfoldable pub add_of : Vec3 → Vec3 → Vec3
add_of a b = record { x = a.x ⊕ b.x; y = a.y ⊕ b.y; z = a.z ⊕ b.z }

unfoldable pub sub_of : Vec3 → Vec3 → Vec3
sub_of a b = record { x = a.x ⊖ b.x; y = a.y ⊖ b.y; z = a.z ⊖ b.z }

unfoldable pub neg_of : Vec3 → Vec3
neg_of a = record { x = Ieee.neg a.x; y = Ieee.neg a.y; z = Ieee.neg a.z }

unfoldable pub abs_vec_of : Vec3 → Vec3
abs_vec_of a = record { x = abs_of a.x; y = abs_of a.y; z = abs_of a.z }

-- (ax*bx + ay*by) + az*bz
unfoldable pub dot_of : Vec3 → Vec3 → Float
dot_of a b = a.x ⊗ b.x ⊕ a.y ⊗ b.y ⊕ a.z ⊗ b.z

-- (ay*bz - az*by, az*bx - ax*bz, ax*by - ay*bx)
unfoldable pub cross_of : Vec3 → Vec3 → Vec3
cross_of a b =
    record {
      x = a.y ⊗ b.z ⊖ a.z ⊗ b.y;
      y = a.z ⊗ b.x ⊖ a.x ⊗ b.z;
      z = a.x ⊗ b.y ⊖ a.y ⊗ b.x;
    }

-- (x*x + y*y) + z*z
unfoldable pub length_squared_of : Vec3 → Float
length_squared_of v = v.x ⊗ v.x ⊕ v.y ⊗ v.y ⊕ v.z ⊗ v.z

-- s*x, s*y, s*z
unfoldable pub mul_sv_of : Float → Vec3 → Vec3
mul_sv_of s v = record { x = s ⊗ v.x; y = s ⊗ v.y; z = s ⊗ v.z }

-- a + s*b, by component
unfoldable pub mul_add_of : Vec3 → Float → Vec3 → Vec3
mul_add_of a s b = record { x = a.x ⊕ s ⊗ b.x; y = a.y ⊕ s ⊗ b.y; z = a.z ⊕ s ⊗ b.z }

-- a - s*b, by component
unfoldable pub mul_sub_of : Vec3 → Float → Vec3 → Vec3
mul_sub_of a s b = record { x = a.x ⊖ s ⊗ b.x; y = a.y ⊖ s ⊗ b.y; z = a.z ⊖ s ⊗ b.z }

-- with s = 1 - t: s*a + t*b, by component
unfoldable pub lerp_of : Vec3 → Vec3 → Float → Vec3
lerp_of a b t =
    let s = float 0x3f80_0000 ⊖ t in
    record { x = s ⊗ a.x ⊕ t ⊗ b.x; y = s ⊗ a.y ⊕ t ⊗ b.y; z = s ⊗ a.z ⊕ t ⊗ b.z }

-- 1000 * 2^-126, one rounded product: a square of a length at or below it counts as zero
abbrev pub tiny : Float
tiny = float 0x447a_0000 ⊗ float 0x0080_0000

-- with l = length_squared(v): where l > tiny, s = 1 / root(l) and s*x, s*y, s*z; else zero
unfoldable pub normalize_of : Vec3 → Vec3
normalize_of v = cond (Ieee.lt tiny (length_squared_of v)) (mul_sv_of (float 0x3f80_0000 ⊘ root_of (length_squared_of v)) v) zero_vec
