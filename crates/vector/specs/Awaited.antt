-- Stand-ins for the three functions whose text is awaited. Nothing above this crate opens them. Definitions only.
use Rattle.std.specs.Prelude.{Bool, cond, ◌&&◌, ◌||◌, Float}
use Rattle.std.specs.Float.Ieee as Ieee
use Rattle.vector.specs.declared.Vec3.{Vec3}
use Rattle.vector.specs.declared.awaited.LineDistance.{LineDistance}
use Rattle.vector.specs.Rounded.{◌⊖◌, ◌⊗◌, ◌⊘◌, float}
use Rattle.vector.specs.Arithmetic.{dot_of, sub_of, mul_add_of, normalize_of, tiny}

-- where v.x < -0.5 or 0.5 < v.x: normalize((v.y, -v.x, 0)), else normalize((0, v.z, -v.y))
unfoldable pub arbitrary_perp_of : Vec3 → Vec3
arbitrary_perp_of v =
    cond (Ieee.lt v.x (Ieee.neg (float 0x3f00_0000)) || Ieee.lt (float 0x3f00_0000) v.x)
    (normalize_of (record { x = v.y; y = Ieee.neg v.x; z = float 0 }))
    (normalize_of (record { x = float 0; y = v.z; z = Ieee.neg v.y }))

-- a11 = d1·d1, a12 = -(d1·d2), a21 = d2·d1, a22 = -(d2·d2), w = p1 - p2, b1 = -(d1·w), b2 = -(d2·w), det = a11*a22 - a12*a21.
-- Where det*det < tiny: s1 = b1 / a11, point2 = p2, s2 = 0; else s1 = (a22*b1 - a12*b2) / det, s2 = (a11*b2 - a21*b1) / det, point2 = mul_add(p2, s2, d2).
-- Both: point1 = mul_add(p1, s1, d1).
unfoldable pub line_distance_of : Vec3 → Vec3 → Vec3 → Vec3 → LineDistance
line_distance_of p1 d1 p2 d2 =
    let a11 = dot_of d1 d1 in
    let a12 = Ieee.neg (dot_of d1 d2) in
    let a21 = dot_of d2 d1 in
    let a22 = Ieee.neg (dot_of d2 d2) in
    let w = sub_of p1 p2 in
    let b1 = Ieee.neg (dot_of d1 w) in
    let b2 = Ieee.neg (dot_of d2 w) in
    let det = a11 ⊗ a22 ⊖ a12 ⊗ a21 in
    let alone = b1 ⊘ a11 in
    let s1 = (a22 ⊗ b1 ⊖ a12 ⊗ b2) ⊘ det in
    let s2 = (a11 ⊗ b2 ⊖ a21 ⊗ b1) ⊘ det in
    cond (Ieee.lt (det ⊗ det) tiny)
    (record { point1 = mul_add_of p1 alone d1; point2 = p2; s1 = alone; s2 = float 0 })
    (record { point1 = mul_add_of p1 s1 d1; point2 = mul_add_of p2 s2 d2; s1 = s1; s2 = s2 })

-- 0 <= s, s <= 1
unfoldable pub is_fraction_of : Float → Bool
is_fraction_of s = Ieee.le (float 0) s && Ieee.le s (float 0x3f80_0000)

-- 0 <= s1, s1 <= 1, 0 <= s2, s2 <= 1
unfoldable pub is_within_segments_of : LineDistance → Bool
is_within_segments_of r = is_fraction_of r.s1 && is_fraction_of r.s2
