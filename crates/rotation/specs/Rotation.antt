-- Rotations and transforms. The rotation is three rows of three numbers. Provisional readings. Definitions only.
use Rattle.std.specs.Prelude.{ℕ, List, [], ◌∷◌, get_or, Float}
use Rattle.std.specs.Float.{nan}
use Rattle.vector.specs.declared.Vec3.{Vec3}
use Rattle.vector.specs.declared.Quat.{Quat}
use Rattle.vector.specs.declared.Transform.{Transform}
use Rattle.vector.specs.Rounded.{◌⊕◌, ◌⊖◌, ◌⊗◌, float}
use Rattle.vector.specs.Arithmetic.{add_of, sub_of, neg_of, cross_of, mul_add_of, mul_sub_of}

abbrev pub Rows : Type 0
Rows = List (List Float)

-- row i, column j
abbrev pub entry : Rows → ℕ → ℕ → Float
entry m i j = get_or (get_or m i []) j nan

abbrev one : Float
one = float 0x3f80_0000

abbrev two : Float
two = float 0x4000_0000

abbrev rows_of : Float → Float → Float → Float → Rows
rows_of x y z w =
    ((one ⊖ two ⊗ (y ⊗ y ⊕ z ⊗ z)) ∷ (two ⊗ (x ⊗ y ⊖ z ⊗ w)) ∷ (two ⊗ (x ⊗ z ⊕ y ⊗ w)) ∷ [])
    ∷ ((two ⊗ (x ⊗ y ⊕ z ⊗ w)) ∷ (one ⊖ two ⊗ (x ⊗ x ⊕ z ⊗ z)) ∷ (two ⊗ (y ⊗ z ⊖ x ⊗ w)) ∷ [])
    ∷ ((two ⊗ (x ⊗ z ⊖ y ⊗ w)) ∷ (two ⊗ (y ⊗ z ⊕ x ⊗ w)) ∷ (one ⊖ two ⊗ (x ⊗ x ⊕ y ⊗ y)) ∷ [])
    ∷ []

-- with xx = x*x, xy = x*y, xw = x*w and so on: rows (1 - 2*(yy + zz), 2*(xy - zw), 2*(xz + yw)), (2*(xy + zw), 1 - 2*(xx + zz), 2*(yz - xw)), (2*(xz
-- - yw), 2*(yz + xw), 1 - 2*(xx + yy))
unfoldable pub matrix_of : Quat → Rows
matrix_of q = rows_of q.v.x q.v.y q.v.z q.s

-- rows become columns
unfoldable pub transpose_of : Rows → Rows
transpose_of m =
    (entry m 0 0 ∷ entry m 1 0 ∷ entry m 2 0 ∷ [])
    ∷ (entry m 0 1 ∷ entry m 1 1 ∷ entry m 2 1 ∷ [])
    ∷ (entry m 0 2 ∷ entry m 1 2 ∷ entry m 2 2 ∷ [])
    ∷ []

-- each row: (m0*x + m1*y) + m2*z
abbrev pub along_row : Rows → ℕ → Vec3 → Float
along_row m i v = entry m i 0 ⊗ v.x ⊕ entry m i 1 ⊗ v.y ⊕ entry m i 2 ⊗ v.z

unfoldable pub mul_mv_of : Rows → Vec3 → Vec3
mul_mv_of m v = record { x = along_row m 0 v; y = along_row m 1 v; z = along_row m 2 v }

-- t1 = cross(q.v, v); t2 = mul_add(t1, q.s, v); t3 = cross(q.v, t2); mul_add(v, 2, t3)
unfoldable pub rotate_of : Quat → Vec3 → Vec3
rotate_of q v = mul_add_of v two (cross_of q.v (mul_add_of (cross_of q.v v) q.s v))

-- the same with t2 = mul_sub(t1, q.s, v)
unfoldable pub inv_rotate_of : Quat → Vec3 → Vec3
inv_rotate_of q v = mul_add_of v two (cross_of q.v (mul_sub_of (cross_of q.v v) q.s v))

-- add(rotate_vector(t.q, v), t.p)
unfoldable pub transform_point_of : Transform → Vec3 → Vec3
transform_point_of t v = add_of (rotate_of t.q v) t.p

-- inv_rotate_vector(t.q, sub(v, t.p))
unfoldable pub inv_transform_point_of : Transform → Vec3 → Vec3
inv_transform_point_of t v = inv_rotate_of t.q (sub_of v t.p)

-- p = inv_rotate_vector(t.q, neg(t.p)), q = (neg(q.v), q.s)
unfoldable pub invert_of : Transform → Transform
invert_of t = record { p = inv_rotate_of t.q (neg_of t.p); q = record { v = neg_of t.q.v; s = t.q.s } }
