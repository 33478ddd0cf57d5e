-- The matrix of a unit quaternion, and what it makes of a unit vector, closer than by powers of two: numbers of at most 5/4, and of at most 5/2. Products
-- of a quaternion's numbers are bounded by its squares, since 2 * a * b is at most a * a + b * b. Assumes nothing.
use Prim.Native.Nat.{ℕ, ◌+◌, ◌*◌, ◌≤◌}
use mathlib.Core.Path.{refl}
use native.Mathlib.Omega.{arith}
use lib.Dec.{T}
use lib.Ieee.{Float, le, of_bits}
use Rattle.bounds.specs.Squares.{squares4}
use Rattle.bounds.specs.Within.{Within}
use Rattle.bounds.proofs.Squares.{Plus, square, plus_add}
use Rattle.bounds.proofs.Within.{constant, more, added, subtracted, multiplied, dot3}
use Rattle.bounds.proofs.Norms.{From, Norm3, Norm4, norm4, twice}
use Rattle.bounds.proofs.Lessened.{plus_mul, lessened}
use Rattle.vector.specs.declared.Vec3.{Vec3}
use Rattle.vector.specs.declared.Quat.{Quat}
use Rattle.vector.specs.Rounded.{◌⊕◌, ◌⊖◌, ◌⊗◌, float}
use Rattle.vector.specs.Within.{VecWithin}
use Rattle.rotation.specs.Rotation.{Rows, matrix_of, transpose_of, mul_mv_of}
use Rattle.rotation.specs.Within.{RowsWithin}

-- ---- the numbers of a matrix: 65536 units are 1, and 81920 are 5/4
doubled : {p : ℕ} {x : Float} → p + p ≤ 147456 → Within p 0 x → Within (1 * p) 1 (float 0x4000_0000 ⊗ x)
unfolding of_bits
doubled h k = multiplied 1 refl (omega arith) tt (constant 1 17 tt) k

diagonal : {i j : ℕ} {a b : Float} → i * i + i * i + (j * j + j * j) ≤ 147456 → Within i 8 a → Within j 8 b
    → Within 5 14 (float 0x3f80_0000 ⊖ float 0x4000_0000 ⊗ (a ⊗ a ⊕ b ⊗ b))
unfolding of_bits
diagonal {i} {j} {a} {b} h p q =
    let sum : Within (i * i + j * j) 0 (a ⊗ a ⊕ b ⊗ b) =
    added (omega arith) tt (multiplied 0 refl (omega arith) tt p p) (multiplied 0 refl (omega arith) tt q q) in
    let one : From 65536 (float 0x3f80_0000) = record { holds = tt } in
    let two : Plus (float 0x4000_0000) = record { holds = tt } in
    lessened (omega arith) tt (omega arith) one (constant 5 14 tt) (plus_mul two (plus_add (square a) (square b))) (doubled (omega arith) sum)

module _ {i j k l : ℕ} {a b c d : Float} (h : i * j + i * j + (k * l + k * l) ≤ 81920) (p : Within i 8 a) (q : Within j 8 b) (r : Within k 8 c)
    (s : Within l 8 d) where
  sum_entry : Within 5 14 (float 0x4000_0000 ⊗ (a ⊗ b ⊕ c ⊗ d))
  sum_entry =
      more 5 14 (omega arith)
      (doubled (omega arith) (added (omega arith) tt (multiplied 0 refl (omega arith) tt p q) (multiplied 0 refl (omega arith) tt r s)))

  difference_entry : Within 5 14 (float 0x4000_0000 ⊗ (a ⊗ b ⊖ c ⊗ d))
  difference_entry =
      more 5 14 (omega arith)
      (doubled (omega arith) (subtracted (omega arith) tt (multiplied 0 refl (omega arith) tt p q) (multiplied 0 refl (omega arith) tt r s)))

norm_within : (q : Quat) → Norm4 q.v.x q.v.y q.v.z q.s → RowsWithin 5 14 (matrix_of q)
unfolding matrix_of
norm_within q n =
    let x = n.on_x in
    let y = n.on_y in
    let z = n.on_z in
    let w = n.on_w in
    let xy_zw : n.a * n.b + n.a * n.b + (n.c * n.d + n.c * n.d) ≤ 81920 = omega (arith, n.sums, twice n.a n.b, twice n.c n.d) in
    let xz_yw : n.a * n.c + n.a * n.c + (n.b * n.d + n.b * n.d) ≤ 81920 = omega (arith, n.sums, twice n.a n.c, twice n.b n.d) in
    let yz_xw : n.b * n.c + n.b * n.c + (n.a * n.d + n.a * n.d) ≤ 81920 = omega (arith, n.sums, twice n.b n.c, twice n.a n.d) in
    record {
      row0 = record { on_x = diagonal (omega arith) y z; on_y = difference_entry xy_zw x y z w; on_z = sum_entry xz_yw x z y w };
      row1 = record { on_x = sum_entry xy_zw x y z w; on_y = diagonal (omega arith) x z; on_z = difference_entry yz_xw y z x w };
      row2 = record { on_x = difference_entry xz_yw x z y w; on_y = sum_entry yz_xw y z x w; on_z = diagonal (omega arith) x y };
    }

-- 0x3f81_47ae is the binary32 number nearest 1.01
pub matrix_within : (q : Quat) → T (le (squares4 q.v.x q.v.y q.v.z q.s) (float 0x3f81_47ae)) → RowsWithin 5 14 (matrix_of q)
matrix_within q h = norm_within q (norm4 q.v.x q.v.y q.v.z q.s h)

pub transpose_within : {p r : ℕ} {m : Rows} → RowsWithin p r m → RowsWithin p r (transpose_of m)
unfolding transpose_of
transpose_within h =
    record {
      row0 = record { on_x = h.row0.on_x; on_y = h.row1.on_x; on_z = h.row2.on_x };
      row1 = record { on_x = h.row0.on_y; on_y = h.row1.on_y; on_z = h.row2.on_y };
      row2 = record { on_x = h.row0.on_z; on_y = h.row1.on_z; on_z = h.row2.on_z };
    }

-- ---- a unit vector, turned
pub mul_mv_within : {m : Rows} {v : Vec3} → RowsWithin 5 14 m → Norm3 v.x v.y v.z → VecWithin 5 15 (mul_mv_of m v)
unfolding mul_mv_of
mul_mv_within {m} {v} h n = record { on_x = along h.row0; on_y = along h.row1; on_z = along h.row2 }
  where
    along : {r : Vec3} → VecWithin 5 14 r → Within 5 15 (r.x ⊗ v.x ⊕ r.y ⊗ v.y ⊕ r.z ⊗ v.z)
    along r = more 5 15 (omega (arith, n.sums)) (dot3 6 refl (omega (arith, n.sums)) tt r.on_x r.on_y r.on_z n.on_x n.on_y n.on_z)
