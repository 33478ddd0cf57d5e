-- What a rotation makes of bounded numbers. Assumes nothing.
use Prim.Native.Nat.{ℕ, suc, ◌+◌, ◌≤◌}
use mathlib.Core.Path.{◌≡◌, subst}
use native.Mathlib.Nat.{le_trans}
use native.Mathlib.Omega.{arith}
use lib.Dec.{T, leb, leb→le, le→leb}
use lib.Ieee.{Float, of_bits}
use Rattle.bounds.specs.Bound.{Below}
use Rattle.bounds.proofs.Laws.{constant, more, added, multiplied, subtracted, dot3}
use Rattle.vector.specs.declared.Vec3.{Vec3}
use Rattle.vector.specs.declared.Quat.{Quat}
use Rattle.vector.specs.declared.Transform.{Transform}
use Rattle.vector.specs.Rounded.{◌⊕◌, ◌⊖◌, ◌⊗◌, float}
use Rattle.vector.specs.Arithmetic.{cross_of, mul_sub_of}
use Rattle.vector.specs.Bounded.{VecBelow}
use Rattle.vector.proofs.Bounded.{more_below, neg_below, cross_below, mul_add_below, mul_sub_below}
use Rattle.rotation.specs.Rotation.{Rows, matrix_of, transpose_of, mul_mv_of, inv_rotate_of, invert_of}
use Rattle.rotation.specs.Bounded.{RowsBelow}

-- The numbers of a unit quaternion are at most 2, and those of its matrix at most 2 ^ 5.
diagonal : {a b : Float} → Below 1 a → Below 1 b → Below 5 (float 0x3f80_0000 ⊖ float 0x4000_0000 ⊗ (a ⊗ a ⊕ b ⊗ b))
unfolding of_bits
diagonal p q = subtracted tt (constant 0 tt) (multiplied tt (constant 1 tt) (added tt (multiplied tt p p) (multiplied tt q q)))

module _ {a b c d : Float} (p : Below 1 a) (q : Below 1 b) (r : Below 1 c) (s : Below 1 d) where
  sum_entry : Below 5 (float 0x4000_0000 ⊗ (a ⊗ b ⊕ c ⊗ d))
  unfolding of_bits
  sum_entry = more 5 tt (multiplied tt (constant 1 tt) (added tt (multiplied tt p q) (multiplied tt r s)))

  difference_entry : Below 5 (float 0x4000_0000 ⊗ (a ⊗ b ⊖ c ⊗ d))
  unfolding of_bits
  difference_entry = more 5 tt (multiplied tt (constant 1 tt) (subtracted tt (multiplied tt p q) (multiplied tt r s)))

pub matrix_below : {q : Quat} → VecBelow 1 q.v → Below 1 q.s → RowsBelow 5 (matrix_of q)
unfolding matrix_of
matrix_below p w =
    let x = p.on_x in
    let y = p.on_y in
    let z = p.on_z in
    record {
      row0 = record { on_x = diagonal y z; on_y = difference_entry x y z w; on_z = sum_entry x z y w };
      row1 = record { on_x = sum_entry x y z w; on_y = diagonal x z; on_z = difference_entry y z x w };
      row2 = record { on_x = difference_entry x z y w; on_y = sum_entry y z x w; on_z = diagonal x y };
    }

pub transpose_below : {k : ℕ} {m : Rows} → RowsBelow k m → RowsBelow k (transpose_of m)
unfolding transpose_of
transpose_below p =
    record {
      row0 = record { on_x = p.row0.on_x; on_y = p.row1.on_x; on_z = p.row2.on_x };
      row1 = record { on_x = p.row0.on_y; on_y = p.row1.on_y; on_z = p.row2.on_y };
      row2 = record { on_x = p.row0.on_z; on_y = p.row1.on_z; on_z = p.row2.on_z };
    }

pub mul_mv_below : {j k : ℕ} {m : Rows} {v : Vec3} → T (leb (suc (suc (j + k))) 127) → RowsBelow j m → VecBelow k v
    → VecBelow (suc (suc (j + k))) (mul_mv_of m v)
unfolding mul_mv_of
mul_mv_below {j} {k} {m} {v} t p q = record { on_x = along p.row0; on_y = along p.row1; on_z = along p.row2 }
  where
    along : {r : Vec3} → VecBelow j r → Below (suc (suc (j + k))) (r.x ⊗ v.x ⊕ r.y ⊗ v.y ⊕ r.z ⊗ v.z)
    along r = dot3 t r.on_x r.on_y r.on_z q.on_x q.on_y q.on_z

-- the turn of an inverse
pub inverted_below : {k : ℕ} (x : Transform) → VecBelow k x.q.v → Below k x.q.s → VecBelow k (invert_of x).q.v × Below k (invert_of x).q.s
unfolding invert_of
inverted_below x p w = (neg_below p, w)

-- a vector turned back
pub inv_rotate_below : {k : ℕ} {q : Quat} {v : Vec3} → T (leb (7 + k) 127) → VecBelow 1 q.v → Below 1 q.s → VecBelow k v
    → VecBelow (7 + k) (inv_rotate_of q v)
unfolding inv_rotate_of of_bits
inv_rotate_below {k} {q} {v} t p w b =
    let first : VecBelow (2 + k) (cross_of q.v v) = exactly (omega arith) (cross_below (room (suc (1 + k)) (omega arith)) p b) in
    let second : VecBelow (3 + k) (mul_sub_of (cross_of q.v v) q.s v) =
    exactly (omega arith) (mul_sub_below (room (suc (2 + k)) (omega arith)) first (more 2 tt w) b) in
    let third : VecBelow (5 + k) (cross_of q.v (mul_sub_of (cross_of q.v v) q.s v)) =
    exactly (omega arith) (cross_below (room (suc (1 + (3 + k))) (omega arith)) p second) in
    exactly (omega arith)
    (mul_add_below (room (suc (1 + (5 + k))) (omega arith)) (more_below (1 + (5 + k)) (le→leb k (1 + (5 + k)) (omega arith)) b) (constant 1 tt) third)
  where
    room : (i : ℕ) → i ≤ 7 + k → T (leb i 127)
    room i h = le→leb i 127 (le_trans h (leb→le (7 + k) 127 t))

    exactly : {i j : ℕ} {u : Vec3} → i ≡ j → VecBelow i u → VecBelow j u
    exactly {i} {j} {u} e h = subst (λ (z : ℕ). VecBelow z u) e h
