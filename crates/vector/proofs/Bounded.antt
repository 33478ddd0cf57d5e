-- What each helper makes of bounded numbers: the laws by which callers know that their floats stay finite, without opening a helper. Assumes nothing.
use Prim.Native.Nat.{ℕ, suc, ◌+◌, max}
use native.Mathlib.Omega.{arith}
use lib.Dec.{T, leb, le→leb}
use lib.Ieee as Ieee
use lib.Ieee.{Float, binary32, fits, mul, of_bits}
use lib.Ieee.Fits.{add-fits, mul-fits}
use lib.Ieee.Positive.{positive}
use Rattle.bounds.specs.Bound.{Below}
use Rattle.bounds.proofs.Laws.{constant, more, less, added, summed, multiplied, subtracted, deducted, negated, picked, picked_if, dot3}
use Rattle.bounds.proofs.Quotients.{AtLeast, least, no_less_of_lt, larger, divided}
use Rattle.root.specs.Root.{root_of}
use Rattle.root.proofs.Monotone.{root_mono}
use Rattle.vector.specs.declared.Vec3.{Vec3}
use Rattle.vector.specs.declared.Aabb.{Aabb}
use Rattle.vector.specs.Rounded.{float}
use Rattle.vector.specs.Scalar.{abs_of}
use Rattle.vector.specs.Arithmetic.{add_of, sub_of, neg_of, abs_vec_of, dot_of, cross_of, length_squared_of, mul_sv_of, mul_add_of, mul_sub_of, tiny}
use Rattle.vector.specs.Arithmetic.{normalize_of}
use Rattle.vector.specs.Shape.{center_of, extents_of}
use Rattle.vector.specs.Bounded.{VecBelow}

-- ---- vectors
pub more_below : {j : ℕ} (k : ℕ) {v : Vec3} → T (leb j k) → VecBelow j v → VecBelow k v
more_below k t p = record { on_x = more k t p.on_x; on_y = more k t p.on_y; on_z = more k t p.on_z }

pub neg_below : {k : ℕ} {v : Vec3} → VecBelow k v → VecBelow k (neg_of v)
unfolding neg_of
neg_below p = record { on_x = negated p.on_x; on_y = negated p.on_y; on_z = negated p.on_z }

pub abs_float_below : {k : ℕ} {x : Float} → Below k x → Below k (abs_of x)
unfolding abs_of
abs_float_below {k} {x} p = picked (Below k) (Ieee.lt x (float 0)) (negated p) p

pub abs_below : {k : ℕ} {v : Vec3} → VecBelow k v → VecBelow k (abs_vec_of v)
unfolding abs_vec_of
abs_below p = record { on_x = abs_float_below p.on_x; on_y = abs_float_below p.on_y; on_z = abs_float_below p.on_z }

pub add_below : {j k : ℕ} {a b : Vec3} → T (leb (suc (max j k)) 127) → VecBelow j a → VecBelow k b → VecBelow (suc (max j k)) (add_of a b)
unfolding add_of
add_below t p q = record { on_x = added t p.on_x q.on_x; on_y = added t p.on_y q.on_y; on_z = added t p.on_z q.on_z }

pub sub_below : {j k : ℕ} {a b : Vec3} → T (leb (suc (max j k)) 127) → VecBelow j a → VecBelow k b → VecBelow (suc (max j k)) (sub_of a b)
unfolding sub_of
sub_below t p q = record { on_x = subtracted t p.on_x q.on_x; on_y = subtracted t p.on_y q.on_y; on_z = subtracted t p.on_z q.on_z }

pub mul_sv_below : {j k : ℕ} {s : Float} {v : Vec3} → T (leb (j + k) 127) → Below j s → VecBelow k v → VecBelow (j + k) (mul_sv_of s v)
unfolding mul_sv_of
mul_sv_below t p q = record { on_x = multiplied t p q.on_x; on_y = multiplied t p q.on_y; on_z = multiplied t p q.on_z }

pub dot_below : {j k : ℕ} {a b : Vec3} → T (leb (suc (suc (j + k))) 127) → VecBelow j a → VecBelow k b → Below (suc (suc (j + k))) (dot_of a b)
unfolding dot_of
dot_below t p q = dot3 t p.on_x p.on_y p.on_z q.on_x q.on_y q.on_z

pub cross_below : {j k : ℕ} {a b : Vec3} → T (leb (suc (j + k)) 127) → VecBelow j a → VecBelow k b → VecBelow (suc (j + k)) (cross_of a b)
unfolding cross_of
cross_below {j} {k} t p q =
    let u = less (j + k) 127 t in
    record {
      on_x = deducted t (multiplied u p.on_y q.on_z) (multiplied u p.on_z q.on_y);
      on_y = deducted t (multiplied u p.on_z q.on_x) (multiplied u p.on_x q.on_z);
      on_z = deducted t (multiplied u p.on_x q.on_y) (multiplied u p.on_y q.on_x);
    }

module _ {j k : ℕ} {a b : Vec3} {s : Float} (t : T (leb (suc (j + k)) 127)) (p : VecBelow (j + k) a) (r : Below j s) (q : VecBelow k b) where
  times : VecBelow (j + k) (mul_sv_of s b)
  times = mul_sv_below (less (j + k) 127 t) r q

  pub mul_add_below : VecBelow (suc (j + k)) (mul_add_of a s b)
  unfolding mul_add_of mul_sv_of
  mul_add_below = record { on_x = summed t p.on_x times.on_x; on_y = summed t p.on_y times.on_y; on_z = summed t p.on_z times.on_z }

  pub mul_sub_below : VecBelow (suc (j + k)) (mul_sub_of a s b)
  unfolding mul_sub_of mul_sv_of
  mul_sub_below =
      record { on_x = deducted t p.on_x times.on_x; on_y = deducted t p.on_y times.on_y; on_z = deducted t p.on_z times.on_z }

-- the square of a length that is above `tiny` has a root of 2 ^ -59 or more
tiny_positive : T (positive tiny)
unfolding mul of_bits
tiny_positive = tt

root_of_tiny : AtLeast 59 (root_of tiny)
unfolding root_of mul of_bits
root_of_tiny = least 59 tt

root_least : (l : Float) → T (fits binary32 l) → T (Ieee.lt tiny l) → AtLeast 59 (root_of l)
root_least l f h = larger root_of_tiny (root_mono tiny l (mul-fits binary32 _ _) f tiny_positive (no_less_of_lt tiny l h))

pub normalize_below : {k : ℕ} {v : Vec3} → T (leb (59 + k) 127) → VecBelow k v → VecBelow (59 + k) (normalize_of v)
unfolding normalize_of length_squared_of of_bits
normalize_below {k} {v} t p =
    picked_if (VecBelow (59 + k)) (Ieee.lt tiny (length_squared_of v))
    (λ h. mul_sv_below t (divided tt (constant 0 tt) (root_least (length_squared_of v) (add-fits binary32 _ _) h)) p)
    (record { on_x = none; on_y = none; on_z = none })
  where
    none : Below (59 + k) (float 0)
    none = more (59 + k) (le→leb 0 (59 + k) (omega arith)) (constant 0 tt)

-- ---- boxes: the centre and the half-sizes of a box whose corners are coordinates
pub center_below : {b : Aabb} → VecBelow 22 b.lower → VecBelow 22 b.upper → VecBelow 23 (center_of b)
unfolding center_of of_bits
center_below p q = mul_sv_below tt (constant 0 tt) (add_below tt p q)

pub extents_below : {b : Aabb} → VecBelow 22 b.lower → VecBelow 22 b.upper → VecBelow 23 (extents_of b)
unfolding extents_of of_bits
extents_below p q = mul_sv_below tt (constant 0 tt) (sub_below tt q p)
