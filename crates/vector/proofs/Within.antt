-- What the helpers make of numbers that are bounded more finely than by a power of two. Assumes nothing.
use Prim.Native.Nat.{ℕ, ◌+◌, ◌*◌, ◌^◌, ◌≤◌, ◌<◌}
use mathlib.Core.Path.{◌≡◌, refl}
use lib.Dec.{T, leb, lit<, lit≤}
use lib.Ieee as Ieee
use lib.Ieee.{Float, of_bits}
use Rattle.bounds.specs.Within.{Within}
use Rattle.bounds.proofs.Laws.{picked}
use Rattle.bounds.proofs.Within.{constant, more, added, subtracted, multiplied, negated, dot3, below}
use Rattle.vector.specs.declared.Vec3.{Vec3}
use Rattle.vector.specs.declared.Aabb.{Aabb}
use Rattle.vector.specs.Rounded.{float}
use Rattle.vector.specs.Scalar.{abs_of}
use Rattle.vector.specs.Arithmetic.{add_of, sub_of, neg_of, abs_vec_of, dot_of, mul_sv_of}
use Rattle.vector.specs.Shape.{center_of, extents_of}
use Rattle.vector.specs.Bounded.{VecBelow}
use Rattle.vector.specs.Within.{VecWithin}

-- ---- vectors
pub more_within : {p r : ℕ} (q t : ℕ) {v : Vec3} → p * 2 ^ r ≤ q * 2 ^ t → VecWithin p r v → VecWithin q t v
more_within q t g h = record { on_x = more q t g h.on_x; on_y = more q t g h.on_y; on_z = more q t g h.on_z }

-- in the coarser calculus
pub vec_below : {p r : ℕ} (k : ℕ) {v : Vec3} → p * 2 ^ r ≤ 2 ^ k * 65536 → VecWithin p r v → VecBelow k v
vec_below k g h = record { on_x = below k g h.on_x; on_y = below k g h.on_y; on_z = below k g h.on_z }

pub neg_within : {p r : ℕ} {v : Vec3} → VecWithin p r v → VecWithin p r (neg_of v)
unfolding neg_of
neg_within h = record { on_x = negated h.on_x; on_y = negated h.on_y; on_z = negated h.on_z }

abs_float_within : {p r : ℕ} {x : Float} → Within p r x → Within p r (abs_of x)
unfolding abs_of
abs_float_within {p} {r} {x} h = picked (Within p r) (Ieee.lt x (float 0)) (negated h) h

pub abs_within : {p r : ℕ} {v : Vec3} → VecWithin p r v → VecWithin p r (abs_vec_of v)
unfolding abs_vec_of
abs_within h = record { on_x = abs_float_within h.on_x; on_y = abs_float_within h.on_y; on_z = abs_float_within h.on_z }

pub dot_within : {p q r t : ℕ} {a b : Vec3} (u : ℕ) → r + t ≡ 16 + u → p * q + p * q + p * q < 2 ^ 24 → T (leb u 100) → VecWithin p r a → VecWithin q t b
    → Within (p * q + p * q + p * q) u (dot_of a b)
unfolding dot_of
dot_within u e P R h k = dot3 u e P R h.on_x h.on_y h.on_z k.on_x k.on_y k.on_z

-- ---- boxes: the centre and the half-sizes of a box whose corners are coordinates at the largest unit, 4096000 at most, are no larger
half_within : {x : Float} → Within 8000 26 x → Within 4000 26 (Ieee.mul Ieee.binary32 (float 0x3f00_0000) x)
unfolding of_bits
half_within h = more 4000 26 (lit≤ tt) (multiplied 25 refl (lit< tt) tt (constant 1 15 tt) h)

pub center_within : {b : Aabb} → VecWithin 4000 26 b.lower → VecWithin 4000 26 b.upper → VecWithin 4000 26 (center_of b)
unfolding center_of mul_sv_of add_of
center_within h k = record { on_x = half h.on_x k.on_x; on_y = half h.on_y k.on_y; on_z = half h.on_z k.on_z }
  where
    half : {x y : Float} → Within 4000 26 x → Within 4000 26 y → Within 4000 26 (Ieee.mul Ieee.binary32 (float 0x3f00_0000) (Ieee.add Ieee.binary32 x y))
    half h k = half_within (added (lit< tt) tt h k)

pub extents_within : {b : Aabb} → VecWithin 4000 26 b.lower → VecWithin 4000 26 b.upper → VecWithin 4000 26 (extents_of b)
unfolding extents_of mul_sv_of sub_of
extents_within h k = record { on_x = half k.on_x h.on_x; on_y = half k.on_y h.on_y; on_z = half k.on_z h.on_z }
  where
    half : {x y : Float} → Within 4000 26 x → Within 4000 26 y → Within 4000 26 (Ieee.mul Ieee.binary32 (float 0x3f00_0000) (Ieee.sub Ieee.binary32 x y))
    half h k = half_within (subtracted (lit< tt) tt h k)
