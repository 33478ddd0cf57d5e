-- The starting value of the support search at 1000 a metre, 100000000, is never the least: every value that is worked out stays below it, with a
-- vertex's number in its low seven bits too. Sizes: direction 5/2, dots 30720000, bias 63360000, value 94080000. Assumes nothing.
use mathlib.Core.Path.{◌≡◌, refl, ap}
use mathlib.Core.Bool.{Bool, true, cond}
use Prim.Native.Nat.{ℕ, ◌<◌}
use lib.IntN.{pos}
use lib.Dec.{T, lit<, lit≤}
use lib.Ieee as Ieee
use lib.Ieee.{Float, binary32, size, of_bits, fits}
use lib.Ieee.Fits.{sub-fits}
use Rattle.bounds.specs.Squares.{squares3}
use Rattle.bounds.specs.LowBits.{embed_of}
use Rattle.bounds.specs.Within.{Within}
use Rattle.bounds.proofs.Within.{constant, more, added, subtracted, multiplied, dot3_right}
use Rattle.bounds.proofs.Norms.{norm3}
use Rattle.bounds.proofs.PatternOrder.{embed_under}
use Rattle.bounds.proofs.Strict.{not_le_of_lt}
use Rattle.vector.specs.declared.Vec3.{Vec3}
use Rattle.vector.specs.Rounded.{float}
use Rattle.vector.specs.Within.{VecWithin}
use Rattle.vector.proofs.Within.{neg_within, abs_within, dot_within}
use Rattle.rotation.specs.Rotation.{Rows}
use Rattle.rotation.specs.Within.{RowsWithin}
use Rattle.rotation.proofs.Within.{mul_mv_within}
use Rattle.lanes.specs.declared.FloatW.{FloatW}
use Rattle.lanes.specs.Lanes.{least_of, least_w_of}
use Rattle.axis_faces.specs.Support.{support_value_of}
use Rattle.axis_faces.specs.Faces.{bias_of, direction_of}

-- ---- the numbers of the search. 0x3f81_47ae is the binary32 number nearest 1.01
pub direction_within : {turn : Rows} (normal : Vec3) → RowsWithin 5 14 turn → T (Ieee.le (squares3 normal.x normal.y normal.z) (float 0x3f81_47ae))
    → VecWithin 5 15 (direction_of turn normal)
unfolding direction_of
direction_within normal h n = neg_within (mul_mv_within h (norm3 normal.x normal.y normal.z n))

pub bias_within : {d center extents : Vec3} → VecWithin 5 15 d → VecWithin 4000 26 center → VecWithin 4000 26 extents
    → Within 1980000 21 (bias_of d center extents)
unfolding bias_of of_bits
bias_within h c e =
    added (lit< tt) tt (more 960000 21 (lit≤ tt) (dot_within 25 refl (lit< tt) tt h c))
    (multiplied 21 refl (lit< tt) tt (constant 17 12 tt) (dot_within 25 refl (lit< tt) tt (abs_within h) e))

pub value_within : {bias : Float} {d v : Vec3} → Within 1980000 21 bias → VecWithin 5 15 d → VecWithin 4000 26 v → Within 2940000 21 (support_value_of bias d v)
unfolding support_value_of
value_within b h k =
    subtracted (lit< tt) tt b
    (more 960000 21 (lit≤ tt) (dot3_right 25 refl (lit< tt) tt h.on_x h.on_y h.on_z k.on_x k.on_y k.on_z))

pub value_fits : (bias : Float) (d v : Vec3) → T (fits binary32 (support_value_of bias d v))
unfolding support_value_of
value_fits bias d v = sub-fits binary32 bias _

-- ---- such a value, with a number in its low seven bits
pub under_start : {bias : Float} {d v : Vec3} (i : ℕ) → i < 128 → Within 1980000 21 bias → VecWithin 5 15 d → VecWithin 4000 26 v
    → Ieee.lt (embed_of (support_value_of bias d v) i) (of_bits binary32 0x4cbe_bc20) ≡ true
unfolding size of_bits
under_start {bias} {d} {v} i il b h k =
    embed_under 2940000 21 390625 (pos 8) (lit< tt) (lit< tt) (support_value_of bias d v) i il (value_fits bias d v) (value_within b h k)

-- ---- so the first value of a lane takes the place of the starting value
gives_way : (start x : Float) → Ieee.lt x start ≡ true → least_of start x ≡ x
unfolding least_of
gives_way start x h = ap (λ (b : Bool). cond b start x) (not_le_of_lt x start h)

pub start_gives_way : (start : Float) (v : FloatW) → Ieee.lt v.x start ≡ true → Ieee.lt v.y start ≡ true → Ieee.lt v.z start ≡ true
    → Ieee.lt v.w start ≡ true → least_w_of (record { x = start; y = start; z = start; w = start }) v ≡ v
unfolding least_w_of
start_gives_way start v a b c d = rw (gives_way start v.x a, gives_way start v.y b, gives_way start v.z c, gives_way start v.w d)
