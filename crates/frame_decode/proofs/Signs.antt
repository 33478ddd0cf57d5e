-- Numbers with a sign, from their 32 bits. Assumes nothing.
use Prim.Native.Nat.{ℕ, suc, ◌-◌}
use mathlib.Core.Path.{◌≡◌, ap}
use mathlib.Core.Bool.{cond}
use native.Mathlib.Omega.{arith}
use lib.Dec.{ltb}
use lib.IntN.{pos, negsuc}
use mir.Syntax.{w32}
use mir.Val.{to_z}
use Rattle.frame_decode.specs.Fields.{signed}

-- the number with a sign that has these bits
pub signed_is : (w : ℕ) → to_z w32 w ≡ signed w
unfolding signed
signed_is w = let e : 0x1_0000_0000 - suc w ≡ 0xffff_ffff - w = omega arith in ap (λ k. cond (ltb w 0x8000_0000) (pos w) (negsuc k)) e
