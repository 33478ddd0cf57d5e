-- A product may be turned round, and so may a dot: the code takes A's normals along B's edge, and the definition B's edge along A's normals. Assumes nothing.
use Prim.Native.Nat.{◌*◌}
use mathlib.Core.Path.{◌≡◌, refl}
use mathlib.Core.Bool.{Bool, true, false}
use native.Mathlib.Nat.{mul_comm}
use lib.Ieee.{Float, nan, inf, fin, Format, binary32, mul, up, down, unlike}
use Rattle.vector.specs.declared.Vec3.{Vec3}
use Rattle.axis_edges.specs.Edges.{dot_right}

unlike_turns : (s t : Bool) → unlike s t ≡ unlike t s
unlike_turns true true = refl
unlike_turns true false = refl
unlike_turns false true = refl
unlike_turns false false = refl

mul_turns : (f : Format) (x y : Float) → mul f x y ≡ mul f y x
unfolding mul
mul_turns f nan nan = refl
mul_turns f nan (inf t) = refl
mul_turns f nan (fin t n d) = refl
mul_turns f (inf s) nan = refl
mul_turns f (inf s) (inf t) = rw (unlike_turns s t)
mul_turns f (inf s) (fin t n d) = rw (unlike_turns s t)
mul_turns f (fin s m e) nan = refl
mul_turns f (fin s m e) (inf t) = rw (unlike_turns s t)
mul_turns f (fin s m e) (fin t n d) = rw (unlike_turns s t, mul_comm (m * up e) (n * up d), mul_comm (down e) (down d))

pub dot_turns : (a b : Vec3) → dot_right a b ≡ dot_right b a
unfolding dot_right
dot_turns a b = rw (mul_turns binary32 a.x b.x, mul_turns binary32 a.y b.y, mul_turns binary32 a.z b.z)
