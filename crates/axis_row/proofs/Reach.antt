-- What the code reads is in reach: a number that the links store lies below 128. Assumes nothing.
use Prim.Native.Nat.{ℕ, ◌<◌}
use mathlib.Core.Path.{◌≡◌}
use mathlib.Core.List.{List}
use native.Mathlib.Omega.{arith}
use Rattle.hull_links.specs.declared.HullSize.{HullSize}
use Rattle.hull_links.specs.Links.{origin, face}
use Rattle.axis_edges.specs.inner.Ready.{EdgesIn}

module _ (s : HullSize) (l : List ℕ) (ok : EdgesIn s l) (e : ℕ) (h : e < s.half_edges) (r : ℕ) where
  pub face_low : r ≡ face s l e → r < 128
  face_low q = omega (arith, q, ok.face_in e h, ok.fit.f_high)

  pub origin_low : r ≡ origin s l e → r < 128
  origin_low q = omega (arith, q, ok.origin_in e h, ok.fit.v_high)
