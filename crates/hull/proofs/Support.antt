-- The lists that `support_vertex` lends are the x, the y and the z list, and the vertex that it finds is one of the hull's. Assumes nothing.
use Prim.Native.Nat.{ℕ, ◌+◌, ◌-◌, ◌*◌, ◌<◌}
use mathlib.Core.List.{List}
use mathlib.Core.Path.{◌≡◌}
use native.Mathlib.Omega.{arith}
use lib.ListN.{take, drop}
use lib.Ieee.{Float}
use Rattle.vector.specs.declared.Vec3.{Vec3}
use Rattle.vector.specs.Shape.{support_vertex_of}
use Rattle.vector.proofs.Farthest.{support_below}
use Rattle.hull_links.specs.declared.HullSize.{HullSize}
use Rattle.hull_links.specs.Links.{padded, NumbersFit}
use Rattle.hull.specs.Numbers.{list_from, support_at}

-- the slice from a to b of the numbers; where b is a list's length behind a, it is that list
abbrev slice : List Float → ℕ → ℕ → List Float
slice n a b = take (b - a) (drop a n)

slice_is : (s : HullSize) (n : List Float) (a b from : ℕ) → b - a ≡ padded s → a ≡ from → slice n a b ≡ list_from s n from
slice_is s n a b from p q = rw (p, q)

module _ (s : HullSize) (n : List Float) (d : Vec3) where
  -- the vertex r that is found in the slices lent, each p numbers long
  pub lists_are : (p : ℕ) {r : ℕ} → p ≡ padded s
      → r ≡ support_vertex_of (slice n 6 (6 + p)) (slice n (6 + p) (6 + p + p)) (slice n (6 + p + p) (6 + p + p + p)) s.vertices d → r ≡ support_at s n d
  unfolding support_at
  lists_are p q found =
      let along_x = slice_is s n 6 (6 + p) 6 (omega (arith, q)) (omega arith) in
      let along_y = slice_is s n (6 + p) (6 + p + p) (6 + padded s) (omega (arith, q)) (omega (arith, q)) in
      let along_z = slice_is s n (6 + p + p) (6 + p + p + p) (6 + 2 * padded s) (omega (arith, q)) (omega (arith, q)) in
      rw (along_x, along_y, along_z) at found

  pub support_in : NumbersFit s n → support_at s n d < s.vertices
  unfolding support_at
  support_in fit = support_below _ _ _ d s.vertices (omega (arith, fit.v_low))
