-- What the accessors ask for, from links in range. Assumes nothing.
use Prim.Native.Nat.{ℕ, ◌<◌}
use mathlib.Core.Path.{◌≡◌}
use mathlib.Core.List.{List}
use native.Mathlib.Omega.{arith}
use lib.Ieee.{Float}
use Rattle.hull_links.specs.declared.HullSize.{HullSize}
use Rattle.hull_links.specs.Links.{padded, origin, NumbersFit}
use Rattle.axis_edges.specs.inner.Ready.{EdgesIn}

in_list : (s : HullSize) (v : ℕ) → v < s.vertices → v < padded s
in_list s v h = omega arith

module _ (s : HullSize) (n : List Float) (l : List ℕ) (fit : NumbersFit s n) (ok : EdgesIn s l) (e : ℕ) (h : e < s.half_edges) (r : ℕ) where
  pub at_origin : r ≡ origin s l e → NumbersFit s n × (r < padded s)
  at_origin q = (fit, in_list s r (omega (arith, q, ok.origin_in e h)))
