-- What the work on a face asks of an accepted hull: links and vertices in range. Assumes nothing.
use Prim.Native.Nat.{ℕ, ◌<◌}
use mathlib.Core.Path.{◌≡◌, sym, subst}
use mathlib.Core.List.{List}
use native.Mathlib.Omega.{arith}
use lib.Ieee.{Float}
use Rattle.hull_links.specs.declared.HullSize.{HullSize}
use Rattle.hull_links.specs.Links.{padded, next, twin, origin, face, LinksFit, NumbersFit}
use Rattle.hull.specs.Accepted.{Accepted}

-- a number that is equal to one below k
pub below : (x y k : ℕ) → x ≡ y → y < k → x < k
below x y k q h = subst (λ (z : ℕ). z < k) (sym q) h

module _ (s : HullSize) (n : List Float) (l : List ℕ) (ok : Accepted s n l) where
  -- a vertex is no padding
  pub in_list : (v : ℕ) → v < s.vertices → v < padded s
  in_list v h = omega arith

  module _ (e : ℕ) (h : e < s.half_edges) where
    -- a half-edge's number fits a byte
    pub byte : e < 256
    byte = omega (arith, ok.links_fit.h_high)

    -- the accessors' needs, at a number r that an accessor gave
    pub at_next : (r : ℕ) → r ≡ next s l e → LinksFit s l × (r < s.half_edges)
    at_next r q = (ok.links_fit, below _ _ _ q (ok.next_in e h))

    pub at_twin : (r : ℕ) → r ≡ twin s l e → LinksFit s l × (r < s.half_edges)
    at_twin r q = (ok.links_fit, below _ _ _ q (ok.twin_in e h))

    pub at_origin : (r : ℕ) → r ≡ origin s l e → NumbersFit s n × (r < padded s)
    at_origin r q = (ok.numbers_fit, in_list r (below _ _ _ q (ok.origin_in e h)))

    pub at_face : (r : ℕ) → r ≡ face s l e → NumbersFit s n × (r < s.faces)
    at_face r q = (ok.numbers_fit, below _ _ _ q (ok.face_in e h))
