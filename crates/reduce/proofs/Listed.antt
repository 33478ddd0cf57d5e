-- The images of a few candidates, written out. Assumes nothing.
use Prim.Native.Nat.{ℕ, zero, suc, ◌+◌}
use mathlib.Core.Path.{◌≡◌, refl, sym, ap, ap₂, ◌∙◌}
use mathlib.Core.List.{List, [], ◌∷◌}
use native.Mathlib.Omega.{arith}
use native.Mathlib.Nat.{add-zero}
use lib.Ieee.{Float}
use Rattle.vector.specs.declared.Vec3.{Vec3}
use Rattle.manifold.specs.declared.ClipVertex.{ClipVertex}
use Rattle.manifold.specs.declared.Point.{Point}
use Rattle.manifold.specs.declared.Contact.{Contact}
use Rattle.clip_corners.specs.Places.{corner_in, corners_in}
use Rattle.reduce_scores.specs.Images.{image_of, images_in}
use Rattle.reduce_points.specs.Points.{placed, contact_of}

module _ (normal : Vec3) (n : List Float) (t : List ℕ) where
  -- the image of the candidate that stands i behind the first
  abbrev pub image : ℕ → ℕ → ClipVertex
  image p i = image_of normal (corner_in n t (p + i))

  -- those of the first k, written out, from the one at i on
  abbrev pub listed : ℕ → ℕ → ℕ → List ClipVertex
  listed p i zero = []
  listed p i (suc k) = image p i ∷ listed p (suc i) k

  images_from : (p i q k : ℕ) → q ≡ p + i → images_in normal n t q k ≡ listed p i k
  unfolding corners_in
  images_from p i q zero e = refl
  images_from p i q (suc k) e =
      let f : q + 1 ≡ p + suc i = omega (arith, e) in
      ap₂ ◌∷◌ (ap (λ (j : ℕ). image_of normal (corner_in n t j)) e) (images_from p (suc i) (q + 1) k f)

  -- the contact of all m, where there are k
  pub all_of : (p m k : ℕ) → m ≡ k → (points : List Point) → points ≡ placed (listed p 0 k) → (r : Contact) → r ≡ contact_of normal points
      → r ≡ contact_of normal (placed (images_in normal n t p m))
  all_of p m k e points q r is = is ∙ rw (q, e, images_from p 0 p k (sym (add-zero p)))
