-- The images of the k candidates from corner p on: as many, and the image at i is that of the candidate at i. Assumes nothing.
use Prim.Native.Nat.{ℕ, zero, suc, ◌+◌, ◌<◌}
use mathlib.Core.Path.{◌≡◌, sym, ap, ◌∙◌}
use mathlib.Core.List.{List}
use native.Mathlib.Omega.{arith}
use native.Mathlib.Nat.{add-zero}
use lib.ListN.{length, get_or, length-map}
use lib.Ieee.{Float}
use Rattle.vector.specs.declared.Vec3.{Vec3}
use Rattle.manifold.specs.declared.ClipVertex.{ClipVertex}
use Rattle.clip_corners.specs.Places.{corner_in, corners_in}
use Rattle.clip_corners.proofs.Reading.{length_in}
use Rattle.reduce_scores.specs.Images.{image_of, images_in}

module _ (normal : Vec3) (n : List Float) (t : List ℕ) where
  pub length_images : (p k : ℕ) → length (images_in normal n t p k) ≡ k
  length_images p k = length-map (corners_in n t p k) (image_of normal) ∙ length_in n t p k

  pub image_in : (p k i : ℕ) (d : ClipVertex) → i < k → get_or (images_in normal n t p k) i d ≡ image_of normal (corner_in n t (p + i))
  unfolding corners_in
  image_in p zero i d h = absurd (omega arith)
  image_in p (suc k) zero d h = ap (λ (q : ℕ). image_of normal (corner_in n t q)) (sym (add-zero p))
  image_in p (suc k) (suc i) d h =
      let e : p + 1 + i ≡ p + suc i = omega arith in
      image_in (p + 1) k i d (omega arith) ∙ ap (λ (q : ℕ). image_of normal (corner_in n t q)) e
