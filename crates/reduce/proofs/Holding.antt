-- Positions that are put and read: how they come to be held, and that what is held of an image makes the image. Assumes nothing.
use Prim.Native.Nat.{ℕ, ◌+◌, ◌<◌, ◌≤◌}
use mathlib.Core.Path.{◌≡◌, ap, sym, ◌∙◌}
use mathlib.Core.List.{List}
use native.Mathlib.Omega.{arith}
use lib.Dec.{eqb}
use lib.ListN.{get_or}
use lib.Seq.{get_or-set_same, get_or-set_other}
use lib.Ieee.{Float, nan}
use borrow.Author.Tests.{eqb-true, eqb-false}
use Rattle.vector.specs.declared.Vec3.{Vec3}
use Rattle.manifold.specs.declared.ClipVertex.{ClipVertex}
use Rattle.manifold.specs.Records.{past_vertex}
use Rattle.clip_corners.specs.Places.{corner_in}
use Rattle.reduce_scores.specs.Images.{image_of}
use Rattle.reduce_scores.proofs.Imaged.{image_in}
use Rattle.reduce.specs.declared.positions.Positions.{Positions}
use Rattle.reduce.specs.declared.held.Images.{Images}
use Rattle.reduce.specs.inner.Held.{position_in, Put, moved, Held, Holds, images_of}
use Rattle.reduce.proofs.Cases.{cases}

-- ---- a position that is put
module _ (h : Positions) (i : ℕ) (p : Vec3) (h' : Positions) (put : Put h i p h') where
  other_position : (j : ℕ) → (j ≡ i → ⊥) → position_in h' j ≡ position_in h j
  other_position j o =
      rw (
        put.x_is,
        put.y_is,
        put.z_is,
        get_or-set_other h.x i j p.x nan o,
        get_or-set_other h.y i j p.y nan o,
        get_or-set_other h.z i j p.z nan o,
      )

  same_position : i < 64 → position_in h' i ≡ p
  same_position l =
      rw (
        put.x_is,
        put.y_is,
        put.z_is,
        get_or-set_same h.x i p.x nan (omega (arith, h.room.0)),
        get_or-set_same h.y i p.y nan (omega (arith, h.room.1)),
        get_or-set_same h.z i p.z nan (omega (arith, h.room.2)),
      )

-- ---- images that are held
module _ (normal : Vec3) (n : List Float) (t : List ℕ) (p : ℕ) where
  pub holds_none : (h : Positions) → Held normal n t p 0 h
  holds_none h = record { held_image = λ i g. absurd (omega arith) }

  -- one more
  pub holds_more : (k : ℕ) (h : Positions) → k < 64 → Held normal n t p k h → (v : ClipVertex) → v ≡ image_of normal (corner_in n t (p + k))
      → (h' : Positions) → Put h k v.position h' → Held normal n t p (k + 1) h'
  holds_more k h low s v e h' put = record {
    held_image = λ i g. cases (eqb i k)
        (λ b. rw (eqb-true i k b) (same_position h k v.position h' put low ∙ ap (λ (w : ClipVertex). w.position) e))
        (λ b. other_position h k v.position h' put i (eqb-false i k b) ∙ s.held_image i (below i k g (eqb-false i k b)));
  }
    where
      below : (i k : ℕ) → i < k + 1 → (i ≡ k → ⊥) → i < k
      below i k g d = omega (arith, d)

  pub holds_all : (i k : ℕ) (h : Positions) → i ≤ k → k ≤ i → Held normal n t p i h → Held normal n t p k h
  holds_all i k h a b s = let e : i ≡ k = omega arith in rw e at s

  -- what is held of an image makes it
  held_is : (k : ℕ) (h : Positions) → Held normal n t p k h → (i : ℕ) → i < k
      → moved (position_in h i) (corner_in n t (p + i)) ≡ image_of normal (corner_in n t (p + i))
  unfolding image_of
  held_is k h s i g = rw (s.held_image i g)

pub held_at : (images : Images) → Holds images → (i : ℕ) → i < images.n
    → moved (position_in images.positions.now i) (corner_in images.corners.now.numbers images.corners.now.tags (images.from + i))
    ≡ get_or (images_of images) i past_vertex
held_at images h i g =
    held_is images.normal images.corners.now.numbers images.corners.now.tags images.from images.n images.positions.now h.held i g
    ∙ sym (image_in images.normal images.corners.now.numbers images.corners.now.tags images.from images.n i past_vertex g)
