-- The contact of a pair of half-edges, of the ends that the code reads: each call's answer in place of its definition. Assumes nothing.
use Prim.Native.Nat.{ℕ}
use mathlib.Core.Path.{◌≡◌, ap, ap₂, ◌∙◌}
use mathlib.Core.List.{List}
use lib.Ieee.{Float}
use Rattle.vector.specs.declared.Vec3.{Vec3}
use Rattle.vector.specs.declared.Transform.{Transform}
use Rattle.vector.specs.declared.awaited.LineDistance.{LineDistance}
use Rattle.vector.specs.Arithmetic.{sub_of}
use Rattle.vector.specs.Awaited.{line_distance_of}
use Rattle.rotation.specs.Rotation.{transform_point_of}
use Rattle.hull_links.specs.declared.HullSize.{HullSize}
use Rattle.hull_links.specs.Links.{twin, origin}
use Rattle.hull.specs.Numbers.{vertex_at}
use Rattle.collide_outcome.specs.Builds.{Built}
use Rattle.contacts.specs.EdgePairs.{nearest_of, along_of, edge_contact_of}

-- the vertex that a half-edge starts at, and the one that it ends at
module _ (s : HullSize) (n : List Float) (l : List ℕ) (e : ℕ) where
  pub near_end : (o : ℕ) (v : Vec3) → o ≡ origin s l e → v ≡ vertex_at s n o → v ≡ vertex_at s n (origin s l e)
  near_end o v p q = q ∙ ap (vertex_at s n) p

  pub far_end : (w o : ℕ) (v : Vec3) → w ≡ twin s l e → o ≡ origin s l w → v ≡ vertex_at s n o → v ≡ vertex_at s n (origin s l (twin s l e))
  far_end w o v g p q = q ∙ ap (vertex_at s n) (p ∙ ap (origin s l) g)

module _ (s : HullSize) (n : List Float) (l : List ℕ) (t : HullSize) (m : List Float) (k : List ℕ) (x : Transform) (normal : Vec3) (a b : ℕ) where
  pub of_ends : (p_a q_a v_b w_b p_b q_b d_a d_b : Vec3) (near : LineDistance) (r : Built) → p_a ≡ vertex_at s n (origin s l a)
      → q_a ≡ vertex_at s n (origin s l (twin s l a))
      → v_b ≡ vertex_at t m (origin t k b)
      → w_b ≡ vertex_at t m (origin t k (twin t k b))
      → p_b ≡ transform_point_of x v_b
      → q_b ≡ transform_point_of x w_b
      → d_a ≡ sub_of q_a p_a
      → d_b ≡ sub_of q_b p_b
      → near ≡ line_distance_of p_a d_a p_b d_b
      → r ≡ along_of near normal a b
      → r ≡ edge_contact_of s n l t m k x normal a b
  unfolding nearest_of edge_contact_of
  of_ends p_a q_a v_b w_b p_b q_b d_a d_b near r e_pa e_qa e_vb e_wb e_pb e_qb e_a e_b e_n e_r =
      let p_a' = vertex_at s n (origin s l a) in
      let q_a' = vertex_at s n (origin s l (twin s l a)) in
      e_r
      ∙ ap (λ (d : LineDistance). along_of d normal a b)
      (e_n
      ∙ ap₂ (λ (u v : Vec3). line_distance_of p_a u p_b v) e_a e_b
      ∙ ap₂ (λ (p q : Vec3). line_distance_of p (sub_of q p) p_b (sub_of q_b p_b)) e_pa e_qa
      ∙ ap₂ (λ (p q : Vec3). line_distance_of p_a' (sub_of q_a' p_a') p (sub_of q p)) (e_pb ∙ ap (transform_point_of x) e_vb)
      (e_qb ∙ ap (transform_point_of x) e_wb))
