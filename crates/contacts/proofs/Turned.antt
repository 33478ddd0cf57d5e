-- A contact carried point by point is the contact of the carried images, and a contact on a face of B is one on a face of A, carried. Assumes nothing.
use Prim.Native.Nat.{ℕ, ◌≤◌}
use mathlib.Core.Path.{◌≡◌, refl, sym, ap, ◌∙◌}
use mathlib.Core.Bool.{Bool, true, false, cond, false≢true}
use mathlib.Core.List.{List, [], ◌∷◌, map}
use native.Mathlib.Omega.{arith}
use lib.ListN.{length}
use lib.Dec.{ltb}
use lib.Ieee.{Float}
use Rattle.vector.specs.declared.Vec3.{Vec3}
use Rattle.vector.specs.declared.Transform.{Transform}
use Rattle.vector.specs.Arithmetic.{neg_of}
use Rattle.vector.specs.Awaited.{arbitrary_perp_of}
use Rattle.rotation.specs.Rotation.{matrix_of, mul_mv_of, invert_of}
use Rattle.manifold.specs.declared.ClipVertex.{ClipVertex}
use Rattle.manifold.specs.declared.Point.{Point}
use Rattle.units.specs.Limits.{speculative}
use Rattle.units.proofs.Laws.{tolerance_positive}
use Rattle.manifold.specs.declared.Contact.{Contact}
use Rattle.hull_links.specs.declared.HullSize.{HullSize}
use Rattle.hull.specs.Numbers.{plane_at}
use Rattle.reduce_scores.specs.Images.{least_separation_of, touching_of}
use Rattle.reduce_points.specs.Points.{point_of, normal_of, contact_of}
use Rattle.reduce.specs.Reduce.{first_picks, points_of}
use Rattle.reduce.proofs.Chosen.{chosen, points_map}
use Rattle.clip.specs.Candidates.{candidates_of}
use Rattle.collide_outcome.specs.Builds.{Built, touched_of, missed, refused_at}
use Rattle.contacts.specs.Faces.{images_on, picks_on, carried_of, contact_on_a, contact_on_b, on_face, face_a_of, face_b_of}
use Rattle.contacts.specs.inner.Carried.{carried_point, carried_if_used, carried_contact}

-- ---- four points or fewer, carried
abbrev carry : Transform → Point → Point
carry x = carried_point (matrix_of x.q) x.p

carried_few : (x : Transform) (normal : Vec3) (l : List Point) → length l ≤ 4
    → carried_contact x (contact_of normal l) ≡ contact_of (neg_of (mul_mv_of (matrix_of x.q) normal)) (map (carry x) l)
unfolding carried_if_used carried_contact normal_of contact_of
carried_few x normal [] h = refl
carried_few x normal (a ∷ []) h = refl
carried_few x normal (a ∷ b ∷ []) h = refl
carried_few x normal (a ∷ b ∷ c ∷ []) h = refl
carried_few x normal (a ∷ b ∷ c ∷ d ∷ []) h = refl
carried_few x normal (a ∷ b ∷ c ∷ d ∷ e ∷ l) h = absurd (omega arith)

-- a point that is carried is the point of the carried image, at the same place
carry_point : (x : Transform) (j : ℕ) (v : ClipVertex) → carry x (point_of j v) ≡ point_of j (carried_of x v)
unfolding carried_point carried_of point_of
carry_point x j v = refl

pub carried_on_b : (unit : ℕ) (x : Transform) (normal : Vec3) (l : List ClipVertex)
    → carried_contact x (contact_on_a unit normal l) ≡ contact_on_b unit x normal l
unfolding picks_on contact_on_a contact_on_b
carried_on_b unit x normal l =
    let far = speculative unit in
    let positive = tolerance_positive unit in
    let direction = arbitrary_perp_of normal in
    let images = images_on normal l in
    carried_few x normal (points_of (first_picks far direction normal images) images) (chosen far positive direction normal images images refl).few
    ∙ ap (contact_of (neg_of (mul_mv_of (matrix_of x.q) normal))) (points_map far positive direction normal images (carried_of x) (carry x) (carry_point x))

-- ---- faces of A and of B: the same three tests
abbrev side : Bool → Bool → Bool → Contact → Float → ℕ → ℕ → ℕ → Built
side p q w contact separation kind a b = cond p (cond q (refused_at 6) (cond w (touched_of contact separation kind a b) missed)) (refused_at 5)

-- what the code makes of a contact on a face of A
abbrev swapped : Transform → ℕ → ℕ → Built → Built
swapped x f v r =
    record {
      status = 0;
      touching = true;
      contact = carried_contact x r.contact;
      cache = record { separation = r.cache.separation; kind = 3; index_a = v; index_b = f; hit = 0 };
    }

module _ (x : Transform) (contact : Contact) (separation : Float) (f v : ℕ) where
  apart_alike : (p q w : Bool) (other : Contact) → (side p q w contact separation 2 f v).touching ≡ false
      → side p q w contact separation 2 f v ≡ side p q w other separation 3 v f
  unfolding touched_of
  apart_alike false q w other h = refl
  apart_alike true true w other h = refl
  apart_alike true false true other h = absurd (false≢true (sym h))
  apart_alike true false false other h = refl

  touching_alike : (p q w : Bool) (other : Contact) → carried_contact x contact ≡ other → (side p q w contact separation 2 f v).touching ≡ true
      → swapped x f v (side p q w contact separation 2 f v) ≡ side p q w other separation 3 v f
  unfolding touched_of
  touching_alike false q w other e h = absurd (false≢true h)
  touching_alike true true w other e h = absurd (false≢true h)
  touching_alike true false true other e h = rw e
  touching_alike true false false other e h = absurd (false≢true h)

module _ (s : HullSize) (n : List Float) (l : List ℕ) (t : HullSize) (m : List Float) (k : List ℕ) (x : Transform) (f v : ℕ)
    (y : Transform) (inverse : y ≡ invert_of x) (r : Built) (found : r ≡ face_a_of t m k s n l y f v) where
  abbrev all : List ClipVertex
  all = candidates_of t m k s n l (invert_of x) f v

  abbrev normal : Vec3
  normal = (plane_at t m f).normal

  is : r ≡ face_a_of t m k s n l (invert_of x) f v
  is = found ∙ ap (λ (z : Transform). face_a_of t m k s n l z f v) inverse

  pub b_apart : r.touching ≡ false → r ≡ face_b_of s n l t m k x f v
  unfolding on_face face_a_of face_b_of
  b_apart h =
      is ∙ apart_alike x (contact_on_a t.unit normal all) (least_separation_of all) f v (ltb v s.vertices) (ltb 64 (length all))
      (touching_of (speculative t.unit) (length all) (least_separation_of all))
      (contact_on_b t.unit x normal all) (ap (λ (z : Built). z.touching) (sym is) ∙ h)

  pub b_touching : r.touching ≡ true → swapped x f v r ≡ face_b_of s n l t m k x f v
  unfolding on_face face_a_of face_b_of
  b_touching h =
      ap (swapped x f v) is
      ∙ touching_alike x (contact_on_a t.unit normal all) (least_separation_of all) f v (ltb v s.vertices) (ltb 64 (length all))
      (touching_of (speculative t.unit) (length all) (least_separation_of all))
      (contact_on_b t.unit x normal all) (carried_on_b t.unit x normal all) (ap (λ (z : Built). z.touching) (sym is) ∙ h)
