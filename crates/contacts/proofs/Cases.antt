-- A contact on a face, by its cases: candidates in, what is built out. Assumes nothing.
use Prim.Native.Nat.{ℕ, ◌≤◌, ◌<◌}
use mathlib.Core.Path.{◌≡◌, sym, ◌∙◌}
use mathlib.Core.Bool.{Bool, true, false}
use mathlib.Core.List.{List, map}
use native.Mathlib.Omega.{arith}
use lib.ListN.{length}
use lib.Ieee.{Float}
use borrow.Author.Tests.{lt-ltb, le-ltb}
use Rattle.vector.specs.declared.Vec3.{Vec3}
use Rattle.vector.specs.declared.Plane.{Plane}
use Rattle.vector.specs.declared.Transform.{Transform}
use Rattle.vector.specs.Awaited.{arbitrary_perp_of}
use Rattle.manifold.specs.declared.ClipVertex.{ClipVertex}
use Rattle.units.specs.Limits.{speculative}
use Rattle.manifold.specs.declared.Contact.{Contact}
use Rattle.hull_links.specs.declared.HullSize.{HullSize}
use Rattle.hull.specs.Numbers.{plane_at}
use Rattle.clip_corners.specs.declared.Kept.{Kept}
use Rattle.clip_corners.specs.Places.{corners_in}
use Rattle.clip_corners.specs.Standing.{Standing}
use Rattle.clip.specs.Candidates.{candidates_of}
use Rattle.reduce_scores.specs.Images.{image_of, least_separation_of, touching_of}
use Rattle.reduce_points.specs.Points.{contact_of}
use Rattle.reduce.specs.Reduce.{first_picks, points_of}
use Rattle.collide_outcome.specs.Builds.{Built, touched_of, missed, refused_at}
use Rattle.contacts.specs.Faces.{images_on, picks_on, contact_on_a, on_face, face_a_of}

-- ---- the three cases of `on_face`
module _ (unit : ℕ) (contact : Contact) (kind a b : ℕ) (l : List ClipVertex) where
  when_full : 64 < length l → on_face unit contact kind a b l ≡ refused_at 6
  unfolding on_face
  when_full h = rw (lt-ltb 64 (length l) h)

  module _ (h : length l ≤ 64) where
    when_touching : touching_of (speculative unit) (length l) (least_separation_of l) ≡ true → on_face unit contact kind a b l ≡ touched_of contact
        (least_separation_of l) kind a b
    unfolding on_face
    when_touching t = rw (le-ltb 64 (length l) h, t)

    when_apart : touching_of (speculative unit) (length l) (least_separation_of l) ≡ false → on_face unit contact kind a b l ≡ missed
    unfolding on_face
    when_apart t = rw (le-ltb 64 (length l) h, t)

-- ---- what the code builds of these candidates, which are so many: nothing, or the contact of the images
module _ (unit : ℕ) (l : List ClipVertex) (k : ℕ) (sized : length l ≡ k) (most : k ≤ 64) (normal : Vec3) (face vertex : ℕ)
    (least : Float) (le : least ≡ least_separation_of l) (far : Float) (is_far : far ≡ speculative unit) (t : Bool) (told : t ≡ touching_of far k least) where
  few : length l ≤ 64
  few = omega (arith, sized)

  same : touching_of (speculative unit) (length l) (least_separation_of l) ≡ t
  same = rw (sized, ← le, ← is_far) (sym told)

  pub builds_none : t ≡ false → missed ≡ on_face unit (contact_on_a unit normal l) 2 face vertex l
  builds_none q = sym (when_apart unit (contact_on_a unit normal l) 2 face vertex l few (same ∙ q))

  pub builds_one : t ≡ true → (contact : Contact)
      → (let images = map (image_of normal) l in
      contact ≡ contact_of normal (points_of (first_picks (speculative unit) (arbitrary_perp_of normal) normal images) images))
      → (r : Built) → r ≡ touched_of contact least 2 face vertex → r ≡ on_face unit (contact_on_a unit normal l) 2 face vertex l
  unfolding images_on picks_on contact_on_a
  builds_one q contact this r is = is ∙ rw (this, le) (sym (when_touching unit (contact_on_a unit normal l) 2 face vertex l few (same ∙ q)))

-- ---- the three cases of `face_a_of`, as the code meets them
module _ (s : HullSize) (n : List Float) (l : List ℕ) (t : HullSize) (m : List Float) (k : List ℕ) (x : Transform) (f v : ℕ) where
  pub past_vertices : t.vertices ≤ v → refused_at 5 ≡ face_a_of s n l t m k x f v
  unfolding face_a_of
  past_vertices h = rw (le-ltb v t.vertices h)

  module _ (h : v < t.vertices) (places : List Float) (tags : List ℕ) (c : Kept) (is : Standing places tags (candidates_of s n l t m k x f v) c) where
    pub cut_full : 64 < c.count → refused_at 6 ≡ face_a_of s n l t m k x f v
    unfolding face_a_of
    cut_full q =
        let all = candidates_of s n l t m k x f v in
        let more : 64 < length all = rw (← is.counted) q in
        rw (lt-ltb v t.vertices h) (sym (when_full s.unit (contact_on_a s.unit (plane_at s n f).normal all) 2 f v all more))

    pub cut_whole : c.count ≤ 64 → (plane : Plane) → plane ≡ plane_at s n f
        → (r : Built) → (let candidates = corners_in places tags c.from c.count in
        r ≡ on_face s.unit (contact_on_a s.unit plane.normal candidates) 2 f v candidates)
        → r ≡ face_a_of s n l t m k x f v
    unfolding face_a_of
    cut_whole q plane e r w =
        let all = candidates_of s n l t m k x f v in
        let few : length all ≤ 64 = rw (← is.counted) q in
        w ∙ rw (lt-ltb v t.vertices h, e, is.corners few)
