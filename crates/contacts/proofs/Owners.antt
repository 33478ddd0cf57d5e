-- Every candidate, and so every image and every point, names shape A or shape B twice in its pair: no flip of one is refused. Assumes nothing.
use Prim.Native.Nat.{ℕ, zero, suc, ◌≤◌, ◌<◌}
use mathlib.Core.Path.{◌≡◌, refl, ap, ◌∙◌}
use mathlib.Core.List.{List, [], ◌∷◌, ◌++◌, map}
use native.Mathlib.Nat.{not-suc-le-zero}
use native.Mathlib.Omega.{arith}
use lib.ListN.{length, take, get_or, length-map}
use lib.Ieee.{Float}
use borrow.Author.Tests.{le-ltb}
use Rattle.bounds.proofs.Laws.{picked}
use Rattle.vector.specs.declared.Vec3.{Vec3}
use Rattle.vector.specs.declared.Plane.{Plane}
use Rattle.vector.specs.declared.Transform.{Transform}
use Rattle.vector.specs.Shape.{plane_separation_of}
use Rattle.vector.specs.Awaited.{arbitrary_perp_of}
use Rattle.rotation.specs.Rotation.{matrix_of, inv_rotate_of}
use Rattle.manifold.specs.declared.FeaturePair.{FeaturePair}
use Rattle.units.specs.Limits.{speculative}
use Rattle.units.proofs.Laws.{tolerance_positive}
use Rattle.manifold.specs.declared.ClipVertex.{ClipVertex}
use Rattle.manifold.specs.declared.Point.{Point}
use Rattle.manifold.specs.Records.{zero_vertex, past_vertex, past_point}
use Rattle.manifold.specs.Pairs.{owner_of, pair_of, flip_of}
use Rattle.hull_links.specs.declared.HullSize.{HullSize}
use Rattle.hull_links.specs.Links.{face_ring}
use Rattle.hull.specs.Numbers.{plane_at}
use Rattle.reduce_scores.specs.Images.{image_of}
use Rattle.reduce_points.specs.Points.{point_of}
use Rattle.reduce.specs.Reduce.{points_of, places_of}
use Rattle.reduce.proofs.Chosen.{chosen, at_map}
use Rattle.clip_cut.specs.Cut.{kept, beyond, leaving_of, entering_of, put_out_of, cut_from, last_of, cut_of}
use Rattle.clip_incident.specs.Incident.{incident_face_of}
use Rattle.clip.specs.Candidates.{tagged_of, corner_of, built_of, cut_on, goes_on, cut_round, candidates_of}
use Rattle.contacts.specs.Faces.{images_on, picks_on}

-- ---- pairs whose owners are 0 or 1
pub record Owned (p : FeaturePair) : Type 0 where
  pub first : p.owner1 ≤ 1
  pub second : p.owner2 ≤ 1

pub flips : (p : FeaturePair) → Owned p → (flip_of p).status ≡ 0
unfolding flip_of
flips p o = rw (le-ltb 1 p.owner1 o.first, le-ltb 1 p.owner2 o.second) refl

-- of each of a list
abbrev AllOwned : List ClipVertex → Type 0
AllOwned [] = Unit {0}
AllOwned (v ∷ vs) = Owned v.pair × AllOwned vs

owned_at : (l : List ClipVertex) (d : ClipVertex) (i : ℕ) → AllOwned l → i < length l → Owned (get_or l i d).pair
owned_at [] d i all h = absurd (not-suc-le-zero h)
owned_at (v ∷ vs) d zero all h = all.0
owned_at (v ∷ vs) d (suc i) all h = owned_at vs d i all.1 (omega arith)

both_owned : (l m : List ClipVertex) → AllOwned l → AllOwned m → AllOwned (l ++ m)
both_owned [] m p q = q
both_owned (v ∷ vs) m p q = (p.0, both_owned vs m p.1 q)

-- ---- a cut keeps corners, and makes ones with an owner 0 and an owner of an old corner
put_owned : (edge : ℕ) (reference : Plane) (v1 : ClipVertex) (d1 : Float) (v2 : ClipVertex) (d2 : Float) → Owned v1.pair → Owned v2.pair
    → AllOwned (put_out_of edge reference v1 d1 v2 d2)
unfolding leaving_of entering_of put_out_of
put_owned edge reference v1 d1 v2 d2 p q =
    picked AllOwned (kept d1)
    (picked AllOwned (kept d2) (q, tt) (picked AllOwned (beyond d2) (record { first = q.first; second = omega arith }, tt) tt))
    (picked AllOwned (beyond d1) (picked AllOwned (kept d2) (record { first = omega arith; second = p.second }, (q, tt)) tt) tt)

from_owned : (plane : Plane) (edge : ℕ) (reference : Plane) (v1 : ClipVertex) (l : List ClipVertex) → Owned v1.pair → AllOwned l
    → AllOwned (cut_from plane edge reference v1 l)
unfolding cut_from
from_owned plane edge reference v1 [] p all = tt
from_owned plane edge reference v1 (v2 ∷ vs) p all =
    both_owned (put_out_of edge reference v1 (plane_separation_of plane v1.position) v2 (plane_separation_of plane v2.position))
    (cut_from plane edge reference v2 vs)
    (put_owned edge reference v1 (plane_separation_of plane v1.position) v2 (plane_separation_of plane v2.position) p all.0)
    (from_owned plane edge reference v2 vs all.0 all.1)

last_owned : (v : ClipVertex) (l : List ClipVertex) → Owned v.pair → AllOwned l → Owned (last_of v l).pair
unfolding last_of
last_owned v [] p all = p
last_owned v (w ∷ vs) p all = last_owned w vs all.0 all.1

cut_owned : (plane : Plane) (edge : ℕ) (reference : Plane) (l : List ClipVertex) → AllOwned l → AllOwned (cut_of plane edge reference l)
unfolding cut_of
cut_owned plane edge reference l all =
    from_owned plane edge reference (last_of zero_vertex l) l (last_owned zero_vertex l (record { first = omega arith; second = omega arith }) all) all

-- ---- all cuts, of a face whose corners name B
module _ (s : HullSize) (n : List Float) (l : List ℕ) where
  round_owned : (f : ℕ) (es : List ℕ) (vs : List ClipVertex) → AllOwned vs → AllOwned (cut_round s n l f es vs)
  unfolding cut_round cut_on
  round_owned f [] vs all = all
  round_owned f (e ∷ es) vs all =
      let this = cut_owned _ e (plane_at s n f) vs all in
      picked AllOwned (goes_on (cut_on s n l f e vs)) (round_owned f es (cut_on s n l f e vs) this) this

  built_owned : (x : Transform) (reference : Plane) (f : ℕ) → AllOwned (built_of s n l x reference f)
  unfolding owner_of pair_of tagged_of corner_of built_of
  built_owned x reference f = corners (take 64 (face_ring s l f))
    where
      corners : (es : List ℕ) → AllOwned (map (corner_of s n l (matrix_of x.q) x.p reference) es)
      corners [] = tt
      corners (e ∷ es) = (record { first = omega arith; second = omega arith }, corners es)

module _ (s : HullSize) (n : List Float) (l : List ℕ) (t : HullSize) (m : List Float) (k : List ℕ) (x : Transform) (f v : ℕ) where
  abbrev all : List ClipVertex
  all = candidates_of s n l t m k x f v

  owned : AllOwned all
  unfolding candidates_of
  owned =
      let reference = plane_at s n f in
      round_owned s n l f (face_ring s l f) (built_of t m k x reference (incident_face_of t m k (inv_rotate_of x.q reference.normal) v))
      (built_owned t m k x reference (incident_face_of t m k (inv_rotate_of x.q reference.normal) v))

  -- no candidate's pair is refused
  pub candidates_flip : (i : ℕ) → i < length (candidates_of s n l t m k x f v) → (flip_of (get_or (candidates_of s n l t m k x f v) i past_vertex).pair).status
      ≡ 0
  candidates_flip i h = flips (get_or all i past_vertex).pair (owned_at all past_vertex i owned h)

  module _ (normal : Vec3) where
    abbrev images : List ClipVertex
    images = map (image_of normal) all

    images_owned : AllOwned images
    unfolding image_of
    images_owned = each all owned
      where
        each : (vs : List ClipVertex) → AllOwned vs → AllOwned (map (image_of normal) vs)
        each [] a = tt
        each (v ∷ vs) a = (a.0, each vs a.1)

    -- nor an image's
    pub images_flip : (i : ℕ) → i < length images → (flip_of (get_or (map (image_of normal) (candidates_of s n l t m k x f v)) i past_vertex).pair).status ≡ 0
    images_flip i h = flips (get_or images i past_vertex).pair (owned_at images past_vertex i images_owned h)

    -- nor that of a point, which is an image
    abbrev points : List Point
    points = points_of (picks_on s.unit normal all) images

    pub points_flip : (i : ℕ) → i < length (points_of (picks_on s.unit normal all) images)
        → (flip_of (get_or (points_of (picks_on s.unit normal (candidates_of s n l t m k x f v)) images) i past_point).pair).status ≡ 0
    unfolding picks_on images_on point_of
    points_flip i h =
        let c = chosen (speculative s.unit) (tolerance_positive s.unit) (arbitrary_perp_of normal) normal images images refl in
        let places = places_of (picks_on s.unit normal all) (length images) in
        let at : ℕ → Point = λ j. point_of j (get_or images j past_vertex) in
        let long : length points ≡ length places = ap length c.same ∙ length-map places at in
        let low : i < length places = omega (arith, long, h) in
        let is : get_or points i past_point ≡ at (get_or places i 0) =
        ap (λ (ps : List Point). get_or ps i past_point) c.same ∙ at_map at 0 past_point places i low in
        rw is (flips (get_or images (get_or places i 0) past_vertex).pair (owned_at images past_vertex (get_or places i 0) images_owned (c.below i low)))
