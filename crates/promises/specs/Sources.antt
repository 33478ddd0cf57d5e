-- What the points of a contact are drawn from: a face with the vertex of the other hull below it, or a pair of edges; and what comes of it: its
-- candidates, their images, those that become points. Definitions only; specs/OneCall.antt says which source a call has.
use Rattle.std.specs.Prelude.{ℕ, Bool, false, cond, List, [], ◌∷◌, map, ◌≡◌, length, get_or, Float}
use Rattle.std.specs.Float.{binary32}
use Rattle.std.specs.Float.Ieee.{to_bits}
use Rattle.vector.specs.declared.Vec3.{Vec3}
use Rattle.vector.specs.declared.Transform.{Transform}
use Rattle.vector.specs.Rounded.{float}
use Rattle.vector.specs.Arithmetic.{zero_vec, neg_of}
use Rattle.vector.specs.Awaited.{arbitrary_perp_of, is_within_segments_of}
use Rattle.rotation.specs.Rotation.{matrix_of, mul_mv_of, invert_of}
use Rattle.units.specs.Limits.{speculative}
use Rattle.manifold.specs.declared.ClipVertex.{ClipVertex}
use Rattle.manifold.specs.declared.Point.{Point}
use Rattle.manifold.specs.declared.Contact.{Contact}
use Rattle.manifold.specs.Records.{past_vertex}
use Rattle.hull_links.specs.declared.HullSize.{HullSize}
use Rattle.hull.specs.Numbers.{plane_at}
use Rattle.clip.specs.Candidates.{candidates_of}
use Rattle.reduce_scores.specs.Images.{image_of, least_separation_of, touching_of}
use Rattle.reduce_points.specs.Points.{point_of, contact_of}
use Rattle.reduce.specs.Reduce.{first_picks, places_of}
use Rattle.contacts.specs.Faces.{carried_of}
use Rattle.contacts.specs.EdgePairs.{edge_point, nearest_of}

-- why a call has no candidates
pub data Reason : Type 0 where
  small_capacity : Reason
  refused : Reason
  apart : Reason
  not_touching : Reason

pub data Source : Type 0 where
  -- face f of A and vertex v of B; face f of B and vertex v of A
  from_face_a : (f v : ℕ) → Source
  from_face_b : (f v : ℕ) → Source
  -- half-edges a of A and b of B, along this normal
  edges : (normal : Vec3) (a b : ℕ) → Source
  none : Reason → Source

-- no candidates, and why
pub record NoCandidates (source : Source) : Type 0 where
  pub why : Reason
  pub is : source ≡ none why

-- the places of the candidates that become points: all of four or fewer, else the picks by the scores, made in the face's own frame
unfoldable pub places_on : ℕ → Vec3 → List ClipVertex → List ℕ
places_on unit normal candidates =
    places_of (first_picks (speculative unit) (arbitrary_perp_of normal) normal (map (image_of normal) candidates)) (length candidates)

-- "Fewer than 3 left, or least separation at or above speculative: not touching"
abbrev touch_on : ℕ → List ClipVertex → Bool
touch_on unit candidates = touching_of (speculative unit) (length candidates) (least_separation_of candidates)

-- a separation as it goes into the cache, by its bits
abbrev stored : Float → Float
stored separation = float (to_bits binary32 separation)

-- hull A is (s, n, l), hull B is (t, m, k), and x places B in A's frame. The limits of a face go by its own hull's unit, which both hulls share
module _ (s : HullSize) (n : List Float) (l : List ℕ) (t : HullSize) (m : List Float) (k : List ℕ) (x : Transform) where
  -- ---- what comes of a source
  -- "What the last cut leaves are the candidates"; "the edge pair's one point is its own candidate and image"
  unfoldable pub candidates_from : Source → List ClipVertex
  candidates_from (from_face_a f v) = candidates_of s n l t m k x f v
  candidates_from (from_face_b f v) = candidates_of t m k s n l (invert_of x) f v
  candidates_from (edges normal a b) = edge_point (nearest_of s n l t m k x a b) normal a b ∷ []
  candidates_from (none why) = []

  -- "its position less half its separation along the reference normal, with its separation and pair; for face B it is then carried into A's frame and
  -- its pair flipped"
  unfoldable pub image_from : Source → ClipVertex → ClipVertex
  image_from (from_face_a f v) = image_of (plane_at s n f).normal
  image_from (from_face_b f v) = λ c. carried_of x (image_of (plane_at t m f).normal c)
  image_from (edges normal a b) = λ c. c
  image_from (none why) = λ c. c

  unfoldable pub images_from : Source → List ClipVertex
  images_from source = map (image_from source) (candidates_from source)

  -- which candidates become points, by their places in that list
  unfoldable pub places_from : Source → List ℕ
  places_from (from_face_a f v) = places_on s.unit (plane_at s n f).normal (candidates_from (from_face_a f v))
  places_from (from_face_b f v) = places_on t.unit (plane_at t m f).normal (candidates_from (from_face_b f v))
  places_from (edges normal a b) = 0 ∷ []
  places_from (none why) = []

  -- "each point is the image of the candidate at its number" (document 02, d)
  unfoldable pub points_taken : Source → List Point
  points_taken source = map (λ (j : ℕ). point_of j (get_or (images_from source) j past_vertex)) (places_from source)

  unfoldable pub normal_from : Source → Vec3
  normal_from (from_face_a f v) = (plane_at s n f).normal
  normal_from (from_face_b f v) = neg_of (mul_mv_of (matrix_of x.q) (plane_at t m f).normal)
  normal_from (edges normal a b) = normal
  normal_from (none why) = zero_vec

  unfoldable pub contact_from : Source → Contact
  contact_from source = contact_of (normal_from source) (points_taken source)

  -- ---- which sources touch, and how far apart they are; edges touch where the nearest points of their lines lie on both
  unfoldable pub touches : Source → Bool
  touches (from_face_a f v) = touch_on s.unit (candidates_from (from_face_a f v))
  touches (from_face_b f v) = touch_on t.unit (candidates_from (from_face_b f v))
  touches (edges normal a b) = is_within_segments_of (nearest_of s n l t m k x a b)
  touches (none why) = false

  unfoldable pub if_touching : Source → Source
  if_touching source = cond (touches source) source (none not_touching)

  unfoldable pub separation_from : Source → Float
  separation_from (from_face_a f v) = stored (least_separation_of (candidates_from (from_face_a f v)))
  separation_from (from_face_b f v) = stored (least_separation_of (candidates_from (from_face_b f v)))
  separation_from (edges normal a b) = stored (edge_point (nearest_of s n l t m k x a b) normal a b).separation
  separation_from (none why) = float 0
