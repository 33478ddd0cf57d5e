-- The contact on a face: "A candidate's image is its position less half its separation along the reference normal, with its separation and pair; for
-- face B it is then carried into A's frame and its pair flipped." Each point says the place of its candidate: "the face contacts hand it up" (document
-- 02, d). Definitions only; the candidates are in the specs of `clip`, images and picks in those of `reduce_scores` and `reduce`.
use Rattle.std.specs.Prelude.{ℕ, cond, List, map, length, ltb, Float}
use Rattle.vector.specs.declared.Vec3.{Vec3}
use Rattle.vector.specs.declared.Transform.{Transform}
use Rattle.vector.specs.Arithmetic.{add_of, neg_of}
use Rattle.vector.specs.Awaited.{arbitrary_perp_of}
use Rattle.rotation.specs.Rotation.{matrix_of, mul_mv_of, invert_of}
use Rattle.units.specs.Limits.{speculative}
use Rattle.manifold.specs.declared.ClipVertex.{ClipVertex}
use Rattle.manifold.specs.declared.Contact.{Contact}
use Rattle.manifold.specs.Pairs.{flip_of}
use Rattle.hull_links.specs.declared.HullSize.{HullSize}
use Rattle.hull.specs.Numbers.{plane_at}
use Rattle.reduce_scores.specs.Images.{image_of, least_separation_of, touching_of}
use Rattle.reduce_points.specs.Points.{contact_of}
use Rattle.reduce.specs.Reduce.{first_picks, points_of}
use Rattle.clip.specs.Candidates.{candidates_of}
use Rattle.collide_outcome.specs.Builds.{Built, touched_of, missed, refused_at}

-- ---- images and picks, in the frame of a face with this normal, of hulls of this unit
unfoldable pub images_on : Vec3 → List ClipVertex → List ClipVertex
images_on normal candidates = map (image_of normal) candidates

-- by the scores of the images there
unfoldable pub picks_on : ℕ → Vec3 → List ClipVertex → List ℕ
picks_on unit normal candidates = first_picks (speculative unit) (arbitrary_perp_of normal) normal (images_on normal candidates)

-- an image of B's frame carried into A's, and its pair flipped
unfoldable pub carried_of : Transform → ClipVertex → ClipVertex
carried_of x v = record { position = add_of (mul_mv_of (matrix_of x.q) v.position) x.p; separation = v.separation; pair = (flip_of v.pair).pair }

-- ---- contacts
-- on a face of A with this normal
unfoldable pub contact_on_a : ℕ → Vec3 → List ClipVertex → Contact
contact_on_a unit normal candidates = contact_of normal (points_of (picks_on unit normal candidates) (images_on normal candidates))

-- on a face of B: the picks are made in B's frame; the normal is turned, so that it points from A to B
unfoldable pub contact_on_b : ℕ → Transform → Vec3 → List ClipVertex → Contact
contact_on_b unit x normal candidates =
    contact_of (neg_of (mul_mv_of (matrix_of x.q) normal)) (points_of (picks_on unit normal candidates) (map (carried_of x) (images_on normal candidates)))

-- "6: a cut would put out a 65th vertex"; "Fewer than 3 left, or least separation at or above speculative: not touching, cache cleared"; else this
-- contact, and an axis of this type with the least separation and these numbers
unfoldable pub on_face : ℕ → Contact → ℕ → ℕ → ℕ → List ClipVertex → Built
on_face unit contact kind a b candidates =
    cond (ltb 64 (length candidates)) (refused_at 6)
    (cond (touching_of (speculative unit) (length candidates) (least_separation_of candidates)) (touched_of contact (least_separation_of candidates) kind a b)
    missed)

-- face f of A, and vertex v of B: hull A is (s, n, l), hull B is (t, m, k), and x places B in A's frame. "5: .. a support vertex not below V (a
-- padding lane won)"
unfoldable pub face_a_of : HullSize → List Float → List ℕ → HullSize → List Float → List ℕ → Transform → ℕ → ℕ → Built
face_a_of s n l t m k x f v =
    let candidates = candidates_of s n l t m k x f v in
    cond (ltb v t.vertices) (on_face s.unit (contact_on_a s.unit (plane_at s n f).normal candidates) 2 f v candidates) (refused_at 5)

-- face f of B, and vertex v of A: the roles swapped
unfoldable pub face_b_of : HullSize → List Float → List ℕ → HullSize → List Float → List ℕ → Transform → ℕ → ℕ → Built
face_b_of s n l t m k x f v =
    let candidates = candidates_of t m k s n l (invert_of x) f v in
    cond (ltb v s.vertices) (on_face t.unit (contact_on_b t.unit x (plane_at t m f).normal candidates) 3 v f candidates) (refused_at 5)
