-- No call answers with more than four points, whatever it is lent. Assumes nothing.
use Prim.Native.Nat.{ℕ, ◌≤◌}
use mathlib.Core.Bool.{Bool, true, false, cond}
use mathlib.Core.List.{List, map}
use mathlib.Core.Path.{◌≡◌, sym, ◌∙◌}
use native.Mathlib.Omega.{arith}
use lib.ListN.{length, length-map}
use lib.Dec.{eqb, ltb}
use lib.IntN.{ℤ, pos}
use lib.Signed.{lt_z}
use lib.Ieee as Ieee
use lib.Ieee.{Float}
use Rattle.vector.specs.declared.Vec3.{Vec3}
use Rattle.vector.specs.declared.Transform.{Transform}
use Rattle.vector.specs.Arithmetic.{dot_of, sub_of}
use Rattle.vector.specs.Awaited.{arbitrary_perp_of, is_within_segments_of}
use Rattle.rotation.specs.Rotation.{invert_of}
use Rattle.units.specs.Limits.{speculative}
use Rattle.units.proofs.Laws.{tolerance_positive}
use Rattle.manifold.specs.declared.ClipVertex.{ClipVertex}
use Rattle.manifold.specs.declared.SatCache.{SatCache}
use Rattle.manifold.specs.declared.Contact.{Contact}
use Rattle.manifold.specs.declared.Answer.{Answer}
use Rattle.hull_links.specs.declared.HullSize.{HullSize}
use Rattle.hull.specs.Numbers.{plane_at}
use Rattle.clip.specs.Candidates.{candidates_of}
use Rattle.reduce_scores.specs.Images.{image_of, least_separation_of, touching_of}
use Rattle.reduce_points.specs.Points.{contact_of}
use Rattle.reduce.specs.Reduce.{points_of}
use Rattle.reduce.proofs.Chosen.{chosen}
use Rattle.std.specs.Prelude.{Option, Some, None}
use Rattle.axis.specs.declared.Search.{Search}
use Rattle.axis.specs.declared.Axis.{Axis}
use Rattle.axis.specs.Search.{search_of}
use Rattle.contacts.specs.Faces.{images_on, picks_on, carried_of, contact_on_a, contact_on_b, on_face, face_a_of, face_b_of}
use Rattle.contacts.specs.EdgePairs.{nearest_of, along_of, edge_contact_of}
use Rattle.collide_outcome.specs.Builds.{Built}
use Rattle.collide_outcome.specs.Served.{Cached}
use Rattle.collide_outcome.specs.Builds.{touched_of}
use Rattle.collide_outcome.specs.Served.{near_of, served_of}
use Rattle.collide_outcome.specs.Answers.{refused_of, answer_of}
use Rattle.collide_refusals.specs.Refusals.{refusal_of}
use Rattle.collide_cached.specs.Ridges.{ridge_of, carried_ridge, crosses_of, axis_between}
use Rattle.collide_cached.specs.Again.{separation_from_a, separation_from_b, cached_face_a_of, cached_face_b_of, cached_edge_of}
use Rattle.collide_full.specs.Full.{tries_edge, pair_contact, contact_a, contact_b, winner_contact, instead_of, with_edge}
use Rattle.collide_full.specs.Full.{found_contact, apart_built, after_search, full_of}
use Rattle.collide.specs.Call.{after_cached, worked_of, collide_of}

either : {S : Type 0} (P : S → Type 0) (b : Bool) {y z : S} → P y → P z → P (cond b y z)
either P true p q = p
either P false p q = q

abbrev Few : Contact → Type 0
Few contact = contact.count ≤ 4

abbrev FewBuilt : Built → Type 0
FewBuilt built = Few built.contact

abbrev FewCached : Cached → Type 0
FewCached cached = Few cached.contact

abbrev FewAnswer : Answer → Type 0
FewAnswer answer = Few answer.outcome.contact

none : 0 ≤ 4
none = omega arith

-- ---- what a face makes: four of its images, or fewer
few_points : (unit : ℕ) (normal : Vec3) (candidates images : List ClipVertex) → length images ≡ length candidates
    → length (points_of (picks_on unit normal candidates) images) ≤ 4
unfolding picks_on images_on
few_points unit normal candidates images e =
    (chosen (speculative unit) (tolerance_positive unit) (arbitrary_perp_of normal) normal (map (image_of normal) candidates) images
    (e ∙ sym (length-map candidates (image_of normal)))).few

few_on_a : (unit : ℕ) (normal : Vec3) (candidates : List ClipVertex) → Few (contact_on_a unit normal candidates)
unfolding contact_on_a contact_of images_on
few_on_a unit normal candidates = few_points unit normal candidates _ (length-map candidates (image_of normal))

few_on_b : (unit : ℕ) (x : Transform) (normal : Vec3) (candidates : List ClipVertex) → Few (contact_on_b unit x normal candidates)
unfolding contact_on_b contact_of images_on
few_on_b unit x normal candidates =
    few_points unit normal candidates _ (length-map (map (image_of normal) candidates) (carried_of x) ∙ length-map candidates (image_of normal))

few_on_face : (unit : ℕ) (contact : Contact) (kind a b : ℕ) (candidates : List ClipVertex) → Few contact
    → FewBuilt (on_face unit contact kind a b candidates)
unfolding on_face touched_of
few_on_face unit contact kind a b candidates h =
    either FewBuilt (ltb 64 (length candidates)) none
    (either FewBuilt (touching_of (speculative unit) (length candidates) (least_separation_of candidates)) h none)

few_served : (unit : ℕ) (cache : SatCache) (built : Built) → FewBuilt built → FewCached (served_of unit cache built)
unfolding served_of
few_served unit cache built h =
    either FewCached (eqb built.status 0)
    (either FewCached built.touching (either FewCached (near_of unit cache built.cache) h none) none) none

few_answer : (cache : SatCache) (built : Built) → FewBuilt built → FewAnswer (answer_of cache built)
unfolding answer_of
few_answer cache built h = either FewAnswer (eqb built.status 0) h none

pub few_refused : (number : ℕ) (cache : SatCache) → FewAnswer (refused_of number cache)
few_refused number cache = none

module _ (s : HullSize) (n : List Float) (l : List ℕ) (t : HullSize) (m : List Float) (k : List ℕ) (x : Transform) where
  few_a : (f v : ℕ) → FewBuilt (face_a_of s n l t m k x f v)
  unfolding face_a_of
  few_a f v =
      either FewBuilt (ltb v t.vertices)
      (few_on_face _ _ 2 f v _ (few_on_a s.unit (plane_at s n f).normal (candidates_of s n l t m k x f v))) none

  few_b : (f v : ℕ) → FewBuilt (face_b_of s n l t m k x f v)
  unfolding face_b_of
  few_b f v =
      either FewBuilt (ltb v s.vertices)
      (few_on_face _ _ 3 v f _ (few_on_b t.unit x (plane_at t m f).normal (candidates_of t m k s n l (invert_of x) f v))) none

  -- ---- a pair of edges: one point
  few_edges : (normal : Vec3) (a b : ℕ) → FewBuilt (edge_contact_of s n l t m k x normal a b)
  unfolding edge_contact_of along_of touched_of contact_of
  few_edges normal a b = either FewBuilt (is_within_segments_of (nearest_of s n l t m k x a b)) (omega arith) none

  -- ---- the full search
  few_winner : (a b : Axis) → FewBuilt (winner_contact s n l t m k x a b)
  unfolding winner_contact contact_a contact_b
  few_winner a b = either FewBuilt (Ieee.lt b.separation a.separation) (few_a _ _) (few_b _ _)

  few_with : (built : Built) (edge : Option Axis) → FewBuilt built → FewBuilt (with_edge s n l t m k x built edge)
  unfolding with_edge instead_of pair_contact
  few_with built None h = h
  few_with built (Some e) h =
      either FewBuilt (tries_edge s.unit built e)
      (either FewBuilt (edge_contact_of s n l t m k x e.normal e.index_a e.index_b).touching
      (few_edges e.normal e.index_a e.index_b) h) h

  few_search : (search : Search) → FewBuilt (after_search s n l t m k x search)
  unfolding after_search apart_built found_contact
  few_search (Search.Apart a) = none
  few_search (Search.Found f) =
      let winner = few_winner f.face_a f.face_b in
      either FewBuilt (eqb (winner_contact s n l t m k x f.face_a f.face_b).status 0) (few_with _ f.edge winner) winner

  few_full : (cache : SatCache) → FewAnswer (answer_of cache (full_of s n l t m k x))
  unfolding full_of
  few_full cache = few_answer cache _ (few_search (search_of s n l t m k x))

  -- ---- the cached axis, and the call
  few_after : (cache : SatCache) (cached : Cached) → FewCached cached → FewAnswer (after_cached s n l t m k x cache cached)
  unfolding after_cached
  few_after cache cached h = either FewAnswer (eqb cached.status 0) (either FewAnswer cached.hit h (few_full cache)) none

  few_cached_a : (cache : SatCache) → FewCached (cached_face_a_of s n l t m k x cache)
  unfolding cached_face_a_of
  few_cached_a cache =
      either FewCached (Ieee.le (speculative s.unit) (separation_from_a s n t m x cache.index_a)) none
      (few_served _ cache _ (few_a _ _))

  few_cached_b : (cache : SatCache) → FewCached (cached_face_b_of s n l t m k x cache)
  unfolding cached_face_b_of
  few_cached_b cache =
      either FewCached (Ieee.le (speculative s.unit) (separation_from_b s n t m x cache.index_b)) none
      (few_served _ cache _ (few_b _ _))

  few_cached_edges : (cache : SatCache) → FewCached (cached_edge_of s n l t m k x cache)
  unfolding cached_edge_of
  few_cached_edges cache =
      let a = ridge_of s n l cache.index_a in
      let b = carried_ridge x t m k cache.index_b in
      either FewCached (crosses_of a b)
      (either FewCached (Ieee.lt (speculative s.unit) (dot_of (axis_between a b) (sub_of a.end b.end))) none
      (few_served _ cache _ (few_edges _ _ _)))
      none

  few_worked : (cache : SatCache) → FewAnswer (worked_of s n l t m k x cache)
  unfolding worked_of
  few_worked cache =
      either FewAnswer (eqb cache.kind 2) (few_after cache _ (few_cached_a cache))
      (either FewAnswer (eqb cache.kind 3) (few_after cache _ (few_cached_b cache))
      (either FewAnswer (eqb cache.kind 4) (few_after cache _ (few_cached_edges cache)) (few_full cache)))

  pub few_call : (capacity : ℤ) (cache : SatCache) → FewAnswer (collide_of s n l t m k x capacity cache)
  unfolding collide_of
  few_call capacity cache =
      either FewAnswer (lt_z capacity (pos 4)) none (either FewAnswer (eqb (refusal_of s n l t m k x cache) 0) (few_worked cache) none)
