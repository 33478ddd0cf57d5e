-- The contact of every call is the one that is drawn from its source (specs/Sources.antt), whatever the awaited helpers answer. Assumes nothing.
use Prim.Native.Nat.{ℕ, zero, suc, ◌<◌}
use mathlib.Core.Bool.{Bool, true, false, cond, false≢true}
use mathlib.Core.List.{List, [], ◌∷◌, map}
use mathlib.Core.Path.{◌≡◌, refl, sym, ap, subst, ◌∙◌}
use native.Mathlib.Omega.{arith}
use lib.ListN.{length, get_or, length-map}
use lib.Dec.{eqb, ltb}
use lib.IntN.{ℤ, pos}
use lib.Signed.{lt_z}
use lib.Ieee as Ieee
use lib.Ieee.{Float, binary32, to_bits}
use borrow.Author.Tests.{eqb-true, eqb-false}
use Rattle.vector.specs.declared.Vec3.{Vec3}
use Rattle.vector.specs.declared.Transform.{Transform}
use Rattle.vector.specs.Rounded.{◌⊖◌, float}
use Rattle.vector.specs.Scalar.{abs_of}
use Rattle.vector.specs.Arithmetic.{neg_of}
use Rattle.vector.specs.Awaited.{arbitrary_perp_of}
use Rattle.rotation.specs.Rotation.{matrix_of, mul_mv_of, invert_of}
use Rattle.manifold.specs.declared.ClipVertex.{ClipVertex}
use Rattle.manifold.specs.declared.Point.{Point}
use Rattle.manifold.specs.declared.SatCache.{SatCache}
use Rattle.manifold.specs.declared.Contact.{Contact}
use Rattle.manifold.specs.declared.Answer.{Answer}
use Rattle.units.specs.Limits.{slop, speculative}
use Rattle.units.proofs.Laws.{tolerance_positive}
use Rattle.manifold.specs.Records.{empty_contact}
use Rattle.hull_links.specs.declared.HullSize.{HullSize}
use Rattle.hull_links.proofs.Tests.{cases}
use Rattle.hull.specs.Numbers.{plane_at}
use Rattle.clip.specs.Candidates.{candidates_of}
use Rattle.reduce_scores.specs.Images.{image_of}
use Rattle.reduce_points.specs.Points.{point_of, placed_from, normal_of, contact_of}
use Rattle.reduce.specs.Reduce.{first_picks, points_of, places_of}
use Rattle.reduce.specs.Chosen.{Chosen}
use Rattle.reduce.proofs.Chosen.{chosen}
use Rattle.axis.specs.declared.Axis.{Axis}
use Rattle.std.specs.Prelude.{Option, Some, None}
use Rattle.axis.specs.declared.Search.{Search}
use Rattle.axis.specs.Search.{search_of}
use Rattle.collide_outcome.specs.Builds.{Built, touched_of, missed, refused_at}
use Rattle.collide_outcome.specs.Served.{Cached, near_of, served_of, hit_with, no_hit}
use Rattle.collide_outcome.specs.Answers.{answer_of}
use Rattle.contacts.specs.Faces.{images_on, picks_on, carried_of, contact_on_a, contact_on_b, on_face, face_a_of, face_b_of}
use Rattle.contacts.specs.EdgePairs.{edge_point, nearest_of, along_of, edge_contact_of}
use Rattle.collide_cached.specs.Ridges.{ridge_of, carried_ridge, crosses_of}
use Rattle.collide_cached.specs.Again.{cached_face_a_of, cached_face_b_of, cached_edge_of}
use Rattle.collide_full.specs.Full.{tries_edge, pair_contact, contact_a, contact_b, winner_contact, instead_of, with_edge, found_contact, apart_built}
use Rattle.collide_full.specs.Full.{after_search, full_of}
use Rattle.collide_refusals.specs.Refusals.{refusal_of}
use Rattle.collide.specs.Call.{after_cached, worked_of, collide_of}
use Rattle.contactlib.proofs.Keeps.{keeps_call}
use Rattle.promises.specs.Numbers.{number_of}
use Rattle.promises.specs.Sources.{Reason, Source, small_capacity, refused, apart, not_touching, from_face_a, from_face_b, edges, none, places_on}
use Rattle.promises.specs.Sources.{candidates_from, image_from, images_from, places_from, points_taken, normal_from, contact_from, touches, if_touching}
use Rattle.promises.specs.Sources.{separation_from}
use Rattle.promises.specs.OneCall.{winner_of, tried_over, or_pair, search_source, full_source, serves, cached_source, cached_edges, work_source, source_of}
use Rattle.promises.proofs.Choices.{choice}
use Rattle.promises.proofs.Statuses.{call_status}

-- ---- the points of a face, by the picks that its own frame's images give, of whatever images are as many
chosen_on : (unit : ℕ) (normal : Vec3) (candidates images : List ClipVertex) → length images ≡ length candidates
    → Chosen images (points_of (picks_on unit normal candidates) images) (places_on unit normal candidates)
unfolding images_on picks_on places_on
chosen_on unit normal candidates images e =
    let own = map (image_of normal) candidates in
    let picks = first_picks (speculative unit) (arbitrary_perp_of normal) normal own in
    subst (λ (n : ℕ). Chosen images (points_of picks images) (places_of picks n)) e
    (chosen (speculative unit) (tolerance_positive unit) (arbitrary_perp_of normal) normal own images (e ∙ sym (length-map candidates (image_of normal))))

map_twice : (g h : ClipVertex → ClipVertex) (vs : List ClipVertex) → map g (map h vs) ≡ map (λ v. g (h v)) vs
map_twice g h [] = refl
map_twice g h (v ∷ vs) = ap (λ l. g (h v) ∷ l) (map_twice g h vs)

-- one point of one image
one_chosen : (v : ClipVertex) → Chosen (v ∷ []) (point_of 0 v ∷ []) (0 ∷ [])
unfolding placed_from
one_chosen v =
    record {
      few = omega arith;
      same = refl;
      below = λ i h. at_first i h;
      apart = λ i j h q. absurd (omega (arith, h, q));
      all = λ h. refl;
    }
  where
    at_first : (i : ℕ) → i < 1 → get_or (0 ∷ []) i 0 < 1
    at_first zero h = omega arith
    at_first (suc i) h = absurd (omega (arith, h))

none_chosen : Chosen [] [] []
unfolding placed_from
none_chosen = record {
  few = omega arith;
  same = refl;
  below = λ i h. absurd (omega (arith, h));
  apart = λ i j h q. absurd (omega (arith, h, q));
  all = λ h. refl;
}

module _ (s : HullSize) (n : List Float) (l : List ℕ) (t : HullSize) (m : List Float) (k : List ℕ) (x : Transform) where
  abbrev From : Source → Contact
  From = contact_from s n l t m k x

  abbrev Touch : Source → Bool
  Touch = touches s n l t m k x

  abbrev Full : Source
  Full = full_source s n l t m k x

  -- ---- the points of a source are chosen from its images
  own_a : (f v : ℕ) → let normal = (plane_at s n f).normal in let candidates = candidates_of s n l t m k x f v in
      Chosen (images_from s n l t m k x (from_face_a f v)) (points_of (picks_on s.unit normal candidates) (images_on normal candidates))
      (places_from s n l t m k x (from_face_a f v))
  unfolding images_from image_from candidates_from places_from images_on
  own_a f v =
      let normal = (plane_at s n f).normal in
      let candidates = candidates_of s n l t m k x f v in
      chosen_on s.unit normal candidates (map (image_of normal) candidates) (length-map candidates (image_of normal))

  -- of face B: its own images, carried
  carried_b : (f v : ℕ) → let normal = (plane_at t m f).normal in let candidates = candidates_of t m k s n l (invert_of x) f v in
      Chosen (images_from s n l t m k x (from_face_b f v)) (points_of (picks_on t.unit normal candidates) (map (carried_of x) (images_on normal candidates)))
      (places_from s n l t m k x (from_face_b f v))
  unfolding images_from image_from candidates_from places_from images_on
  carried_b f v =
      let normal = (plane_at t m f).normal in
      let candidates = candidates_of t m k s n l (invert_of x) f v in
      let carried = map (carried_of x) (map (image_of normal) candidates) in
      subst (λ (images : List ClipVertex). Chosen images (points_of (picks_on t.unit normal candidates) carried) (places_on t.unit normal candidates))
      (map_twice (carried_of x) (image_of normal) candidates)
      (chosen_on t.unit normal candidates carried (length-map (map (image_of normal) candidates) (carried_of x) ∙ length-map candidates (image_of normal)))

  abbrev Taken : Source → List Point → Type 0
  Taken source points = Chosen (images_from s n l t m k x source) points (places_from s n l t m k x source)

  pub drawn : (source : Source) → Taken source (points_taken s n l t m k x source)
  unfolding points_taken images_from image_from candidates_from places_from
  drawn (from_face_a f v) = subst (Taken (from_face_a f v)) (own_a f v).same (own_a f v)
  drawn (from_face_b f v) = subst (Taken (from_face_b f v)) (carried_b f v).same (carried_b f v)
  drawn (edges normal a b) = one_chosen (edge_point (nearest_of s n l t m k x a b) normal a b)
  drawn (none why) = none_chosen

  -- ---- the contact of each source
  of_none : (why : Reason) → empty_contact ≡ From (none why)
  unfolding contact_from points_taken places_from normal_from contact_of normal_of
  of_none why = refl

  of_face_a : (f v : ℕ) → contact_on_a s.unit (plane_at s n f).normal (candidates_of s n l t m k x f v) ≡ From (from_face_a f v)
  unfolding contact_on_a contact_from points_taken normal_from
  of_face_a f v = ap (contact_of (plane_at s n f).normal) (own_a f v).same

  of_face_b : (f v : ℕ) → contact_on_b t.unit x (plane_at t m f).normal (candidates_of t m k s n l (invert_of x) f v) ≡ From (from_face_b f v)
  unfolding contact_on_b contact_from points_taken normal_from
  of_face_b f v = ap (contact_of (neg_of (mul_mv_of (matrix_of x.q) (plane_at t m f).normal))) (carried_b f v).same

  of_edges : (normal : Vec3) (a b : ℕ) → contact_of normal (point_of 0 (edge_point (nearest_of s n l t m k x a b) normal a b) ∷ []) ≡ From (edges normal a b)
  unfolding contact_from points_taken images_from image_from candidates_from places_from normal_from
  of_edges normal a b = refl

  -- ---- what is built of a source, where the work meets no refusal
  record Made (built : Built) (source : Source) : Type 0 where
    touching : built.touching ≡ Touch source
    contact : built.contact ≡ From (if_touching s n l t m k x source)
    separation : Touch source ≡ true → float built.cache.separation ≡ separation_from s n l t m k x source

  made_of : (source : Source) (contact : Contact) (separation : Float) (kind a b : ℕ) → contact ≡ From source
      → float (to_bits binary32 separation) ≡ separation_from s n l t m k x source
      → Made (cond (Touch source) (touched_of contact separation kind a b) missed) source
  unfolding touched_of if_touching
  made_of source contact separation kind a b c d =
      cases (Touch source)
      (λ p. rw p (record { touching = sym p; contact = rw p c; separation = λ h. d }))
      (λ p. rw p (record { touching = sym p; contact = rw p (of_none not_touching); separation = λ h. absurd (false≢true (sym p ∙ h)) }))

  -- "6: .. a 65th vertex" and "5: .. a support vertex not below V" are refusals; else the contact is that of its source
  abbrev Makes : Built → Source → Type 0
  Makes built source = built.status ≡ 0 → Made built source

  makes_face : (source : Source) (good full : Bool) (built : Built) → Made built source
      → Makes (cond good (cond full (refused_at 6) built) (refused_at 5)) source
  makes_face source true true built d q = absurd (omega (arith, q))
  makes_face source true false built d q = d
  makes_face source false full built d q = absurd (omega (arith, q))

  makes_a : (f v : ℕ) → Makes (face_a_of s n l t m k x f v) (from_face_a f v)
  unfolding face_a_of on_face touches candidates_from separation_from
  makes_a f v =
      makes_face (from_face_a f v) (ltb v t.vertices) (ltb 64 (length (candidates_of s n l t m k x f v))) _
      (made_of (from_face_a f v) _ _ 2 f v (of_face_a f v) refl)

  makes_b : (f v : ℕ) → Makes (face_b_of s n l t m k x f v) (from_face_b f v)
  unfolding face_b_of on_face touches candidates_from separation_from
  makes_b f v =
      makes_face (from_face_b f v) (ltb v s.vertices) (ltb 64 (length (candidates_of t m k s n l (invert_of x) f v))) _
      (made_of (from_face_b f v) _ _ 3 v f (of_face_b f v) refl)

  made_edges : (normal : Vec3) (a b : ℕ) → Made (edge_contact_of s n l t m k x normal a b) (edges normal a b)
  unfolding edge_contact_of along_of touches separation_from
  made_edges normal a b = made_of (edges normal a b) _ _ 4 a b (of_edges normal a b) refl

  -- ---- the full search
  makes_winner : (a b : Axis) → Makes (winner_contact s n l t m k x a b) (winner_of a b)
  unfolding winner_contact contact_a contact_b winner_of
  makes_winner a b = choice Makes (Ieee.lt b.separation a.separation) _ refl (λ h. makes_a _ _) (λ h. makes_b _ _)

  -- no points stand in the contact exactly where none of the places is taken
  stand : (source : Source) (contact : Contact) → contact ≡ From source → contact.count ≡ length (places_from s n l t m k x source)
  unfolding contact_from points_taken contact_of
  stand source contact e = ap (λ (c : Contact). c.count) e ∙ length-map (places_from s n l t m k x source) _

  tries : (built : Built) (source : Source) (e : Axis) → Made built source
      → tries_edge s.unit built e ≡ tried_over s n l t m k x (if_touching s n l t m k x source) e
  unfolding tries_edge tried_over if_touching places_from
  tries built source e d =
      cases (Touch source)
      (λ p. let c : built.contact ≡ From source = rw p at d.contact in rw (p, sym (stand source _ c), sym (d.separation p)) refl)
      (λ p. let c : built.contact ≡ From (none not_touching) = rw p at d.contact in rw (p, stand (none not_touching) _ c) refl)

  abbrev Draws : Built → Source → Type 0
  Draws built source = built.contact ≡ From source

  draws_with : (built : Built) (source : Source) (edge : Option Axis) → Made built source
      → Draws (with_edge s n l t m k x built edge) (or_pair s n l t m k x (if_touching s n l t m k x source) edge)
  unfolding with_edge instead_of pair_contact or_pair if_touching
  draws_with built source None d = d.contact
  draws_with built source (Some e) d =
      let pair = made_edges e.normal e.index_a e.index_b in
      choice Draws _ _ (tries built source e d)
      (λ h. choice Draws _ _ pair.touching (λ q. rw (sym pair.touching ∙ q) at pair.contact) (λ q. d.contact))
      (λ h. d.contact)

  -- a refusal that the face contact met stays one
  draws_found : (a b : Axis) (edge : Option Axis) → (found_contact s n l t m k x a b edge).status ≡ 0
      → Draws (found_contact s n l t m k x a b edge) (or_pair s n l t m k x (if_touching s n l t m k x (winner_of a b)) edge)
  unfolding found_contact
  draws_found a b edge q =
      let w = winner_contact s n l t m k x a b in
      cases (eqb w.status 0)
      (λ p. rw p (draws_with w _ edge (makes_winner a b (eqb-true _ _ p))))
      (λ p. absurd (eqb-false _ _ p (rw p at q)))

  draws_search : (search : Search) → (after_search s n l t m k x search).status ≡ 0 → Draws (after_search s n l t m k x search)
      (search_source s n l t m k x search)
  unfolding after_search apart_built search_source
  draws_search (Search.Apart a) q = of_none apart
  draws_search (Search.Found f) q = draws_found f.face_a f.face_b f.edge q

  -- ---- the answers: what is drawn where the call is accepted
  abbrev Answers : Answer → Source → Type 0
  Answers answer source = answer.outcome.status ≡ 0 → answer.outcome.contact ≡ From source

  answers_full : (cache : SatCache) → Answers (answer_of cache (full_of s n l t m k x)) Full
  unfolding answer_of full_of full_source
  answers_full cache q =
      let built = after_search s n l t m k x (search_of s n l t m k x) in
      cases (eqb built.status 0)
      (λ p. rw p (draws_search _ (eqb-true _ _ p)))
      (λ p. absurd (eqb-false _ _ p (rw p at q)))

  -- a hit, or the full search
  answers_hit : (cache : SatCache) (contact : Contact) (source : Source) → contact ≡ From source
      → Answers (after_cached s n l t m k x cache (hit_with contact)) source
  unfolding after_cached
  answers_hit cache contact source e q = e

  answers_no_hit : (cache : SatCache) → Answers (after_cached s n l t m k x cache (no_hit 0)) Full
  unfolding after_cached
  answers_no_hit cache = answers_full cache

  answers_refused : (cache : SatCache) (cached : Cached) (source : Source) → eqb cached.status 0 ≡ false
      → Answers (after_cached s n l t m k x cache cached) source
  unfolding after_cached
  answers_refused cache cached source p q = absurd (eqb-false _ _ p (rw p at q))

  -- the two separations differ by less than slop
  near_same : (cache : SatCache) (built : Built) (source : Source) → Made built source → Touch source ≡ true
      → near_of s.unit cache built.cache
      ≡ Ieee.lt (abs_of (float cache.separation ⊖ separation_from s n l t m k x source)) (slop s.unit)
  unfolding near_of
  near_same cache built source d p = ap (λ (z : Float). Ieee.lt (abs_of (float cache.separation ⊖ z)) (slop s.unit)) (d.separation p)

  abbrev After : SatCache → Cached → Source → Type 0
  After cache cached = Answers (after_cached s n l t m k x cache cached)

  after_served : (cache : SatCache) (built : Built) (source : Source) → Makes built source
      → After cache (served_of s.unit cache built) (cond (serves s n l t m k x cache source) source Full)
  unfolding served_of serves if_touching
  after_served cache built source h =
      cases (eqb built.status 0)
      (λ p. let d = h (eqb-true _ _ p) in
      cases (Touch source)
      (λ u. rw (p, d.touching, u)
      (choice (After cache) _ _ (near_same cache built source d u) (λ v. answers_hit cache _ source (rw u at d.contact)) (λ v. answers_no_hit cache)))
      (λ u. rw (p, d.touching, u) (answers_no_hit cache)))
      (λ p. rw p (answers_refused cache (no_hit built.status) _ p))

  -- ---- the cached axis: apart, or what is built of it
  after_axis : (cache : SatCache) (is_apart : Bool) (built : Built) (source : Source) → Makes built source
      → After cache (cond is_apart (hit_with empty_contact) (served_of s.unit cache built)) (cached_source s n l t m k x cache is_apart source)
  unfolding cached_source
  after_axis cache is_apart built source h =
      choice (After cache) is_apart _ refl (λ p. answers_hit cache _ _ (of_none apart)) (λ p. after_served cache built source h)

  after_edges : (cache : SatCache)
      → After cache (cached_edge_of s n l t m k x cache)
      (cached_edges s n l t m k x cache (ridge_of s n l cache.index_a) (carried_ridge x t m k cache.index_b))
  unfolding cached_edge_of cached_edges
  after_edges cache =
      choice (After cache) (crosses_of (ridge_of s n l cache.index_a) (carried_ridge x t m k cache.index_b)) _ refl
      (λ h. after_axis cache _ _ _ (λ z. made_edges _ _ _)) (λ h. answers_no_hit cache)

  -- ---- the call
  answers_worked : (cache : SatCache) → Answers (worked_of s n l t m k x cache) (work_source s n l t m k x cache)
  unfolding worked_of work_source cached_face_a_of cached_face_b_of
  answers_worked cache =
      choice Answers (eqb cache.kind 2) _ refl (λ h. after_axis cache _ _ _ (makes_a _ _))
      (λ h. choice Answers (eqb cache.kind 3) _ refl (λ q. after_axis cache _ _ _ (makes_b _ _))
      (λ q. choice Answers (eqb cache.kind 4) _ refl (λ z. after_edges cache) (λ z. answers_full cache)))

  small_call : (capacity : ℤ) (cache : SatCache) → lt_z capacity (pos 4) ≡ true
      → (collide_of s n l t m k x capacity cache).outcome.contact ≡ From (none small_capacity)
  unfolding collide_of
  small_call capacity cache small = rw small (of_none small_capacity)

  wide_call : (capacity : ℤ) (cache : SatCache) → lt_z capacity (pos 4) ≡ false
      → Answers (collide_of s n l t m k x capacity cache) (work_source s n l t m k x cache)
  unfolding collide_of
  wide_call capacity cache wide = rw wide
      (cases (eqb (refusal_of s n l t m k x cache) 0) (λ p. rw p (answers_worked cache)) (λ p. rw p (λ q. absurd (eqb-false _ _ p q))))

  pub answers_call : (capacity : ℤ) (cache : SatCache)
      → (collide_of s n l t m k x capacity cache).outcome.contact ≡ From (source_of s n l t m k x capacity cache)
  unfolding source_of
  answers_call capacity cache =
      let status = call_status s n l t m k x capacity cache in
      cases (lt_z capacity (pos 4))
      (λ small. rw small (small_call capacity cache small))
      (λ wide. rw wide (cases (eqb (number_of s n l t m k x capacity cache) 0)
      (λ p. rw p (wide_call capacity cache wide (status ∙ eqb-true _ _ p)))
      (λ p. rw p ((keeps_call cache s n l t m k x capacity).empty (λ z. eqb-false _ _ p (sym status ∙ z)) ∙ of_none refused))))
