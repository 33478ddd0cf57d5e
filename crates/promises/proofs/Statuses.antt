-- The status of each part of the call is the number that specs/Numbers.antt has for it, and so is the call's. Assumes nothing.
use Prim.Native.Nat.{ℕ, ◌<◌}
use mathlib.Core.Bool.{Bool, true, cond}
use mathlib.Core.List.{List}
use mathlib.Core.Path.{◌≡◌, refl, sym, ap, ◌∙◌}
use native.Mathlib.Omega.{arith}
use lib.ListN.{length}
use lib.Dec.{eqb, ltb}
use lib.IntN.{ℤ, pos}
use lib.Signed.{lt_z}
use lib.Ieee as Ieee
use lib.Ieee.{Float}
use borrow.Author.Tests.{eqb-true, lt-ltb}
use Rattle.bounds.proofs.Laws.{picked}
use Rattle.vector.specs.declared.Transform.{Transform}
use Rattle.vector.specs.Arithmetic.{sub_of, dot_of}
use Rattle.vector.specs.Awaited.{is_within_segments_of}
use Rattle.vector.proofs.Farthest.{support_below}
use Rattle.rotation.specs.Rotation.{invert_of}
use Rattle.manifold.specs.declared.ClipVertex.{ClipVertex}
use Rattle.manifold.specs.declared.SatCache.{SatCache}
use Rattle.manifold.specs.declared.Contact.{Contact}
use Rattle.manifold.specs.declared.Answer.{Answer}
use Rattle.units.specs.Limits.{speculative}
use Rattle.hull_links.specs.declared.HullSize.{HullSize}
use Rattle.hull_links.proofs.Tests.{cases}
use Rattle.hull.specs.Numbers.{support_at}
use Rattle.hull.specs.Accepted.{Accepted}
use Rattle.clip.specs.Candidates.{candidates_of}
use Rattle.reduce_scores.specs.Images.{least_separation_of, touching_of}
use Rattle.axis.specs.declared.Axis.{Axis}
use Rattle.std.specs.Prelude.{Option, Some, None}
use Rattle.axis.specs.declared.Search.{Search}
use Rattle.collide_outcome.specs.Builds.{Built, touched_of}
use Rattle.contacts.specs.Faces.{on_face, face_a_of, face_b_of}
use Rattle.contacts.specs.EdgePairs.{nearest_of, along_of, edge_contact_of}
use Rattle.collide_outcome.specs.Served.{Cached, near_of, served_of}
use Rattle.collide_cached.specs.Ridges.{ridge_of, carried_ridge, crosses_of, axis_between}
use Rattle.collide_cached.specs.Again.{deepest_below_a, separation_from_a, cached_face_a_of, deepest_below_b, separation_from_b, cached_face_b_of}
use Rattle.collide_cached.specs.Again.{cached_edge_of}
use Rattle.collide_full.specs.Full.{apart_built, tries_edge, pair_contact, contact_a, contact_b, winner_contact, instead_of, with_edge, found_contact}
use Rattle.collide_full.specs.Full.{after_search, full_of}
use Rattle.collide_refusals.specs.Refusals.{refusal_of}
use Rattle.collide_refusals.proofs.Cases.{unrefused}
use Rattle.collide_outcome.specs.Answers.{answer_of}
use Rattle.collide.specs.Call.{after_cached, worked_of, collide_of}
use Rattle.promises.specs.Numbers.{first_given, cut_meets, face_meets, winner_meets, full_meets, cached_meets, hits, work_meets, number_of}
use Rattle.promises.proofs.Choices.{choice}

-- ---- the status of what is built, of what is cached and of an answer
abbrev OfBuilt : Built → ℕ → Type 0
OfBuilt built number = built.status ≡ number

abbrev OfCached : Cached → ℕ → Type 0
OfCached cached number = cached.status ≡ number

abbrev OfAnswer : Answer → ℕ → Type 0
OfAnswer answer number = answer.outcome.status ≡ number

-- a number that is 0 gives way to one that is 0 too
zero_gives_way : (a b : ℕ) → (a ≡ 0 → b ≡ 0) → cond (eqb a 0) b a ≡ a
zero_gives_way a b h =
    cases (eqb a 0)
    (λ p. ap (λ (z : Bool). cond z b a) p ∙ (h (eqb-true a 0 p) ∙ sym (eqb-true a 0 p)))
    (λ p. ap (λ (z : Bool). cond z b a) p)

abbrev Fine : Built → Type 0
Fine built = built.status ≡ 0

answer_status : (cache : SatCache) (built : Built) → (answer_of cache built).outcome.status ≡ built.status
unfolding answer_of
answer_status cache built =
    choice OfAnswer (eqb built.status 0) _ refl (λ h. refl) (λ h. refl) ∙ zero_gives_way built.status 0 (λ h. refl)

served_status : (unit : ℕ) (cache : SatCache) (built : Built) → (served_of unit cache built).status ≡ built.status
unfolding served_of
served_status unit cache built =
    choice OfCached (eqb built.status 0) _ refl
    (λ h. picked (λ (c : Cached). c.status ≡ 0) built.touching (picked (λ (c : Cached). c.status ≡ 0) (near_of unit cache built.cache) refl refl) refl)
    (λ h. refl)
    ∙ zero_gives_way built.status 0 (λ h. refl)

module _ (s : HullSize) (n : List Float) (l : List ℕ) (t : HullSize) (m : List Float) (k : List ℕ) (x : Transform) where
  -- ---- what each contact meets
  on_status : (unit : ℕ) (contact : Contact) (kind a b : ℕ) (candidates : List ClipVertex)
      → (on_face unit contact kind a b candidates).status ≡ cut_meets candidates
  unfolding on_face touched_of cut_meets
  on_status unit contact kind a b candidates =
      choice OfBuilt (ltb 64 (length candidates)) _ refl (λ h. refl)
      (λ h. picked Fine (touching_of (speculative unit) (length candidates) (least_separation_of candidates)) refl refl)

  status_a : (f v : ℕ) → (face_a_of s n l t m k x f v).status ≡ face_meets t v (candidates_of s n l t m k x f v)
  unfolding face_a_of face_meets
  status_a f v = choice OfBuilt (ltb v t.vertices) _ refl (λ h. on_status s.unit _ 2 f v _) (λ h. refl)

  status_b : (f v : ℕ) → (face_b_of s n l t m k x f v).status ≡ face_meets s v (candidates_of t m k s n l (invert_of x) f v)
  unfolding face_b_of face_meets
  status_b f v = choice OfBuilt (ltb v s.vertices) _ refl (λ h. on_status t.unit _ 3 v f _) (λ h. refl)

  status_pair : (e : Axis) → (pair_contact s n l t m k x e).status ≡ 0
  unfolding pair_contact edge_contact_of along_of touched_of
  status_pair e = picked Fine (is_within_segments_of (nearest_of s n l t m k x e.index_a e.index_b)) refl refl

  -- ---- the full search
  fine_with : (built : Built) (edge : Option Axis) → Fine built → Fine (with_edge s n l t m k x built edge)
  unfolding with_edge instead_of
  fine_with built (Some e) q = picked Fine (tries_edge s.unit built e) (picked Fine (pair_contact s n l t m k x e).touching (status_pair e) q) q
  fine_with built None q = q

  status_found : (a b : Axis) (edge : Option Axis) → (found_contact s n l t m k x a b edge).status ≡ (winner_contact s n l t m k x a b).status
  unfolding found_contact
  status_found a b edge =
      let w = winner_contact s n l t m k x a b in
      choice OfBuilt (eqb w.status 0) _ refl (λ h. refl) (λ h. refl) ∙ zero_gives_way w.status _ (fine_with w edge)

  after_status : (search : Search) → (after_search s n l t m k x search).status ≡ winner_meets s n l t m k x search
  unfolding after_search apart_built winner_meets winner_contact contact_a contact_b
  after_status (Search.Apart a) = refl
  after_status (Search.Found f) =
      status_found f.face_a f.face_b f.edge
      ∙ choice OfBuilt (Ieee.lt f.face_b.separation f.face_a.separation) _ refl (λ h. status_a _ _) (λ h. status_b _ _)

  full_status : (full_of s n l t m k x).status ≡ full_meets s n l t m k x
  unfolding full_of full_meets
  full_status = after_status _

  -- ---- the cached axis: the vertex deepest below a face is below V, so no cached face meets 5
  deepest_a : (f : ℕ) → 0 < t.vertices → ltb (deepest_below_a s n t m x f) t.vertices ≡ true
  unfolding deepest_below_a support_at
  deepest_a f some = lt-ltb _ _ (support_below _ _ _ _ t.vertices some)

  deepest_b : (f : ℕ) → 0 < s.vertices → ltb (deepest_below_b s n t m x f) s.vertices ≡ true
  unfolding deepest_below_b support_at
  deepest_b f some = lt-ltb _ _ (support_below _ _ _ _ s.vertices some)

  cached_a : (cache : SatCache) → 0 < t.vertices → let f = cache.index_a in
      OfCached (cached_face_a_of s n l t m k x cache)
      (cond (Ieee.le (speculative s.unit) (separation_from_a s n t m x f)) 0 (cut_meets (candidates_of s n l t m k x f (deepest_below_a s n t m x f))))
  unfolding cached_face_a_of face_meets
  cached_a cache some =
      choice OfCached (Ieee.le (speculative s.unit) (separation_from_a s n t m x cache.index_a)) _ refl (λ h. refl)
      (λ h. served_status s.unit cache _ ∙ (status_a _ _ ∙ rw (deepest_a cache.index_a some)))

  cached_b : (cache : SatCache) → 0 < s.vertices → let f = cache.index_b in
      OfCached (cached_face_b_of s n l t m k x cache)
      (cond (Ieee.le (speculative s.unit) (separation_from_b s n t m x f)) 0 (cut_meets (candidates_of t m k s n l (invert_of x) f
      (deepest_below_b s n t m x f))))
  unfolding cached_face_b_of face_meets
  cached_b cache some =
      choice OfCached (Ieee.le (speculative s.unit) (separation_from_b s n t m x cache.index_b)) _ refl (λ h. refl)
      (λ h. served_status s.unit cache _ ∙ (status_b _ _ ∙ rw (deepest_b cache.index_b some)))

  cached_edge : (cache : SatCache) → (cached_edge_of s n l t m k x cache).status ≡ 0
  unfolding cached_edge_of edge_contact_of along_of touched_of
  cached_edge cache =
      let a = ridge_of s n l cache.index_a in
      let b = carried_ridge x t m k cache.index_b in
      let none : Cached → Type 0 = λ c. c.status ≡ 0 in
      picked none (crosses_of a b)
      (picked none (Ieee.lt (speculative s.unit) (dot_of (axis_between a b) (sub_of a.end b.end))) refl
      (served_status s.unit cache _ ∙ picked Fine (is_within_segments_of (nearest_of s n l t m k x cache.index_a cache.index_b)) refl refl))
      refl

  after_cached_lem : (cache : SatCache) (cached : Cached) (number : ℕ) → cached.status ≡ number
      → (after_cached s n l t m k x cache cached).outcome.status ≡ first_given number (cond cached.hit 0 (full_meets s n l t m k x))
  unfolding after_cached first_given
  after_cached_lem cache cached number e =
      choice OfAnswer (eqb cached.status 0) _ refl
      (λ h. choice OfAnswer cached.hit _ refl (λ q. refl) (λ q. answer_status cache _ ∙ full_status)) (λ h. refl)
      ∙ ap (λ (z : ℕ). cond (eqb z 0) (cond cached.hit 0 (full_meets s n l t m k x)) z) e

  -- ---- the call
  work_status : (cache : SatCache) → 0 < s.vertices → 0 < t.vertices → (worked_of s n l t m k x cache).outcome.status ≡ work_meets s n l t m k x cache
  unfolding worked_of work_meets cached_meets hits first_given
  work_status cache some_a some_b =
      cases (eqb cache.kind 2) (λ p. rw p (after_cached_lem cache _ _ (cached_a cache some_b)))
      (λ p. cases (eqb cache.kind 3) (λ q. rw (p, q) (after_cached_lem cache _ _ (cached_b cache some_a)))
      (λ q. cases (eqb cache.kind 4) (λ z. rw (p, q, z) (after_cached_lem cache _ 0 (cached_edge cache)))
      (λ z. rw (p, q, z) (answer_status cache _ ∙ full_status))))

  pub call_status : (capacity : ℤ) (cache : SatCache) → (collide_of s n l t m k x capacity cache).outcome.status ≡ number_of s n l t m k x capacity cache
  unfolding collide_of number_of first_given
  call_status capacity cache =
      choice OfAnswer (lt_z capacity (pos 4)) _ refl (λ small. refl)
      (λ wide. choice OfAnswer (eqb (refusal_of s n l t m k x cache) 0) _ refl
      (λ p. let u = unrefused s n l t m k x cache (eqb-true _ _ p) in work_status cache (some_vertex u.0) (some_vertex u.1))
      (λ p. refl))
    where
      some_vertex : {z : HullSize} {f : List Float} {g : List ℕ} → Accepted z f g → 0 < z.vertices
      some_vertex a = omega (arith, a.links_fit.v_low)
