-- Demand 3, the points. "At most four points come back, each the image of a candidate, none used twice; four candidates or fewer: all, in order." Of the
-- candidates of this very call (specs/OneCall.antt `source_of`), whatever is lent, and whatever the awaited helpers answer. "Demand 3 is then stated with
-- these numbers: they differ, and each point is the image of the candidate at its number" (document 02, d): the numbers are those that the caller sees,
-- the field `place` of the points that came back. Assumes nothing.
use Prim.Native.Nat.{ℕ, ◌+◌, ◌-◌, ◌≤◌, ◌<◌}
use mathlib.Core.Bool.{true}
use mathlib.Core.List.{List, ◌++◌}
use mathlib.Core.Path.{◌≡◌, refl, sym, ap, subst, ◌∙◌}
use native.Mathlib.Omega.{arith}
use lib.ListN.{length, get_or, replicate, length-map, get_or-append, get_or-replicate}
use lib.Seq.{get_or-append-add}
use lib.IntN.{ℤ, pos}
use lib.Signed.{lt_z}
use lib.Ieee.{Float}
use Rattle.vector.specs.declared.Transform.{Transform}
use Rattle.vector.specs.declared.Vec3.{Vec3}
use Rattle.manifold.specs.declared.ClipVertex.{ClipVertex}
use Rattle.manifold.specs.declared.Point.{Point}
use Rattle.manifold.specs.declared.SatCache.{SatCache}
use Rattle.manifold.specs.declared.Contact.{Contact}
use Rattle.manifold.specs.declared.Outcome.{Outcome}
use Rattle.manifold.specs.Records.{unused_point, past_vertex, past_point}
use borrow.Author.Tests.{ne_eqb}
use Rattle.hull_links.specs.declared.HullSize.{HullSize}
use Rattle.hull_links.proofs.Tests.{cases}
use Rattle.reduce_points.specs.Points.{point_of, placed, contact_of}
use Rattle.reduce_points.proofs.Placed.{length_placed, at_placed}
use Rattle.reduce.proofs.Chosen.{at_map}
use Rattle.collide.specs.Call.{collide_of}
use Rattle.contactlib.specs.Lent.{Called}
use Rattle.promises.specs.Numbers.{Exactly}
use Rattle.promises.specs.Sources.{Source, NoCandidates, candidates_from, image_from, images_from, places_from, points_taken, normal_from, contact_from}
use Rattle.promises.specs.Sources.{small_capacity, refused, edges, none}
use Rattle.promises.specs.OneCall.{source_of}
use Rattle.promises.proofs.Draws.{drawn, answers_call}
use Rattle.promises.proofs.Empty.{told_call}
use Rattle.promises.proofs.Refusals as Refusals

-- hull A is (s, n, l), hull B is (t, m, k), and x places B in A's frame; was is the lent cache at entry, is at exit
module _ (s : HullSize) (n : List Float) (l : List ℕ) (t : HullSize) (m : List Float) (k : List ℕ) (x : Transform) (capacity : ℤ)
    (was : SatCache) (r : Outcome) (is : SatCache)
    (called : Called (collide_of s n l t m k x capacity was) was r is) where
  -- ---- of this call: where its candidates come from, these in their order, their images, and the places of those that become points
  abbrev source : Source
  source = source_of s n l t m k x capacity was

  abbrev candidates : List ClipVertex
  candidates = candidates_from s n l t m k x source

  abbrev images : List ClipVertex
  images = images_from s n l t m k x source

  abbrev places : List ℕ
  places = places_from s n l t m k x source

  abbrev points : List Point
  points = points_taken s n l t m k x source

  -- ---- of the answer: point i as it came back, and the place that the caller sees in it
  abbrev point : ℕ → Point
  point i = get_or r.contact.points i past_point

  abbrev place : ℕ → ℕ
  place i = (point i).place

  -- an image for each candidate
  as_many : length images ≡ length candidates
  unfolding images_from
  as_many = length-map candidates (image_from s n l t m k x source)

  -- ---- the contact holds the images at those places, along the source's normal, and nothing else
  pub holds_points : r.contact ≡ contact_from s n l t m k x source
  holds_points = ap (λ (o : Outcome). o.contact) called.answers ∙ answers_call s n l t m k x capacity was

  pub one_place_each : r.contact.count ≡ length places
  unfolding contact_from contact_of points_taken
  one_place_each = ap (λ (c : Contact). c.count) holds_points ∙ length-map places _

  -- at most four points come back
  pub at_most_four : r.contact.count ≤ 4
  unfolding contact_from contact_of
  at_most_four = subst (λ (c : Contact). c.count ≤ 4) (sym holds_points) (drawn s n l t m k x source).few

  -- point i is the image at the i-th of the places, and says that place
  at_its_place : (i : ℕ) → i < r.contact.count → point i ≡ point_of (get_or places i 0) (get_or images (get_or places i 0) past_vertex)
  unfolding contact_from contact_of points_taken
  at_its_place i h =
      let low : i < length places = rw one_place_each at h in
      let image : ℕ → Point = λ j. point_of j (get_or images j past_vertex) in
      ap (λ (c : Contact). get_or c.points i past_point) holds_points
      ∙ (get_or-append points _ past_point i (omega (arith, low, length-map places image))
      ∙ at_map image 0 past_point places i low)

  pub told_places : (i : ℕ) → i < r.contact.count → place i ≡ get_or places i 0
  unfolding point_of
  told_places i h = ap (λ (p : Point). p.place) (at_its_place i h)

  -- each the image of this call's candidate at its place, which is below the number of candidates
  pub of_a_candidate : (i : ℕ) → i < r.contact.count → place i < length candidates
  of_a_candidate i h =
      let below = (drawn s n l t m k x source).below i (rw one_place_each at h) in
      let low : get_or places i 0 < length candidates = rw as_many at below in
      rw (told_places i h) low

  pub each_an_image : (i : ℕ) → i < r.contact.count → point i ≡ point_of (place i) (image_from s n l t m k x source (get_or candidates (place i) past_vertex))
  unfolding images_from
  each_an_image i h =
      at_its_place i h
      ∙ (ap (λ (j : ℕ). point_of j (get_or images j past_vertex)) (sym (told_places i h))
      ∙ ap (point_of (place i)) (at_map (image_from s n l t m k x source) past_vertex past_vertex candidates (place i) (of_a_candidate i h)))

  -- none used twice: the places differ
  pub none_twice : (i j : ℕ) → i < j → j < r.contact.count → place i ≡ place j → ⊥
  none_twice i j h q e =
      let low : i < r.contact.count = omega (arith, h, q) in
      (drawn s n l t m k x source).apart i j h (rw one_place_each at q) (sym (told_places i low) ∙ (e ∙ told_places j q))

  -- four candidates or fewer: all, in order, at places 0, 1, 2, 3
  pub four_or_fewer : length candidates ≤ 4
      → (r.contact ≡ contact_of (normal_from s n l t m k x source) (placed images)) × (r.contact.count ≡ length candidates)
      × ((i : ℕ) → i < r.contact.count → place i ≡ i)
  unfolding contact_from contact_of point_of
  four_or_fewer h =
      let few : length images ≤ 4 = rw as_many h in
      let all = (drawn s n l t m k x source).all few in
      let whole : r.contact ≡ contact_of (normal_from s n l t m k x source) (placed images) =
      holds_points ∙ ap (contact_of (normal_from s n l t m k x source)) all in
      let many : r.contact.count ≡ length images = ap (λ (c : Contact). c.count) whole ∙ length_placed 0 images in (
        whole,
        many ∙ as_many,
        λ i q.
            let low : i < length images = rw many at q in
            ap (λ (c : Contact). (get_or c.points i past_point).place) whole
            ∙ (ap (λ (p : Point). p.place) (get_or-append (placed images) _ past_point i (omega (arith, low, length_placed 0 images)))
            ∙ ap (λ (p : Point). p.place) (at_placed past_point images i low)),
      )

  -- a pair of edges has one point, its place is 0
  pub edge_point : (normal : Vec3) (a b : ℕ) → source ≡ edges normal a b → (r.contact.count ≡ 1) × (place 0 ≡ 0)
  unfolding candidates_from
  edge_point normal a b e =
      let one : length candidates ≡ 1 = ap (λ (src : Source). length (candidates_from s n l t m k x src)) e in
      let all = four_or_fewer (omega (arith, one)) in
      let count : r.contact.count ≡ 1 = all.1 ∙ one in
      (count, all.2 0 (omega (arith, count)))

  -- what is at or above the count is unused: zero, and its place 255
  pub unused : (i : ℕ) → r.contact.count ≤ i → i < 4 → point i ≡ unused_point
  unfolding contact_from contact_of
  unused i h q =
      let c : r.contact.count ≡ length points = ap (λ (c : Contact). c.count) holds_points in
      let rest = replicate (4 - length points) unused_point in
      let behind : i ≡ length points + (i - length points) = omega (arith, h, c) in
      ap (λ (c : Contact). get_or c.points i past_point) holds_points
      ∙ (ap (λ (j : ℕ). get_or (points ++ rest) j past_point) behind
      ∙ (get_or-append-add points rest (i - length points) past_point
      ∙ get_or-replicate (4 - length points) (i - length points) unused_point past_point (omega (arith, h, q, c))))

  -- ---- no candidates exactly where the source says why: small capacity, refused, apart or not touching
  pub no_candidates : Exactly (NoCandidates source) 0 (length candidates)
  unfolding candidates_from
  no_candidates = record { given = λ h. rw h.is refl; only = told_call s n l t m k x capacity was }

  -- a call whose capacity is below 4, and one that is refused, among them
  pub small_has_none : lt_z capacity (pos 4) ≡ true → source ≡ none small_capacity
  unfolding source_of
  small_has_none small = rw small

  pub refused_has_none : (r.status ≡ 0 → ⊥) → source ≡ none refused
  unfolding source_of
  refused_has_none h =
      cases (lt_z capacity (pos 4)) (λ small. absurd (h (Refusals.small_capacity s n l t m k x capacity was r is called small).0))
      (λ wide. rw (wide, ne_eqb _ _ (λ z. h (Refusals.number s n l t m k x capacity was r is called ∙ z))))

  -- and an empty contact only there, or where none of more than four is picked
  pub empty_only_there : r.contact.count ≡ 0 → length candidates ≤ 4 → NoCandidates source
  empty_only_there empty few = told_call s n l t m k x capacity was (sym (four_or_fewer few).1 ∙ empty)
