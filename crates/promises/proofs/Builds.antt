-- What holds of everything that a full search can build holds of what it builds. Assumes nothing.
use Prim.Native.Nat.{ℕ, ◌≤◌}
use mathlib.Core.List.{List, [], ◌∷◌}
use mathlib.Core.Path.{◌≡◌, refl, ap, subst}
use native.Mathlib.Omega.{arith}
use lib.Dec.{T, eqb, ltb}
use lib.ListN.{length}
use lib.Ieee as Ieee
use lib.Ieee.{Float}
use Rattle.bounds.proofs.Laws.{picked, picked_if}
use Rattle.vector.specs.declared.Vec3.{Vec3}
use Rattle.vector.specs.declared.Transform.{Transform}
use Rattle.vector.specs.Awaited.{is_within_segments_of}
use Rattle.rotation.specs.Rotation.{invert_of}
use Rattle.manifold.specs.declared.Contact.{Contact}
use Rattle.manifold.specs.declared.ClipVertex.{ClipVertex}
use Rattle.manifold.specs.declared.kinds.AxisKind.{AxisKind}
use Rattle.manifold.specs.Kinds.{kind_number}
use Rattle.units.specs.Limits.{speculative}
use Rattle.hull_links.specs.declared.HullSize.{HullSize}
use Rattle.hull.specs.Numbers.{plane_at}
use Rattle.axis_best.specs.declared.Lead.{Lead}
use Rattle.axis.specs.declared.Axis.{Axis}
use Rattle.axis.specs.declared.AxisApart.{AxisApart}
use Rattle.std.specs.Prelude.{Option, Some, None}
use Rattle.axis.specs.declared.Found.{Found}
use Rattle.axis.specs.declared.Search.{Search}
use Rattle.axis.specs.Meaning.{cache_of}
use Rattle.axis.specs.Search.{apart_of, found_of, search_answer_of, search_of}
use Rattle.reduce_scores.specs.Images.{least_separation_of, touching_of}
use Rattle.clip.specs.Candidates.{candidates_of}
use Rattle.reduce_points.specs.Points.{point_of, contact_of}
use Rattle.contacts.specs.Faces.{contact_on_a, contact_on_b, on_face, face_a_of, face_b_of}
use Rattle.contacts.specs.EdgePairs.{edge_point, nearest_of, along_of, edge_contact_of}
use Rattle.collide_outcome.specs.Builds.{Built, touched_of, missed, refused_at}
use Rattle.collide_full.specs.Full.{tries_edge, pair_contact, contact_a, contact_b, winner_contact, instead_of, with_edge, found_contact, apart_built}
use Rattle.collide_full.specs.Full.{after_search, full_of}

-- hull A is (s, n, l), hull B is (t, m, k), and x places B in A's frame
module _ (s : HullSize) (n : List Float) (l : List ℕ) (t : HullSize) (m : List Float) (k : List ℕ) (x : Transform) where
  -- of the faces that were found, and of the pair of edges where there is one
  pub record Each (P : Built → Type 0) (f : Found) : Type 0 where
    pub on_a : P (contact_a s n l t m k x f.face_a)
    pub on_b : P (contact_b s n l t m k x f.face_b)
    pub on_pair : (e : Axis) → Some e ≡ f.edge → P (pair_contact s n l t m k x e)

  module _ (P : Built → Type 0) (at_apart : (a : AxisApart) → Search.Apart a ≡ search_of s n l t m k x → P (apart_built a))
      (at_found : (f : Found) → Search.Found f ≡ search_of s n l t m k x → Each P f) where
    instead_has : (built : Built) (e : Axis) → P built → P (pair_contact s n l t m k x e) → P (instead_of s n l t m k x built e)
    unfolding instead_of
    instead_has built e p q = picked P (tries_edge s.unit built e) (picked P (pair_contact s n l t m k x e).touching q p) p

    edge_has : (built : Built) (edge : Option Axis) → P built → ((e : Axis) → Some e ≡ edge → P (pair_contact s n l t m k x e))
        → P (with_edge s n l t m k x built edge)
    unfolding with_edge
    edge_has built (Some e) p q = instead_has built e p (q e refl)
    edge_has built None p q = p

    found_has : (f : Found) → Each P f → P (found_contact s n l t m k x f.face_a f.face_b f.edge)
    unfolding found_contact winner_contact
    found_has f h =
        let winner = picked P (Ieee.lt f.face_b.separation f.face_a.separation) h.on_a h.on_b in
        picked P (eqb (winner_contact s n l t m k x f.face_a f.face_b).status 0) (edge_has _ f.edge winner h.on_pair) winner

    pub full_has : P (full_of s n l t m k x)
    unfolding full_of after_search
    full_has = go (search_of s n l t m k x) refl
      where
        go : (z : Search) → z ≡ search_of s n l t m k x → P (after_search s n l t m k x z)
        go (Search.Apart a) e = at_apart a e
        go (Search.Found f) e = found_has f (at_found f e)

  -- ---- what holds of a refusal and of no contact holds of a face's contact and of a pair's, if it holds where they touch
  module _ (P : Built → Type 0) (at_refusal : (number : ℕ) → P (refused_at number)) (at_missed : P missed) where
    on_face_has : (unit : ℕ) (contact : Contact) (kind a b : ℕ) (candidates : List ClipVertex)
        → P (touched_of contact (least_separation_of candidates) kind a b) → P (on_face unit contact kind a b candidates)
    unfolding on_face
    on_face_has unit contact kind a b candidates p =
        picked P (ltb 64 (length candidates)) (at_refusal 6)
        (picked P (touching_of (speculative unit) (length candidates) (least_separation_of candidates)) p at_missed)

    -- face f of A with a vertex of B, and face f of B with a vertex of A
    pub face_a_has : (f v : ℕ) → let candidates = candidates_of s n l t m k x f v in
        (T (ltb v t.vertices) → P (touched_of (contact_on_a s.unit (plane_at s n f).normal candidates) (least_separation_of candidates) 2 f v))
        → P (face_a_of s n l t m k x f v)
    unfolding face_a_of
    face_a_has f v p = picked_if P (ltb v t.vertices) (λ low. on_face_has _ _ 2 f v _ (p low)) (at_refusal 5)

    pub face_b_has : (f v : ℕ) → let candidates = candidates_of t m k s n l (invert_of x) f v in
        (T (ltb v s.vertices) → P (touched_of (contact_on_b t.unit x (plane_at t m f).normal candidates) (least_separation_of candidates) 3 v f))
        → P (face_b_of s n l t m k x f v)
    unfolding face_b_of
    face_b_has f v p = picked_if P (ltb v s.vertices) (λ low. on_face_has _ _ 3 v f _ (p low)) (at_refusal 5)

    -- half-edges a of A and b of B along a normal
    pub edges_have : (normal : Vec3) (a b : ℕ) → let nearest = nearest_of s n l t m k x a b in let point = edge_point nearest normal a b in
        (T (is_within_segments_of nearest) → P (touched_of (contact_of normal (point_of 0 point ∷ [])) point.separation 4 a b))
        → P (edge_contact_of s n l t m k x normal a b)
    unfolding edge_contact_of along_of
    edges_have normal a b p = picked_if P (is_within_segments_of (nearest_of s n l t m k x a b)) p at_missed

  -- ---- the cache of a full search is of type 0, 2, 3 or 4, and has no hit
  pub record Plain (built : Built) : Type 0 where
    pub kind : built.cache.kind ≤ 4
    pub no_hit : built.cache.hit ≡ 0

  plain : (contact : Contact) (separation : Float) (kind a b : ℕ) → kind ≤ 4 → Plain (touched_of contact separation kind a b)
  unfolding touched_of
  plain contact separation kind a b h = record { kind = h; no_hit = refl }

  plain_empty : (number : ℕ) → Plain (refused_at number)
  plain_empty number = record { kind = omega arith; no_hit = refl }

  -- an axis apart is of type 2, 3 or 4
  record Typed (z : Search) : Type 0 where
    kind : (a : AxisApart) → Search.Apart a ≡ z → kind_number a.kind ≤ 4

  typed_apart : (kind : AxisKind) (lead : Lead) → kind_number kind ≤ 4 → Typed (apart_of kind lead)
  unfolding apart_of
  typed_apart kind lead h = record { kind = λ a e. rw (ap kind_of e) h }
    where
      kind_of : Search → ℕ
      kind_of (Search.Apart a) = kind_number a.kind
      kind_of (Search.Found f) = 0

  typed_found : (a b edge : Lead) → Typed (found_of a b edge)
  unfolding found_of
  typed_found a b edge = record { kind = λ p e. absurd (subst Told e tt) }
    where
      Told : Search → Type 0
      Told (Search.Apart a) = Unit {0}
      Told (Search.Found f) = ⊥

  typed_search : Typed (search_of s n l t m k x)
  unfolding search_of search_answer_of
  typed_search =
      picked Typed _ (typed_apart AxisKind.FaceA _ (omega arith))
      (picked Typed _ (typed_apart AxisKind.FaceB _ (omega arith)) (picked Typed _ (typed_apart AxisKind.Edges _ (omega arith)) (typed_found _ _ _)))

  plain_apart : (a : AxisApart) → Search.Apart a ≡ search_of s n l t m k x → Plain (apart_built a)
  unfolding apart_built cache_of
  plain_apart a e = record { kind = typed_search.kind a e; no_hit = refl }

  plain_found : (f : Found) → Search.Found f ≡ search_of s n l t m k x → Each Plain f
  unfolding contact_a contact_b pair_contact
  plain_found f e =
      record {
        on_a = face_a_has Plain plain_empty (plain_empty 0) _ _ (λ low. plain _ _ 2 _ _ (omega arith));
        on_b = face_b_has Plain plain_empty (plain_empty 0) _ _ (λ low. plain _ _ 3 _ _ (omega arith));
        on_pair = λ a q. edges_have Plain plain_empty (plain_empty 0) _ _ _ (λ low. plain _ _ 4 _ _ (omega arith));
      }

  pub full_plain : Plain (full_of s n l t m k x)
  full_plain = full_has Plain plain_apart plain_found
