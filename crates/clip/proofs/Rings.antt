-- The two loops round a face: one lays out a polygon of its corners, the other cuts a polygon by its sides. Assumes nothing.
use Prim.Native.Nat.{ℕ, suc, ◌-◌, ◌≤◌, ◌<◌}
use mathlib.Core.Path.{◌≡◌, refl, sym, ap, ◌∙◌, subst}
use mathlib.Core.Bool.{false, cond, and-false}
use mathlib.Core.List.{List, [], ◌∷◌, ◌++◌, append_assoc, append-nil, map}
use mathlib.Core.Logic.{inl}
use native.Mathlib.Omega.{arith}
use native.Mathlib.Decide.{dec_le}
use lib.ListN.{length, take, length-map}
use lib.Seq.{take-nil, take_all, length-take-le}
use lib.Dec.{leb}
use lib.Ieee.{Float}
use borrow.Author.Tests.{le-leb, lt-leb}
use Rattle.vector.specs.declared.Plane.{Plane}
use Rattle.vector.specs.declared.Transform.{Transform}
use Rattle.manifold.specs.declared.ClipVertex.{ClipVertex}
use Rattle.manifold.proofs.Polygons.{first_most}
use Rattle.rotation.specs.Rotation.{Rows, matrix_of}
use Rattle.hull_links.specs.declared.HullSize.{HullSize}
use Rattle.hull_links.specs.Walks.{ring}
use Rattle.hull_links.specs.Links.{next, face_edge, face_ring}
use Rattle.hull_links.proofs.Orbits.{ring_some}
use Rattle.hull_links.proofs.Along.{Along, along, rest, ring_rest, no_more, goes_along, rest_more, rest_shorter}
use Rattle.hull.specs.Numbers.{plane_at}
use Rattle.hull.specs.Accepted.{Accepted}
use Rattle.clip_corners.specs.declared.Kept.{Kept}
use Rattle.clip_cut.specs.Cut.{cut_of}
use Rattle.clip_corners.specs.Places.{Roomy, Half, corners_in, Laid}
use Rattle.clip_corners.specs.Standing.{Standing}
use Rattle.clip_corners.proofs.Laying.{lays_none, lays_on}
use Rattle.clip_corners.proofs.Reading.{all_counted, all_back}
use Rattle.clip.specs.Candidates.{corner_of, built_of, side_plane_of, cut_on, goes_on, cut_round}

-- the half-edges behind e, on the way round the face whose ring begins at start
abbrev pub left_of : HullSize → List ℕ → ℕ → ℕ → List ℕ
left_of s l start e = rest (next s l) s.half_edges start e

-- a polygon is built of the corners f: k of them are laid, and the loop is at half-edge e
pub record Building (s : HullSize) (l : List ℕ) (start : ℕ) (f : ℕ → ClipVertex) (n₀ : List Float) (t₀ : List ℕ) (n : List Float) (t : List ℕ)
    (e k : ℕ) : Type 0 where
  pub here : Along (next s l) s.half_edges start e
  pub room : k < 64
  pub done : List ClipVertex
  pub stored : Laid n₀ t₀ 0 0 done n t k
  pub whole : done ++ map f (take (64 - k) (e ∷ left_of s l start e)) ≡ map f (take 64 (start ∷ left_of s l start start))

-- a polygon is cut: m corners from corner p on are left of it, the loop is at half-edge e, and all cuts will leave `all`
pub record Round (s : HullSize) (n : List Float) (l : List ℕ) (face start : ℕ) (all : List ClipVertex) (places : List Float) (tags : List ℕ)
    (p m e : ℕ) : Type 0 where
  pub here : Along (next s l) s.half_edges start e
  pub half : Half p
  pub some : 0 < m
  pub most : m ≤ 64
  pub whole : cut_round s n l face (e ∷ left_of s l start e) (corners_in places tags p m) ≡ all

-- and behind the cut on half-edge e, where k says what it left
pub record Turned (s : HullSize) (n : List Float) (l : List ℕ) (face start : ℕ) (all : List ClipVertex) (places : List Float) (tags : List ℕ)
    (k : Kept) (e : ℕ) : Type 0 where
  pub here : Along (next s l) s.half_edges start e
  pub half : Half k.from
  pub left : List ClipVertex
  pub stand : Standing places tags left k
  pub whole : cond (goes_on left) (cut_round s n l face (left_of s l start e) left) left ≡ all

-- the polygon that is to be cut is laid in the first half
pub record Begun (places : List Float) (tags : List ℕ) (m : ℕ) (built : List ClipVertex) : Type 0 where
  pub some : 0 < m
  pub most : m ≤ 64
  pub are : corners_in places tags 0 m ≡ built

-- ---- the polygon of a face has a corner, and no more than 64
first_some : (es : List ℕ) → 1 ≤ length es → 1 ≤ length (take 64 es)
first_some es h = by (dec_le (length es) 64)
  where
    by : Dec (length es ≤ 64) → 1 ≤ length (take 64 es)
    by (yes k) = rw (take_all 64 es k) h
    by (no k) = omega (arith, length-take-le 64 es (omega arith))

built_some : (s : HullSize) (n : List Float) (l : List ℕ) (t : Transform) (reference : Plane) (face : ℕ)
    → (0 < length (built_of s n l t reference face)) × (length (built_of s n l t reference face) ≤ 64)
unfolding built_of
built_some s n l t reference face =
    rw (length-map (take 64 (face_ring s l face)) (corner_of s n l (matrix_of t.q) t.p reference))
    (first_some (face_ring s l face) (ring_some (next s l) s.half_edges (face_edge s l face)), first_most (face_ring s l face))

module _ (s : HullSize) (n : List Float) (l : List ℕ) (t : Transform) (reference : Plane) (face : ℕ) where
  pub begun : (places : List Float) (tags : List ℕ) (places' : List Float) (tags' : List ℕ) (m : ℕ) → Roomy places tags
      → Laid places tags 0 0 (built_of s n l t reference face) places' tags' m → Begun places' tags' m (built_of s n l t reference face)
  begun places tags places' tags' m room x =
      let built = built_of s n l t reference face in
      let z = built_some s n l t reference face in
      let c : m ≡ length built = all_counted places tags 0 built places' tags' m room (omega arith) x in
      record {
        some = omega (arith, c, z.0);
        most = omega (arith, c, z.1);
        are = all_back places tags 0 built places' tags' m room (omega arith) x (omega (arith, c, z.1));
      }

  -- what is left of it, with the reference face by its name
  pub left_of_built : (s' : HullSize) (n' : List Float) (l' es : List ℕ) (f m : ℕ) (places : List Float) (tags : List ℕ)
      → Begun places tags m (built_of s n l t reference face) → reference ≡ plane_at s' n' f
      → (places' : List Float) (tags' : List ℕ) (k : Kept) → Standing places' tags' (cut_round s' n' l' f es (corners_in places tags 0 m)) k
      → Standing places' tags' (cut_round s' n' l' f es (built_of s n l t (plane_at s' n' f) face)) k
  left_of_built s' n' l' es f m places tags b p places' tags' k x =
      subst (λ (z : List ClipVertex). Standing places' tags' (cut_round s' n' l' f es z) k) (b.are ∙ ap (λ (z : Plane). built_of s n l t z face) p) x

-- the corners are carried by the matrix of the transform
pub built_is : (s : HullSize) (n : List Float) (l : List ℕ) (t : Transform) (reference : Plane) (face : ℕ) (matrix : Rows) (n₀ : List Float)
    (t₀ : List ℕ) (n' : List Float) (t' : List ℕ) (k : ℕ)
    → matrix ≡ matrix_of t.q → Laid n₀ t₀ 0 0 (map (corner_of s n l matrix t.p reference) (take 64 (face_ring s l face))) n' t' k
    → Laid n₀ t₀ 0 0 (built_of s n l t reference face) n' t' k
unfolding built_of
built_is s n l t reference face matrix n₀ t₀ n' t' k h x = rw (← h) x

module _ (s : HullSize) (n : List Float) (l : List ℕ) (ok : Accepted s n l) (face : ℕ) (face_in : face < s.faces) (start : ℕ)
    (q : start ≡ face_edge s l face) where
  -- the ring sets out from the stored edge
  face_along : Along (next s l) s.half_edges start start
  face_along =
      let low : start < s.half_edges = subst (λ (x : ℕ). x < s.half_edges) (sym q) (ok.face_edge_in face face_in) in
      along _ _ _ low (ok.rounds.rings start low)

  face_ring_lem : start ∷ left_of s l start start ≡ face_ring s l face
  face_ring_lem = sym (ring_rest (next s l) s.half_edges start) ∙ ap (ring (next s l) s.half_edges) q

  -- ---- building
  module _ (f : ℕ → ClipVertex) (n₀ : List Float) (t₀ : List ℕ) where
    pub build_begins : Building s l start f n₀ t₀ n₀ t₀ start 0
    build_begins = record { here = face_along; room = omega arith; done = []; stored = lays_none n₀ t₀ 0 0; whole = refl }

    module _ (places : List Float) (tags : List ℕ) (e k : ℕ) (b : Building s l start f n₀ t₀ places tags e k) (v : ClipVertex) (p : v ≡ f e)
        (places' : List Float) (tags' : List ℕ) (k' : ℕ)
        (x : Laid places tags 0 k (v ∷ []) places' tags' k') (t : ℕ) (w : t ≡ next s l e) where
      abbrev more : List ClipVertex
      more = b.done ++ (v ∷ [])

      more_stored : Laid n₀ t₀ 0 0 more places' tags' k'
      more_stored = lays_on n₀ t₀ 0 0 b.done places tags k b.stored (v ∷ []) places' tags' k' x

      more_whole : (es : List ℕ) → es ≡ take (63 - k) (left_of s l start e) → more ++ map f es ≡ map f (take 64 (start ∷ left_of s l start start))
      more_whole es r =
          let z : 64 - k ≡ suc (63 - k) = omega (arith, b.room) in
          append_assoc b.done (v ∷ []) (map f es) ∙ rw (r, p) (rw z at b.whole)

      pub build_goes : (t ≡ start → ⊥) → k' < 64 → Building s l start f n₀ t₀ places' tags' t k'
      build_goes nay h =
          let z : 64 - k' ≡ 63 - k = omega (arith, x.counted) in
          record {
            here = goes_along _ _ _ e t b.here w nay ok.next_in;
            room = h;
            done = more;
            stored = more_stored;
            whole = more_whole (take (64 - k') (t ∷ left_of s l start t)) (rw (z, rest_more _ _ _ e t b.here w nay));
          }

      pub build_shorter : (t ≡ start → ⊥) → length (left_of s l start t) < length (left_of s l start e)
      build_shorter nay = rest_shorter _ _ _ e t b.here w nay

      ends : [] ≡ take (63 - k) (left_of s l start e) → Laid n₀ t₀ 0 0 (map f (take 64 (face_ring s l face))) places' tags' k'
      ends r =
          let all : more ≡ map f (take 64 (face_ring s l face)) = sym (append-nil more) ∙ more_whole [] r
          ∙ ap (λ (es : List ℕ). map f (take 64 es)) face_ring_lem in
          subst (λ (z : List ClipVertex). Laid n₀ t₀ 0 0 z places' tags' k') all more_stored

      -- back at the start, or the 64th corner
      pub build_back : t ≡ start → Laid n₀ t₀ 0 0 (map f (take 64 (face_ring s l face))) places' tags' k'
      build_back z = ends (sym (ap (take (63 - k)) (no_more _ _ _ e t w z) ∙ take-nil (63 - k)))

      pub build_full : 64 ≤ k' → Laid n₀ t₀ 0 0 (map f (take 64 (face_ring s l face))) places' tags' k'
      build_full h = let z : 63 - k ≡ 0 = omega (arith, x.counted) in
          ends (rw z refl)

  -- ---- cutting
  pub round_begins : (places : List Float) (tags : List ℕ) (m : ℕ) (built : List ClipVertex) → Begun places tags m built
      → Round s n l face start (cut_round s n l face (face_ring s l face) (corners_in places tags 0 m)) places tags 0 m start
  round_begins places tags m built b = record {
    here = face_along;
    half = inl refl;
    some = b.some;
    most = b.most;
    whole = ap (λ (es : List ℕ). cut_round s n l face es (corners_in places tags 0 m)) face_ring_lem;
  }

  module _ (all : List ClipVertex) where
    pub round_cut : (places : List Float) (tags : List ℕ) (p m e : ℕ) → Round s n l face start all places tags p m e
        → (reference plane : Plane) → reference ≡ plane_at s n face → plane ≡ side_plane_of s n l reference.normal e
        → (places' : List Float) (tags' : List ℕ) (k : Kept)
        → Standing places' tags' (cut_of plane e reference (corners_in places tags p m)) k × Half k.from
        → Turned s n l face start all places' tags' k e
    unfolding cut_round cut_on
    round_cut places tags p m e r reference plane is side places' tags' k x = record {
      here = r.here;
      half = x.1;
      left = cut_on s n l face e (corners_in places tags p m);
      stand = rw (← is, ← side) x.0;
      whole = r.whole;
    }

    module _ (places : List Float) (tags : List ℕ) (k : Kept) (e : ℕ) (c : Turned s n l face start all places tags k e) where
      -- what the last cut leaves
      leaves : c.left ≡ all → Standing places tags all k
      leaves z = subst (λ (l : List ClipVertex). Standing places tags l k) z c.stand

      stops : goes_on c.left ≡ false → Standing places tags all k
      stops z = leaves (rw z at c.whole)

      -- a 65th corner, and fewer than three
      pub round_full : 64 < k.count → Standing places tags all k
      unfolding goes_on
      round_full h =
          stops (rw (lt-leb (length c.left) 64 (omega (arith, h, c.stand.counted))) (and-false (leb 3 (length c.left))))

      pub round_few : k.count < 3 → Standing places tags all k
      unfolding goes_on
      round_few h = stops (rw (lt-leb 3 (length c.left) (omega (arith, h, c.stand.counted))) refl)

      -- else the cuts go on
      module _ (h : k.count ≤ 64) (g : 3 ≤ k.count) (t : ℕ) (w : t ≡ next s l e) where
        goes : cut_round s n l face (left_of s l start e) c.left ≡ all
        unfolding goes_on
        goes =
            let count = c.stand.counted in
            rw (le-leb 3 (length c.left) (omega (arith, g, count)), le-leb (length c.left) 64 (omega (arith, h, count))) at c.whole

        pub round_back : t ≡ start → Standing places tags all k
        unfolding cut_round
        round_back z = leaves (ap (λ (es : List ℕ). cut_round s n l face es c.left) (sym (no_more _ _ _ e t w z)) ∙ goes)

        pub round_goes : (t ≡ start → ⊥) → Round s n l face start all places tags k.from k.count t
        round_goes nay = record {
          here = goes_along _ _ _ e t c.here w nay ok.next_in;
          half = c.half;
          some = omega (arith, g);
          most = h;
          whole = rw (c.stand.corners (omega (arith, h, c.stand.counted)), ← rest_more _ _ _ e t c.here w nay) goes;
        }

        pub round_shorter : (t ≡ start → ⊥) → length (left_of s l start t) < length (left_of s l start e)
        round_shorter nay = rest_shorter _ _ _ e t c.here w nay
