-- The number that a call gives, from document 01's table "Refusal numbers" and its order. Definitions only.
use Rattle.std.specs.Prelude.{ℕ, Bool, false, not, cond, List, ◌≡◌, length, eqb, ltb, ℤ, pos, Float}
use Rattle.std.specs.Int.Signed.{lt_z}
use Rattle.std.specs.Float.Ieee as Ieee
use Rattle.vector.specs.declared.Transform.{Transform}
use Rattle.rotation.specs.Rotation.{invert_of}
use Rattle.manifold.specs.declared.ClipVertex.{ClipVertex}
use Rattle.manifold.specs.declared.SatCache.{SatCache}
use Rattle.units.specs.Limits.{speculative}
use Rattle.hull_links.specs.declared.HullSize.{HullSize}
use Rattle.clip.specs.Candidates.{candidates_of}
use Rattle.axis.specs.declared.Search.{Search}
use Rattle.axis.specs.Search.{search_of}
use Rattle.collide_cached.specs.Again.{deepest_below_a, deepest_below_b, separation_from_a, separation_from_b, cached_face_a_of, cached_face_b_of}
use Rattle.collide_cached.specs.Again.{cached_edge_of}
use Rattle.collide_refusals.specs.Refusals.{refusal_of}

-- the first of two numbers that is given; 0 is none
unfoldable pub first_given : ℕ → ℕ → ℕ
first_given a b = cond (eqb a 0) b a

-- "6: a cut would put out a 65th vertex"
unfoldable pub cut_meets : List ClipVertex → ℕ
cut_meets candidates = cond (ltb 64 (length candidates)) 6 0

-- "5: the face a full .. search picks for a contact has a support vertex not below V (a padding lane won)": other is the hull of the vertex
unfoldable pub face_meets : HullSize → ℕ → List ClipVertex → ℕ
face_meets other v candidates = cond (ltb v other.vertices) (cut_meets candidates) 5

-- hull A is (s, n, l), hull B is (t, m, k), and x places B in A's frame
module _ (s : HullSize) (n : List Float) (l : List ℕ) (t : HullSize) (m : List Float) (k : List ℕ) (x : Transform) where
  -- the candidates on face f of A with vertex v of B, and on face f of B with vertex v of A
  abbrev on_a : ℕ → ℕ → List ClipVertex
  on_a f v = candidates_of s n l t m k x f v

  abbrev on_b : ℕ → ℕ → List ClipVertex
  on_b f v = candidates_of t m k s n l (invert_of x) f v

  -- the face that the full search picks: the one that wins, face A or face B; an axis apart meets nothing
  unfoldable pub winner_meets : Search → ℕ
  winner_meets (Search.Apart a) = 0
  winner_meets (Search.Found f) =
      let a = f.face_a in
      let b = f.face_b in
      cond (Ieee.lt b.separation a.separation)
      (face_meets t a.index_b (on_a a.index_a a.index_b))
      (face_meets s b.index_a (on_b b.index_b b.index_a))

  unfoldable pub full_meets : ℕ
  full_meets = winner_meets (search_of s n l t m k x)

  -- "a padding lane won": the vertex of the face that is picked is not below V
  unfoldable pub padding_won : Search → Bool
  padding_won (Search.Apart a) = false
  padding_won (Search.Found f) =
      let a = f.face_a in
      let b = f.face_b in
      cond (Ieee.lt b.separation a.separation) (not (ltb a.index_b t.vertices)) (not (ltb b.index_a s.vertices))

  -- a cached face that is not apart, with the vertex deepest below it, which is always below V; cached edges meet nothing
  unfoldable pub cached_meets : SatCache → ℕ
  cached_meets cache =
      let f = cache.index_a in
      let g = cache.index_b in
      let far = speculative s.unit in
      cond (eqb cache.kind 2) (cond (Ieee.le far (separation_from_a s n t m x f)) 0 (cut_meets (on_a f (deepest_below_a s n t m x f))))
      (cond (eqb cache.kind 3) (cond (Ieee.le far (separation_from_b s n t m x g)) 0 (cut_meets (on_b g (deepest_below_b s n t m x g))))
      0)

  -- whether the cached axis serves
  unfoldable pub hits : SatCache → Bool
  hits cache =
      cond (eqb cache.kind 2) (cached_face_a_of s n l t m k x cache).hit
      (cond (eqb cache.kind 3) (cached_face_b_of s n l t m k x cache).hit
      (cond (eqb cache.kind 4) (cached_edge_of s n l t m k x cache).hit
      false))

  -- "then .. 5, 6 as the work meets them": the cached axis, and where it does not serve, the full search
  unfoldable pub work_meets : SatCache → ℕ
  work_meets cache = first_given (cached_meets cache) (cond (hits cache) 0 full_meets)

  -- "capacity below 4 comes first and is accepted .. Then 1, 2, 3, 4, then .. 5, 6", with 17 between 2 and 3: 0 is accepted
  unfoldable pub number_of : ℤ → SatCache → ℕ
  number_of capacity cache = cond (lt_z capacity (pos 4)) 0 (first_given (refusal_of s n l t m k x cache) (work_meets cache))

-- the number is given exactly when this is so
pub record Exactly (this : Type 0) (number status : ℕ) : Type 0 where
  pub given : this → status ≡ number
  pub only : status ≡ number → this
