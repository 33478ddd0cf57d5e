-- In every hull that breaks no rule of H1 to H7, going round the faces lists each half-edge exactly once, and so does going round the corners, and no walk
-- outlasts the half-edges. Assumes nothing.
use mathlib.Core.Path.{◌≡◌, refl, ◌∙◌, subst}
use mathlib.Core.Bool.{true}
use mathlib.Core.List.{List}
use Prim.Native.Nat.{ℕ, ◌≤◌, ◌<◌}
use native.Mathlib.Omega.{arith}
use lib.ListN.{length}
use Rattle.hull_links.specs.declared.HullSize.{HullSize}
use Rattle.hull_links.specs.Walks.{has, ring, joined, Once, Closes}
use Rattle.hull_links.specs.inner.Tours.{Walk, Walked}
use Rattle.hull_links.specs.Links.{next, origin, face, vertex_edge, face_edge, turn, round_faces, round_corners}
use Rattle.hull_links.specs.Rules.{h6, h7, Linked}
use Rattle.hull_links.specs.Rounds.{Rounds}
use Rattle.hull_links.proofs.Orbits.{comes_back, closes, ring_some, ring_length, walk_keeps}
use Rattle.hull_links.proofs.Tours.{listed_once}
use Rattle.hull_links.proofs.Facts.{edge_in, next_lt, turn_lt, vertex_edge_lt, face_edge_lt, next_face, next_inj, turn_inj, turn_origin}
use Rattle.hull_links.proofs.Facts.{face_edge_face, ring_long, ring_full, vertex_edge_origin, fan_full}

-- ---- a step that stays below n, is one-to-one there and keeps a key: each walk from a start that has its key comes back, and all of it has that key
module _ (step key start : ℕ → ℕ) (n k : ℕ) (closed : (e : ℕ) → e < n → step e < n) (inj : (a b : ℕ) → a < n → b < n → step a ≡ step b → a ≡ b)
    (keeps : (e : ℕ) → e < n → key (step e) ≡ key e) (start_lt : (f : ℕ) → f < k → start f < n) (start_key : (f : ℕ) → f < k → key (start f) ≡ f) where
  abbrev Keyed : ℕ → ℕ → Type 0
  Keyed f e = (e < n) × (key e ≡ f)

  keyed_walk : (f : ℕ) → f < k → (m : ℕ) × (m ≤ n) × Walk step (Keyed f) (start f) m
  keyed_walk f l =
      let w = comes_back step n closed inj (start f) (start_lt f l) in (
        w.0,
        w.1,
        walk_keeps step (λ e. e < n) (Keyed f) (λ c p. (closed c p.0, keeps c p.0 ∙ p.1)) (start f) w.0 (start_lt f l, start_key f l) w.2,
      )

  -- and whatever a number below n with that key has
  module _ (least : ℕ) (long : (f : ℕ) → f < k → least ≤ length (ring step n (start f))) (P : ℕ → ℕ → Type 0) (suits : (f e : ℕ) → e < n
      → key e ≡ f → P f e) where
    pub each_walked : Walked step start P least n k
    each_walked = record {
      long = long;
      walks = λ f l. let w = keyed_walk f l in let v = w.2 in
          subst (λ (x : ℕ). Walk step (P f) (start f) x) (ring_length step (Keyed f) n (start f) w.0 v w.1)
          (record { some = v.some; back = v.back; apart = v.apart; each = λ i h. let p = v.each i h in suits f _ p.0 p.1 });
      short = λ f l. let w = keyed_walk f l in subst (λ (x : ℕ). x ≤ n) (ring_length step (Keyed f) n (start f) w.0 w.2 w.1) w.1;
    }

  -- where the ring of each start holds every number of its key, the rings list each number exactly once
  pub round_once : ((e : ℕ) → e < n → key e < k) → ((f e : ℕ) → f < k → e < n → key e ≡ f → has e (ring step n (start f)) ≡ true)
      → Once n (joined (λ f. ring step n (start f)) k)
  round_once key_lt full =
      listed_once step key start Keyed 0 n k (λ f e p. p.1) (λ f e p. p.0) (each_walked 0 (λ f l. omega arith) Keyed (λ f e l q. (l, q)))
      (λ e l. (key_lt e l, full (key e) e (key_lt e l) l refl))

module _ (s : HullSize) (l : List ℕ) (ok : Linked s l) where
  abbrev H : ℕ
  H = s.half_edges

  -- ---- the walks over the faces by next, and over the corners by next of the twin
  module _ (r6 : h6 s l ≡ true) where
    pub rings_walked : (P : ℕ → ℕ → Type 0) → ((f e : ℕ) → e < H → face s l e ≡ f → P f e) → Walked (next s l) (face_edge s l) P 3 H s.faces
    rings_walked =
        each_walked (next s l) (face s l) (face_edge s l) H s.faces (next_lt s l ok.r2) (next_inj s l ok) (next_face s l ok)
        (face_edge_lt s l ok.r2) (face_edge_face s l r6) 3 (ring_long s l r6)

    -- going round the faces lists each half-edge exactly once
    pub faces_once : Once H (round_faces s l)
    faces_once =
        round_once (next s l) (face s l) (face_edge s l) H s.faces (next_lt s l ok.r2) (next_inj s l ok) (next_face s l ok)
        (face_edge_lt s l ok.r2) (face_edge_face s l r6) (λ e h. (edge_in s l ok.r2 e h).face_in) (ring_full s l r6)

  module _ (r7 : h7 s l ≡ true) where
    pub fans_walked : (P : ℕ → ℕ → Type 0) → ((v e : ℕ) → e < H → origin s l e ≡ v → P v e) → Walked (turn s l) (vertex_edge s l) P 1 H s.vertices
    fans_walked =
        each_walked (turn s l) (origin s l) (vertex_edge s l) H s.vertices (turn_lt s l ok.r2) (turn_inj s l ok) (turn_origin s l ok)
        (vertex_edge_lt s l ok.r2) (vertex_edge_origin s l r7) 1 (λ v h. ring_some (turn s l) H (vertex_edge s l v))

    -- and so does going round the corners
    pub corners_once : Once H (round_corners s l)
    corners_once =
        round_once (turn s l) (origin s l) (vertex_edge s l) H s.vertices (turn_lt s l ok.r2) (turn_inj s l ok) (turn_origin s l ok)
        (vertex_edge_lt s l ok.r2) (vertex_edge_origin s l r7) (λ e h. (edge_in s l ok.r2 e h).origin_in) (fan_full s l r7)

  -- no walk outlasts the half-edges
  walk_closes : (step : ℕ → ℕ) → ((e : ℕ) → e < H → step e < H) → ((a b : ℕ) → a < H → b < H → step a ≡ step b → a ≡ b) → (e : ℕ) → e < H → Closes step H e
  walk_closes step closed inj e h = let w = comes_back step H closed inj e h in closes step (λ c. c < H) H e w.0 w.2 w.1

  pub rounds : h6 s l ≡ true → h7 s l ≡ true → Rounds s l
  rounds r6 r7 = record {
    faces = faces_once r6;
    corners = corners_once r7;
    rings = walk_closes (next s l) (next_lt s l ok.r2) (next_inj s l ok);
    fans = walk_closes (turn s l) (turn_lt s l ok.r2) (turn_inj s l ok);
  }
