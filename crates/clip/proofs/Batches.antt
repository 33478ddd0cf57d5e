-- The sides of a face in batches: how one is filled, and what is read of it. Assumes nothing.
use Prim.Native.Nat.{ℕ, zero, suc, ◌+◌, ◌-◌, ◌≤◌, ◌<◌}
use mathlib.Core.Path.{◌≡◌, refl, ap, ◌∙◌}
use mathlib.Core.List.{List, [], ◌∷◌, map}
use native.Mathlib.Omega.{arith}
use native.Mathlib.Decide.{dec_lt}
use lib.ListN.{length, get_or, set, length-set}
use lib.Seq.{get_or-set_same, get_or-set_other}
use lib.Dec.{eqb}
use lib.Ieee.{nan}
use borrow.Author.Tests.{lt-ltb, le-ltb, eq-eqb, ne_eqb}
use Rattle.vector.specs.declared.Plane.{Plane}
use Rattle.vector.specs.Shape.{past_vec}
use Rattle.hull_links.specs.Walks.{until}
use Rattle.hull_links.proofs.Tests.{cases}
use Rattle.clip.specs.inner.Batches.{planes_with, at_most, Followed}

-- ---- planes that are put
-- what the logic reads past the end
abbrev pub past_plane : Plane
past_plane = record { normal = past_vec; offset = nan }

planes_length : (n : List Plane) (k : ℕ) (ps : List Plane) → length (planes_with n k ps) ≡ length n
unfolding planes_with
planes_length n k [] = refl
planes_length n k (p ∷ ps) = planes_length (set n k p) (k + 1) ps ∙ length-set n k p

plane_before : (n : List Plane) (k : ℕ) (ps : List Plane) (i : ℕ) → i < k → get_or (planes_with n k ps) i past_plane ≡ get_or n i past_plane
unfolding planes_with
plane_before n k [] i h = refl
plane_before n k (p ∷ ps) i h =
    plane_before (set n k p) (k + 1) ps i (omega arith) ∙ get_or-set_other n k i p past_plane (λ (q : i ≡ k). omega arith)

-- ---- which plane is next
module _ (n : List Plane) (k : ℕ) (batch : List Plane) where
  pub follows_in : k < 15 → Followed n k batch n (k + 1)
  follows_in h = record { number = rw (lt-ltb k 15 h) refl; planes = rw (lt-ltb k 15 h) refl }

  pub follows_anew : 15 ≤ k → (n' : List Plane) → n' ≡ planes_with n 0 batch → Followed n k batch n' 0
  follows_anew h n' q = record { number = rw (le-ltb k 15 h) refl; planes = rw (le-ltb k 15 h) q }

-- ---- planes that are read
module _ (side : ℕ → Plane) where
  -- the sides of these half-edges stand from plane k on
  abbrev Reads : List Plane → ℕ → List ℕ → Type 0
  Reads n k [] = Unit {0}
  Reads n k (e ∷ es) = (get_or n k past_plane ≡ side e) × Reads n (k + 1) es

  reads : (n : List Plane) (k : ℕ) (es : List ℕ) → k + length es ≤ length n → Reads (planes_with n k (map side es)) k es
  unfolding planes_with
  reads n k [] h = tt
  reads n k (e ∷ es) h =
      let n1 = set n k (side e) in
      let long : length n1 ≡ length n = length-set n k (side e) in (
        plane_before n1 (k + 1) (map side es) k (omega arith) ∙ get_or-set_same n k (side e) past_plane (omega arith),
        reads n1 (k + 1) es (omega (arith, h, long)),
      )

-- ---- the walk of a batch
module _ (step : ℕ → ℕ) (start : ℕ) where
  until_few : (m e : ℕ) → length (until step start m e) ≤ m
  unfolding until
  until_few zero e = omega arith
  until_few (suc m) e = cases (eqb e start) (λ t. rw t (omega arith)) (λ t. rw t (omega (arith, until_few m (step e))))

  at_most_lem : (m e : ℕ) → length (at_most m step start e) ≤ m
  unfolding at_most
  at_most_lem zero e = omega arith
  at_most_lem (suc m) e = omega (arith, until_few m (step e))

  until_back : (m e : ℕ) → e ≡ start → until step start m e ≡ []
  unfolding until
  until_back zero e q = refl
  until_back (suc m) e q = rw (eq-eqb e start q)

  until_on : (m e : ℕ) → (e ≡ start → ⊥) → until step start m e ≡ at_most m step start e
  unfolding until at_most
  until_on zero e q = refl
  until_on (suc m) e q = rw (ne_eqb e start q)

-- ---- a batch is filled from half-edge `first` on: k of its sides stand, and the loop is at half-edge e
module _ (side : ℕ → Plane) (step : ℕ → ℕ) (h start first : ℕ) (n₀ : List Plane) where
  abbrev filled : List Plane
  filled = planes_with n₀ 0 (map side (at_most 16 step start first))

  pub record Filling (n : List Plane) (e k : ℕ) : Type 0 where
    pub low : e < h
    pub most : k ≤ 16
    pub room : length n ≡ 16
    pub whole : planes_with n k (map side (at_most (16 - k) step start e)) ≡ filled

  pub fill_begins : first < h → length n₀ ≡ 16 → Filling n₀ first 0
  fill_begins l r = record { low = l; most = omega arith; room = r; whole = refl }

  module _ (n : List Plane) (e k : ℕ) (c : Filling n e k) where
    module _ (inside : k < 16) (p : Plane) (is : p ≡ side e) (n' : List Plane) (put : n' ≡ set n k p) (t : ℕ) (w : t ≡ step e) where
      pub put_room : length n' ≡ 16
      put_room = ap length put ∙ length-set n k p ∙ c.room

      left : planes_with n' (k + 1) (map side (until step start (15 - k) t)) ≡ filled
      unfolding planes_with at_most
      left =
          let z : 16 - k ≡ suc (15 - k) = omega arith in
          rw (put, is, w) (rw z at c.whole)

      pub fill_back : t ≡ start → n' ≡ filled
      unfolding planes_with
      fill_back q = rw (until_back step start (15 - k) t q) at left

      pub fill_goes : (t ≡ start → ⊥) → t < h → Filling n' t (k + 1)
      fill_goes q l = record {
        low = l;
        most = omega arith;
        room = put_room;
        whole =
            let z : 16 - (k + 1) ≡ 15 - k = omega arith in
            rw (z, ← until_on step start (15 - k) t q) left;
      }

    pub fill_ends : 16 ≤ k → n ≡ filled
    unfolding planes_with at_most
    fill_ends g = let z : 16 - k ≡ 0 = omega arith in
        rw z at c.whole

-- ---- the loop that cuts: the sides of half-edge e and of those behind it stand from plane k on, as far as the batch goes
module _ (side : ℕ → Plane) (step : ℕ → ℕ) (start : ℕ) where
  pub record Ahead (n : List Plane) (k e : ℕ) : Type 0 where
    pub low : k < 16
    pub room : length n ≡ 16
    pub stand : Reads side n k (at_most (16 - k) step start e)

  pub ahead_filled : (n : List Plane) (e : ℕ) (n' : List Plane) → length n ≡ 16 → n' ≡ planes_with n 0 (map side (at_most 16 step start e)) → Ahead n' 0 e
  ahead_filled n e n' r q = record {
    low = omega arith;
    room = ap length q ∙ planes_length n 0 (map side (at_most 16 step start e)) ∙ r;
    stand = rw q (reads side n 0 (at_most 16 step start e) (omega (arith, r, at_most_lem step start 16 e)));
  }

  module _ (n : List Plane) (k e : ℕ) (c : Ahead n k e) where
    split : Reads side n k (e ∷ until step start (15 - k) (step e))
    unfolding at_most
    split =
        let z : 16 - k ≡ suc (15 - k) = omega (arith, c.low) in
        rw z at c.stand

    pub ahead_here : get_or n k past_plane ≡ side e
    ahead_here = split.0

    pub ahead_next : (t : ℕ) → t ≡ step e → (t ≡ start → ⊥) → (n' : List Plane) (r : ℕ)
        → Followed n k (map side (at_most 16 step start t)) n' r → Ahead n' r t
    ahead_next t w q n' r x = by (dec_lt k 15)
      where
        by : Dec (k < 15) → Ahead n' r t
        by (yes h) =
            let a : r ≡ k + 1 = rw (lt-ltb k 15 h) at x.number in
            let b : n' ≡ n = rw (lt-ltb k 15 h) at x.planes in
            let z : 16 - (k + 1) ≡ 15 - k = omega arith in
            rw (a, b) (record { low = omega arith; room = c.room; stand = rw (z, ← until_on step start (15 - k) t q, w) split.1 })
        by (no h) =
            let a : r ≡ 0 = rw (le-ltb k 15 (omega arith)) at x.number in
            rw a (ahead_filled n t n' c.room (rw (le-ltb k 15 (omega arith)) at x.planes))
