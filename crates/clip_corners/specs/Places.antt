-- Corners in two lists: corner p is four numbers and four bytes, both from place 4 p on. Definitions only.
use Rattle.std.specs.Prelude.{ℕ, zero, suc, ◌+◌, ◌*◌, ◌≤◌, ◌≡◌, cond, ◌⊎◌, List, [], ◌∷◌, length, get_or, set, ltb, Float}
use Rattle.std.specs.Float.{nan}
use Rattle.manifold.specs.declared.ClipVertex.{ClipVertex}

-- there is room for 128 corners
pub record Roomy (n : List Float) (t : List ℕ) : Type 0 where
  pub numbers_room : length n ≡ 512
  pub tags_room : length t ≡ 512

-- two polygons of 64 places stand there, one from corner p on and one from corner q on
pub record SideBySide (p q : ℕ) : Type 0 where
  pub low : (p ≤ 64) × (q ≤ 64)
  pub apart : (p + 64 ≤ q) ⊎ (q + 64 ≤ p)

-- corner p is the first of one half of the lists
abbrev pub Half : ℕ → Type 0
Half p = (p ≡ 0) ⊎ (p ≡ 64)

-- ---- reading
-- corner p
unfoldable pub corner_in : List Float → List ℕ → ℕ → ClipVertex
corner_in n t p = record {
  position = record { x = get_or n (4 * p) nan; y = get_or n (4 * p + 1) nan; z = get_or n (4 * p + 2) nan };
  separation = get_or n (4 * p + 3) nan;
  pair = record { owner1 = get_or t (4 * p) 0; index1 = get_or t (4 * p + 1) 0; owner2 = get_or t (4 * p + 2) 0; index2 = get_or t (4 * p + 3) 0 };
}

-- k corners from corner p on
unfoldable pub corners_in : List Float → List ℕ → ℕ → ℕ → List ClipVertex
corners_in n t p zero = []
corners_in n t p (suc k) = corner_in n t p ∷ corners_in n t (p + 1) k

-- ---- writing
-- four places from place a on
abbrev pub four : {A : Type 0} → List A → ℕ → A → A → A → A → List A
four l a x y z w = set (set (set (set l a x) (a + 1) y) (a + 2) z) (a + 3) w

-- corner p becomes v
unfoldable pub numbers_with : List Float → ℕ → ClipVertex → List Float
numbers_with n p v = four n (4 * p) v.position.x v.position.y v.position.z v.separation

unfoldable pub tags_with : List ℕ → ℕ → ClipVertex → List ℕ
tags_with t p v = four t (4 * p) v.pair.owner1 v.pair.index1 v.pair.owner2 v.pair.index2

-- these corners are put behind the k that stand from corner p on, as far as the 64th
unfoldable pub laid : {S : Type 0} → (S → ℕ → ClipVertex → S) → S → ℕ → ℕ → List ClipVertex → S
laid with s p k [] = s
laid with s p k (v ∷ vs) = laid with (cond (ltb k 64) (with s (p + k) v) s) p (k + 1) vs

-- what the lists hold then, and how many corners that makes
pub record Laid (n : List Float) (t : List ℕ) (p k : ℕ) (l : List ClipVertex) (n' : List Float) (t' : List ℕ) (r : ℕ) : Type 0 where
  pub numbers_are : n' ≡ laid numbers_with n p k l
  pub tags_are : t' ≡ laid tags_with t p k l
  pub counted : r ≡ k + length l
