-- Corners that are laid into two lists. Assumes nothing.
use Prim.Native.Nat.{ℕ, ◌+◌, ◌*◌, ◌≤◌, ◌<◌}
use mathlib.Core.Path.{◌≡◌, refl, sym, ap, ◌∙◌}
use mathlib.Core.Bool.{cond}
use mathlib.Core.List.{List, [], ◌∷◌, ◌++◌}
use mathlib.Core.Logic.{◌⊎◌, inl, inr}
use native.Mathlib.Omega.{arith}
use native.Mathlib.Decide.{dec_lt}
use native.Mathlib.Nat.{add-zero}
use lib.ListN.{length, get_or, set, length-set, length-append}
use lib.Seq.{get_or-set_same, get_or-set_other}
use lib.Dec.{ltb}
use lib.Ieee.{Float, nan}
use borrow.Author.Tests.{lt-ltb, le-ltb}
use Rattle.manifold.specs.declared.ClipVertex.{ClipVertex}
use Rattle.clip_corners.specs.Places.{Roomy, corner_in, four, numbers_with, tags_with, laid, Laid}

-- ---- four places
module _ {A : Type 0} (l : List A) (a : ℕ) (x y z w : A) where
  pub four_length : length (four l a x y z w) ≡ length l
  four_length =
      length-set (set (set (set l a x) (a + 1) y) (a + 2) z) (a + 3) w
      ∙ length-set (set (set l a x) (a + 1) y) (a + 2) z
      ∙ length-set (set l a x) (a + 1) y
      ∙ length-set l a x

  -- the places beside them stay
  pub four_beside : (j : ℕ) (d : A) → (j < a) ⊎ (a + 4 ≤ j) → get_or (four l a x y z w) j d ≡ get_or l j d
  four_beside j d o =
      get_or-set_other (set (set (set l a x) (a + 1) y) (a + 2) z) (a + 3) j w d (apart o 3 (omega arith))
      ∙ get_or-set_other (set (set l a x) (a + 1) y) (a + 2) j z d (apart o 2 (omega arith))
      ∙ get_or-set_other (set l a x) (a + 1) j y d (apart o 1 (omega arith))
      ∙ get_or-set_other l a j x d (first o)
    where
      apart : (j < a) ⊎ (a + 4 ≤ j) → (i : ℕ) → i < 4 → j ≡ a + i → ⊥
      apart (inl h) i k q = omega arith
      apart (inr h) i k q = omega arith

      first : (j < a) ⊎ (a + 4 ≤ j) → j ≡ a → ⊥
      first (inl h) q = omega arith
      first (inr h) q = omega arith

  module _ (d : A) (room : a + 4 ≤ length l) where
    pub four_0 : get_or (four l a x y z w) a d ≡ x
    four_0 =
        get_or-set_other (set (set (set l a x) (a + 1) y) (a + 2) z) (a + 3) a w d (λ (q : a ≡ a + 3). omega arith)
        ∙ get_or-set_other (set (set l a x) (a + 1) y) (a + 2) a z d (λ (q : a ≡ a + 2). omega arith)
        ∙ get_or-set_other (set l a x) (a + 1) a y d (λ (q : a ≡ a + 1). omega arith)
        ∙ get_or-set_same l a x d (omega arith)

    pub four_1 : get_or (four l a x y z w) (a + 1) d ≡ y
    four_1 =
        get_or-set_other (set (set (set l a x) (a + 1) y) (a + 2) z) (a + 3) (a + 1) w d (λ (q : a + 1 ≡ a + 3). omega arith)
        ∙ get_or-set_other (set (set l a x) (a + 1) y) (a + 2) (a + 1) z d (λ (q : a + 1 ≡ a + 2). omega arith)
        ∙ get_or-set_same (set l a x) (a + 1) y d (omega (arith, length-set l a x))

    pub four_2 : get_or (four l a x y z w) (a + 2) d ≡ z
    four_2 =
        get_or-set_other (set (set (set l a x) (a + 1) y) (a + 2) z) (a + 3) (a + 2) w d (λ (q : a + 2 ≡ a + 3). omega arith)
        ∙ get_or-set_same (set (set l a x) (a + 1) y) (a + 2) z d (omega (arith, length-set (set l a x) (a + 1) y, length-set l a x))

    pub four_3 : get_or (four l a x y z w) (a + 3) d ≡ w
    four_3 =
        get_or-set_same (set (set (set l a x) (a + 1) y) (a + 2) z) (a + 3) w d
        (omega (arith, length-set (set (set l a x) (a + 1) y) (a + 2) z, length-set (set l a x) (a + 1) y, length-set l a x))

-- ---- one corner
module _ (n : List Float) (t : List ℕ) (p : ℕ) (v : ClipVertex) where
  pub numbers_length : length (numbers_with n p v) ≡ length n
  unfolding numbers_with
  numbers_length = four_length n (4 * p) v.position.x v.position.y v.position.z v.separation

  pub tags_length : length (tags_with t p v) ≡ length t
  unfolding tags_with
  tags_length = four_length t (4 * p) v.pair.owner1 v.pair.index1 v.pair.owner2 v.pair.index2

  -- place j is one of corner q's, another corner than p
  numbers_beside : (q j : ℕ) → 4 * q ≤ j → j < 4 * q + 4 → (q < p) ⊎ (p < q) → get_or (numbers_with n p v) j nan ≡ get_or n j nan
  unfolding numbers_with
  numbers_beside q j a b o = four_beside n (4 * p) v.position.x v.position.y v.position.z v.separation j nan (by o)
    where
      by : (q < p) ⊎ (p < q) → (j < 4 * p) ⊎ (4 * p + 4 ≤ j)
      by (inl h) = inl (omega arith)
      by (inr h) = inr (omega arith)

  tags_beside : (q j : ℕ) → 4 * q ≤ j → j < 4 * q + 4 → (q < p) ⊎ (p < q) → get_or (tags_with t p v) j 0 ≡ get_or t j 0
  unfolding tags_with
  tags_beside q j a b o = four_beside t (4 * p) v.pair.owner1 v.pair.index1 v.pair.owner2 v.pair.index2 j 0 (by o)
    where
      by : (q < p) ⊎ (p < q) → (j < 4 * p) ⊎ (4 * p + 4 ≤ j)
      by (inl h) = inl (omega arith)
      by (inr h) = inr (omega arith)

  -- it is read as it was put
  pub same_corner : 4 * p + 4 ≤ length n → 4 * p + 4 ≤ length t → corner_in (numbers_with n p v) (tags_with t p v) p ≡ v
  unfolding corner_in numbers_with tags_with
  same_corner g h =
      rw (
        four_0 n (4 * p) v.position.x v.position.y v.position.z v.separation nan g,
        four_1 n (4 * p) v.position.x v.position.y v.position.z v.separation nan g,
        four_2 n (4 * p) v.position.x v.position.y v.position.z v.separation nan g,
        four_3 n (4 * p) v.position.x v.position.y v.position.z v.separation nan g,
        four_0 t (4 * p) v.pair.owner1 v.pair.index1 v.pair.owner2 v.pair.index2 0 h,
        four_1 t (4 * p) v.pair.owner1 v.pair.index1 v.pair.owner2 v.pair.index2 0 h,
        four_2 t (4 * p) v.pair.owner1 v.pair.index1 v.pair.owner2 v.pair.index2 0 h,
        four_3 t (4 * p) v.pair.owner1 v.pair.index1 v.pair.owner2 v.pair.index2 0 h,
      )

-- ---- several corners
module _ {S : Type 0} (with : S → ℕ → ClipVertex → S) where
  laid_append : (s : S) (p k : ℕ) (vs ws : List ClipVertex) → laid with s p k (vs ++ ws) ≡ laid with (laid with s p k vs) p (k + length vs) ws
  unfolding laid
  laid_append s p k [] ws = rw (add-zero k) refl
  laid_append s p k (v ∷ vs) ws =
      let e : k + length (v ∷ vs) ≡ k + 1 + length vs = omega arith in
      rw e (laid_append (cond (ltb k 64) (with s (p + k) v) s) p (k + 1) vs ws)

  -- what the corners from p + k up to p + 64 do not change
  laid_keeps : {B : Type 0} (f : S → B) (s : S) (p k : ℕ) (l : List ClipVertex)
      → ((s : S) (i : ℕ) (v : ClipVertex) → p + k ≤ i → i < p + 64 → f (with s i v) ≡ f s) → f (laid with s p k l) ≡ f s
  unfolding laid
  laid_keeps f s p k [] keep = refl
  laid_keeps f s p k (v ∷ vs) keep =
      by (dec_lt k 64) (λ (s : S). laid_keeps f s p (k + 1) vs (λ (s : S) (i : ℕ) (v : ClipVertex) a b. keep s i v (omega arith) b))
    where
      by : Dec (k < 64) → ((s : S) → f (laid with s p (k + 1) vs) ≡ f s) → f (laid with (cond (ltb k 64) (with s (p + k) v) s) p (k + 1) vs) ≡ f s
      by (yes h) later = rw (lt-ltb k 64 h) (later (with s (p + k) v) ∙ keep s (p + k) v (omega arith) (omega arith))
      by (no h) later = rw (le-ltb k 64 (omega arith)) (later s)

module _ (n : List Float) (t : List ℕ) (p k : ℕ) (l : List ClipVertex) where
  laid_numbers_length : length (laid numbers_with n p k l) ≡ length n
  laid_numbers_length = laid_keeps numbers_with length n p k l (λ (s : List Float) (i : ℕ) (v : ClipVertex) a b. numbers_length s [] i v)

  laid_tags_length : length (laid tags_with t p k l) ≡ length t
  laid_tags_length = laid_keeps tags_with length t p k l (λ (s : List ℕ) (i : ℕ) (v : ClipVertex) a b. tags_length [] s i v)

  -- the corners beside them stay
  pub laid_beside : (q : ℕ) → (q < p + k) ⊎ (p + 64 ≤ q) → corner_in (laid numbers_with n p k l) (laid tags_with t p k l) q ≡ corner_in n t q
  unfolding corner_in
  laid_beside q o =
      rw (
        number (4 * q) (omega arith) (omega arith),
        number (4 * q + 1) (omega arith) (omega arith),
        number (4 * q + 2) (omega arith) (omega arith),
        number (4 * q + 3) (omega arith) (omega arith),
        tag (4 * q) (omega arith) (omega arith),
        tag (4 * q + 1) (omega arith) (omega arith),
        tag (4 * q + 2) (omega arith) (omega arith),
        tag (4 * q + 3) (omega arith) (omega arith),
      )
    where
      side : (q < p + k) ⊎ (p + 64 ≤ q) → (i : ℕ) → p + k ≤ i → i < p + 64 → (q < i) ⊎ (i < q)
      side (inl h) i a b = inl (omega arith)
      side (inr h) i a b = inr (omega arith)

      number : (j : ℕ) → 4 * q ≤ j → j < 4 * q + 4 → get_or (laid numbers_with n p k l) j nan ≡ get_or n j nan
      number j g h =
          laid_keeps numbers_with (λ (s : List Float). get_or s j nan) n p k l (λ (s : List Float) (i : ℕ) (v : ClipVertex) a b. numbers_beside
          s [] i v q j g h (side o i a b))

      tag : (j : ℕ) → 4 * q ≤ j → j < 4 * q + 4 → get_or (laid tags_with t p k l) j 0 ≡ get_or t j 0
      tag j g h = laid_keeps tags_with (λ (s : List ℕ). get_or s j 0) t p k l (λ (s : List ℕ) (i : ℕ) (v : ClipVertex) a b. tags_beside [] s i
          v q j g h (side o i a b))

-- ---- what `Laid` says of them
module _ (n : List Float) (t : List ℕ) (p k : ℕ) where
  pub lays_none : Laid n t p k [] n t k
  unfolding laid
  lays_none = record { numbers_are = refl; tags_are = refl; counted = sym (add-zero k) }

  -- one corner, where there is room and where there is none
  module _ (v : ClipVertex) where
    pub lays_one : (n' : List Float) (t' : List ℕ) → k < 64 → n' ≡ numbers_with n (p + k) v → t' ≡ tags_with t (p + k) v → Laid n t p k (v ∷ []) n' t' (k + 1)
    unfolding laid
    lays_one n' t' h a b = record { numbers_are = rw (lt-ltb k 64 h) a; tags_are = rw (lt-ltb k 64 h) b; counted = refl }

    pub lays_past : 64 ≤ k → Laid n t p k (v ∷ []) n t (k + 1)
    unfolding laid
    lays_past h = record { numbers_are = rw (le-ltb k 64 h) refl; tags_are = rw (le-ltb k 64 h) refl; counted = refl }

  module _ (l : List ClipVertex) (n' : List Float) (t' : List ℕ) (r : ℕ) (a : Laid n t p k l n' t' r) where
    -- and more behind them
    pub lays_on : (m : List ClipVertex) (n'' : List Float) (t'' : List ℕ) (r' : ℕ) → Laid n' t' p r m n'' t'' r' → Laid n t p k (l ++ m) n'' t'' r'
    lays_on m n'' t'' r' b = record {
      numbers_are = b.numbers_are ∙ rw (a.numbers_are, a.counted) (sym (laid_append numbers_with n p k l m));
      tags_are = b.tags_are ∙ rw (a.tags_are, a.counted) (sym (laid_append tags_with t p k l m));
      counted = omega (arith, b.counted, a.counted, length-append l m);
    }

    pub still_roomy : Roomy n t → Roomy n' t'
    still_roomy room = record {
      numbers_room = ap length a.numbers_are ∙ laid_numbers_length n t p k l ∙ room.numbers_room;
      tags_room = ap length a.tags_are ∙ laid_tags_length n t p k l ∙ room.tags_room;
    }

    pub beside_stays : (q : ℕ) → (q < p + k) ⊎ (p + 64 ≤ q) → corner_in n' t' q ≡ corner_in n t q
    beside_stays q o = rw (a.numbers_are, a.tags_are) (laid_beside n t p k l q o)
