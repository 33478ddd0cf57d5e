-- Lists from which elements are taken one after another, each place filled by the last: what stands where. Assumes nothing.
use Prim.Native.Nat.{ℕ, ◌-◌, ◌<◌}
use mathlib.Core.Path.{◌≡◌, refl, sym, ◌∙◌}
use mathlib.Core.List.{List, [], ◌∷◌}
use native.Mathlib.Omega.{arith}
use lib.Dec.{eqb}
use lib.ListN.{length, set, get_or, length-set}
use lib.Seq.{length-take-le, get_or-take, get_or-set_same, get_or-set_other}
use borrow.Author.Tests.{eqb-true, eqb-false}
use Rattle.manifold.specs.declared.ClipVertex.{ClipVertex}
use Rattle.manifold.specs.Records.{past_vertex, past_point}
use Rattle.reduce_points.specs.Points.{point_of, placed}
use Rattle.reduce_points.proofs.Placed.{length_placed, at_placed}
use Rattle.reduce.specs.Reduce.{without, standing}
use Rattle.reduce.proofs.Cases.{cases}

-- ---- one element taken
-- what stands at i is below n, is not the element taken, and stands at no other place
pub standing_low : (n j i : ℕ) → i < n - 1 → standing n j i < n
unfolding standing
standing_low n j i h = cases (eqb i j) (λ t. rw t (omega arith)) (λ t. rw t (omega arith))

pub standing_other : (n j i : ℕ) → i < n - 1 → j ≡ standing n j i → ⊥
unfolding standing
standing_other n j i h e =
    cases (eqb i j) (λ t. omega (arith, eqb-true i j t, rw t at e)) (λ t. eqb-false i j t (sym (rw t at e)))

pub standing_same : (n j a b : ℕ) → a < n - 1 → b < n - 1 → standing n j a ≡ standing n j b → a ≡ b
unfolding standing
standing_same n j a b h k e =
    cases (eqb a j)
    (λ t. cases (eqb b j) (λ u. omega (arith, eqb-true a j t, eqb-true b j u)) (λ u. omega (arith, rw (t, u) at e)))
    (λ t. cases (eqb b j) (λ u. omega (arith, rw (t, u) at e)) (λ u. rw (t, u) at e))

module _ {A : Type 0} (d : A) where
  pub length_without : (l : List A) (j : ℕ) → length (without d l j) ≡ length l - 1
  unfolding without
  length_without l j =
      let n : length (set l j (get_or l (length l - 1) d)) ≡ length l = length-set l j (get_or l (length l - 1) d) in
      length-take-le (length l - 1) (set l j (get_or l (length l - 1) d)) (omega (arith, n))

  pub at_without : (l : List A) (j i : ℕ) → i < length l - 1 → get_or (without d l j) i d ≡ get_or l (standing (length l) j i) d
  unfolding without standing
  at_without l j i h =
      let x = get_or l (length l - 1) d in
      get_or-take (length l - 1) (set l j x) i d h
      ∙ cases (eqb i j) (λ t. rw (t, eqb-true i j t) (get_or-set_same l j x d (omega (arith, eqb-true i j t))))
      (λ t. rw t (get_or-set_other l j i x d (eqb-false i j t)))

-- ---- several taken
-- what is left of l once these were taken, and which of n elements then stands at i
abbrev pub left : {A : Type 0} → A → List A → List ℕ → List A
left d l [] = l
left d l (j ∷ js) = left d (without d l j) js

abbrev pub stands : ℕ → List ℕ → ℕ → ℕ
stands n [] i = i
stands n (j ∷ js) i = standing n j (stands (n - 1) js i)

pub stands_low : (n : ℕ) (js : List ℕ) (i : ℕ) → i < n - length js → stands n js i < n
stands_low n [] i h = omega arith
stands_low n (j ∷ js) i h = standing_low n j (stands (n - 1) js i) (stands_low (n - 1) js i (omega arith))

module _ {A : Type 0} (d : A) where
  pub length_left : (l : List A) (js : List ℕ) → length (left d l js) ≡ length l - length js
  length_left l [] = omega arith
  length_left l (j ∷ js) = omega (arith, length_left (without d l j) js, length_without d l j)

  pub at_left : (l : List A) (js : List ℕ) (i : ℕ) → i < length l - length js → get_or (left d l js) i d ≡ get_or l (stands (length l) js i) d
  at_left l [] i h = refl
  at_left l (j ∷ js) i h =
      let n = length_without d l j in
      let low : stands (length l - 1) js i < length l - 1 = stands_low (length l - 1) js i (omega arith) in
      at_left (without d l j) js i (omega (arith, n)) ∙ rw n (at_without d l j (stands (length l - 1) js i) low)

-- ---- what is left of n elements at i is read at its place, which lies below n
pub place_low : (n : ℕ) (js : List ℕ) (i place : ℕ) → i < n - length js → place ≡ stands n js i → place < n
place_low n js i place h e = rw e (stands_low n js i h)

pub length_left_of : {A : Type 0} (d : A) (l : List A) (n : ℕ) → length l ≡ n → (js : List ℕ) → length (left d l js) ≡ n - length js
length_left_of d l n m js = omega (arith, m, length_left d l js)

pub read_left : {A : Type 0} (d : A) (l : List A) (n : ℕ) → length l ≡ n → (js : List ℕ) (i place : ℕ) → i < n - length js → place ≡ stands n js i
    → get_or l place d ≡ get_or (left d l js) i d
read_left d l n m js i place h e = rw e (sym (rw m at (at_left d l js i (omega (arith, m)))))

-- and what is left of their points says that very place
pub point_left : (l : List ClipVertex) (n : ℕ) → length l ≡ n → (js : List ℕ) (i place : ℕ) → i < n - length js → place ≡ stands n js i
    → point_of place (get_or l place past_vertex) ≡ get_or (left past_point (placed l) js) i past_point
point_left l n m js i place h e =
    let k : length (placed l) ≡ n = length_placed 0 l ∙ m in
    sym (at_placed past_point l place (omega (arith, m, place_low n js i place h e))) ∙ read_left past_point (placed l) n k js i place h e

-- three taken, as the code says it
pub stands_third : (n j1 j2 j3 i : ℕ) → standing n j1 (standing (n - 1) j2 (standing (n - 2) j3 i)) ≡ stands n (j1 ∷ j2 ∷ j3 ∷ []) i
stands_third n j1 j2 j3 i = let e : n - 2 ≡ n - 1 - 1 = omega arith in rw e
