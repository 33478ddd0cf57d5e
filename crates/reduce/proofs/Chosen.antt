-- The points are at most four, each is the candidate at its place, the places lie below the count and differ, and four or fewer are all kept. Assumes
-- nothing.
use Prim.Native.Nat.{ℕ, zero, suc, ◌-◌, ◌≤◌, ◌<◌}
use mathlib.Core.Path.{◌≡◌, refl, sym, ap, subst, ◌∙◌}
use mathlib.Core.Bool.{Bool, true, false, cond}
use mathlib.Core.List.{List, [], ◌∷◌, map}
use native.Mathlib.Nat.{not-suc-le-zero}
use native.Mathlib.Omega.{arith}
use lib.Dec.{eqb, leb}
use lib.ListN.{length, get_or, length-append, length-map, get_or-append}
use lib.Seq.{ext_get_or, get_or_at}
use lib.Ieee.{Float, lt}
use Rattle.std.specs.Prelude.{Option, Some, None, unwrap_or}
use borrow.Author.Tests.{eqb-true, eqb-false, leb-true}
use Rattle.vector.specs.declared.Vec3.{Vec3}
use Rattle.vector.specs.Rounded.{float}
use Rattle.manifold.specs.declared.ClipVertex.{ClipVertex}
use Rattle.manifold.specs.declared.Point.{Point}
use Rattle.manifold.specs.Records.{past_vertex, past_point}
use Rattle.reduce_scores.specs.Scores.{triangle_of}
use Rattle.reduce_points.specs.Points.{point_of, placed}
use Rattle.reduce_points.proofs.Placed.{length_placed, at_placed, placed_map}
use Rattle.reduce.specs.Chosen.{Chosen}
use Rattle.reduce.specs.Reduce.{without, standing, taken, tolerance, first_best, second_best, third_best, fourth_best, fourth_picks, third_picks}
use Rattle.reduce.specs.Reduce.{second_picks, first_picks, found_then, all_or_picked, points_of, numbered, places_of}
use Rattle.reduce.proofs.Cases.{cases}
use Rattle.reduce.proofs.Standing.{standing_low, standing_other, standing_same, length_without, at_without}
use Rattle.reduce.proofs.Answers.{first_low, second_low, third_low, fourth_low}
use Rattle.reduce.proofs.Picks.{all_kept}

-- ---- the picks: at most k, each index below what is then left of n
data Picked : ℕ → List ℕ → ℕ → Type 0 where
  none : {k n : ℕ} → Picked k [] n
  one : {k n j : ℕ} {js : List ℕ} → j < n → Picked k js (n - 1) → Picked (suc k) (j ∷ js) n

picked_few : {k n : ℕ} {js : List ℕ} → Picked k js n → length js ≤ k
picked_few none = omega arith
picked_few (one h p) = let q = picked_few p in omega arith

-- what a search that may find nothing picks
where_found : (found : Option ℕ) (k n : ℕ) (js : ℕ → List ℕ) → ((j : ℕ) → found ≡ Some j → j < n) → ((j : ℕ) → Picked k (js j) (n - 1))
    → Picked (suc k) (found_then found js) n
where_found (Some j) k n js h p = one (h j refl) (p j)
where_found None k n js h p = none

where_enough : (short : Bool) (k n j : ℕ) (js : List ℕ) → (short ≡ false → j < n) → Picked k js (n - 1) → Picked (suc k) (cond short [] (j ∷ js)) n
where_enough true k n j js h p = none
where_enough false k n j js h p = one (h refl) p

module _ (far : Float) (positive : lt (float 0) (tolerance far) ≡ true) (normal : Vec3) where
  fourth_picked : (v1 v2 v3 : ClipVertex) (l : List ClipVertex) (n : ℕ) → length l ≡ n → Picked 1 (fourth_picks far normal v1 v2 v3 l) n
  unfolding fourth_picks
  fourth_picked v1 v2 v3 l n e =
      let t = triangle_of normal v1.position v2.position v3.position in
      let best = fourth_best normal (tolerance far) t l in
      where_found best.index 0 n (λ j. []) (λ j h. rw (← e) (fourth_low (tolerance far) normal t l best refl j h)) (λ j. none)

  third_picked : (v1 v2 : ClipVertex) (l : List ClipVertex) (n : ℕ) → length l ≡ n → Picked 2 (third_picks far normal v1 v2 l) n
  unfolding third_picks
  third_picked v1 v2 l n e =
      let best = third_best normal (tolerance far) v1.position v2.position l in
      where_found best.index 1 n (λ j. fourth_picks far normal v1 v2 (get_or l j past_vertex) (without past_vertex l j))
      (λ j h. rw (← e) (third_low (tolerance far) normal v1.position v2.position l best refl j h))
      (λ j. fourth_picked v1 v2 (get_or l j past_vertex) (without past_vertex l j) (n - 1) (length_without past_vertex l j ∙ ap (λ (m : ℕ). m - 1) e))

  second_picked : (v1 : ClipVertex) (l : List ClipVertex) (n : ℕ) → length l ≡ n → Picked 3 (second_picks far normal v1 l) n
  unfolding second_picks
  second_picked v1 l n e =
      let best = second_best normal v1.position l in
      let j = unwrap_or best.index 0 in
      let rest = without past_vertex l j in
      where_enough (lt best.score (tolerance far)) 2 n j (third_picks far normal v1 (get_or l j past_vertex) rest)
      (λ h. rw (← e) (second_low (tolerance far) positive normal v1.position l best refl h))
      (third_picked v1 (get_or l j past_vertex) rest (n - 1) (length_without past_vertex l j ∙ ap (λ (m : ℕ). m - 1) e))

  first_picked : (direction : Vec3) (l : List ClipVertex) → Picked 4 (first_picks far direction normal l) (length l)
  unfolding first_picks
  first_picked direction l =
      let best = first_best far direction l in
      where_found best.index 3 (length l) (λ j. second_picks far normal (get_or l j past_vertex) (without past_vertex l j))
      (first_low far direction l best refl)
      (λ j. second_picked (get_or l j past_vertex) (without past_vertex l j) (length l - 1) (length_without past_vertex l j))

-- ---- what is taken
module _ {A : Type 0} (d : A) where
  length_taken : (js : List ℕ) (l : List A) → length (taken d js l) ≡ length js
  unfolding taken
  length_taken [] l = refl
  length_taken (j ∷ js) l = ap suc (length_taken js (without d l j))

-- taking comes to the same before a map and after it
module _ {A B : Type 0} (f : A → B) (a : A) (b : B) where
  pub at_map : (l : List A) (i : ℕ) → i < length l → get_or (map f l) i b ≡ f (get_or l i a)
  at_map [] i h = absurd (not-suc-le-zero h)
  at_map (x ∷ xs) zero h = refl
  at_map (x ∷ xs) (suc i) h = at_map xs i (omega arith)

  map_without : (l : List A) (j : ℕ) → without b (map f l) j ≡ map f (without a l j)
  map_without l j =
      let m : length (map f l) ≡ length l = length-map l f in
      let w : length (without b (map f l) j) ≡ length l - 1 = length_without b (map f l) j ∙ ap (λ (n : ℕ). n - 1) m in
      let u : length (without a l j) ≡ length l - 1 = length_without a l j in
      ext_get_or b (without b (map f l) j) (map f (without a l j)) (w ∙ sym (length-map (without a l j) f ∙ u))
      (λ i h.
      at_without b (map f l) j i (omega (arith, w, m))
      ∙ (rw m (at_map l (standing (length l) j i) (standing_low (length l) j i (omega (arith, w))))
      ∙ sym (at_map (without a l j) i (omega (arith, w, u)) ∙ ap f (at_without a l j i (omega (arith, w))))))

  map_taken : {k : ℕ} {js : List ℕ} (l : List A) {n : ℕ} → Picked k js n → length l ≡ n → taken b js (map f l) ≡ map f (taken a js l)
  unfolding taken
  map_taken l none e = refl
  map_taken l (one {j = j} {js = js} h p) e =
      let r = map_taken (without a l j) p (length_without a l j ∙ ap (λ (m : ℕ). m - 1) e) in
      rw (at_map l j (omega (arith, e)), map_without l j, r)

-- ---- the places
length_numbered : (n : ℕ) → length (numbered n) ≡ n
unfolding numbered
length_numbered zero = refl
length_numbered (suc n) = omega (arith, length-append (numbered n) (n ∷ []), length_numbered n)

at_numbered : (n i : ℕ) → i < n → get_or (numbered n) i 0 ≡ i
unfolding numbered
at_numbered zero i h = omega arith
at_numbered (suc n) i h =
    let m : length (numbered n) ≡ n = length_numbered n in
    cases (eqb i n) (λ t. rw (eqb-true i n t) (get_or_at (numbered n) n [] 0 n m))
    (λ t. get_or-append (numbered n) (n ∷ []) 0 i (omega (arith, m, eqb-false i n t)) ∙ at_numbered n i (omega (arith, eqb-false i n t)))

-- points with their places are the images at 0, 1, ..
all_places : (l : List ClipVertex) → placed l ≡ map (λ (j : ℕ). point_of j (get_or l j past_vertex)) (numbered (length l))
all_places l =
    let f : ℕ → Point = λ j. point_of j (get_or l j past_vertex) in
    let m : length (numbered (length l)) ≡ length l = length_numbered (length l) in
    let k : length (placed l) ≡ length l = length_placed 0 l in
    ext_get_or past_point (placed l) (map f (numbered (length l))) (k ∙ sym (length-map (numbered (length l)) f ∙ m))
    (λ i h.
    let low : i < length l = omega (arith, k) in
    at_placed past_point l i low ∙ sym (at_map f 0 past_point (numbered (length l)) i (omega (arith, m, low)) ∙ ap f (at_numbered (length l) i low)))

-- ---- what holds of each of a list of places, and what it is that none is there twice
abbrev Every : (ℕ → Type 0) → List ℕ → Type 0
Every P m = (i : ℕ) → i < length m → P (get_or m i 0)

abbrev Once : List ℕ → Type 0
Once m = (a b : ℕ) → a < length m → b < length m → get_or m a 0 ≡ get_or m b 0 → a ≡ b

module _ (m : List ℕ) (j : ℕ) where
  low_in : (i : ℕ) → i < length (without 0 m j) → i < length m - 1
  low_in i h = omega (arith, length_without 0 m j)

  every_without : (P : ℕ → Type 0) → Every P m → Every P (without 0 m j)
  every_without P h i k = rw (at_without 0 m j i (low_in i k)) (h (standing (length m) j i) (standing_low (length m) j i (low_in i k)))

  once_without : Once m → Once (without 0 m j)
  once_without h a b p q e =
      let n = length m in
      let at : get_or m (standing n j a) 0 ≡ get_or m (standing n j b) 0 = sym (at_without 0 m j a (low_in a p)) ∙ (e ∙ at_without 0 m j b (low_in b q)) in
      standing_same n j a b (low_in a p) (low_in b q)
      (h (standing n j a) (standing n j b) (standing_low n j a (low_in a p)) (standing_low n j b (low_in b q)) at)

  -- what was taken is not among the others
  gone : Once m → j < length m → Every (λ (x : ℕ). get_or m j 0 ≡ x → ⊥) (without 0 m j)
  gone h low i k e =
      standing_other (length m) j i (low_in i k)
      (h j (standing (length m) j i) low (standing_low (length m) j i (low_in i k)) (e ∙ at_without 0 m j i (low_in i k)))

  one_less : (n : ℕ) → length m ≡ n → length (without 0 m j) ≡ n - 1
  one_less n e = length_without 0 m j ∙ ap (λ (x : ℕ). x - 1) e

every_taken : {k : ℕ} {js : List ℕ} (P : ℕ → Type 0) (m : List ℕ) {n : ℕ} → Picked k js n → length m ≡ n → Every P m → Every P (taken 0 js m)
unfolding taken
every_taken P m none e h i k = absurd (not-suc-le-zero k)
every_taken P m (one {j = j} low p) e h zero k = h j (omega (arith, e))
every_taken P m {n} (one {j = j} low p) e h (suc i) k = every_taken P (without 0 m j) p (one_less m j n e) (every_without m j P h) i (omega arith)

once_taken : {k : ℕ} {js : List ℕ} (m : List ℕ) {n : ℕ} → Picked k js n → length m ≡ n → Once m → Once (taken 0 js m)
unfolding taken
once_taken m none e h a b p q r = omega arith
once_taken m (one low t) e h zero zero p q r = refl
once_taken m {n} (one {j = j} low t) e h zero (suc b) p q r =
    absurd (every_taken (λ (x : ℕ). get_or m j 0 ≡ x → ⊥) (without 0 m j) t (one_less m j n e) (gone m j h (omega (arith, e))) b (omega arith) r)
once_taken m {n} (one {j = j} low t) e h (suc a) zero p q r =
    absurd (every_taken (λ (x : ℕ). get_or m j 0 ≡ x → ⊥) (without 0 m j) t (one_less m j n e) (gone m j h (omega (arith, e))) a (omega arith) (sym r))
once_taken m {n} (one {j = j} low t) e h (suc a) (suc b) p q r =
    ap suc (once_taken (without 0 m j) t (one_less m j n e) (once_without m j h) a b (omega arith) (omega arith) r)

-- ---- what is kept
module _ (js : List ℕ) (n : ℕ) (p : Picked 4 js n) where
  few_kept : {A : Type 0} (d : A) (l : List A) → length (all_or_picked d js l) ≤ 4
  unfolding all_or_picked
  few_kept d l =
      cases (leb (length l) 4) (λ t. rw t (leb-true (length l) 4 t)) (λ t. rw (t, length_taken d js l) (picked_few p))

  map_kept : {A B : Type 0} (f : A → B) (a : A) (b : B) (l : List A) → length l ≡ n → all_or_picked b js (map f l) ≡ map f (all_or_picked a js l)
  unfolding all_or_picked
  map_kept f a b l e =
      cases (leb (length l) 4) (λ t. rw (length-map l f, t)) (λ t. rw (length-map l f, t) (map_taken f a b l p e))

  every_kept : (P : ℕ → Type 0) (m : List ℕ) → length m ≡ n → Every P m → Every P (all_or_picked 0 js m)
  unfolding all_or_picked
  every_kept P m e h = cases (leb (length m) 4) (λ t. rw t h) (λ t. rw t (every_taken P m p e h))

  once_kept : (m : List ℕ) → length m ≡ n → Once m → Once (all_or_picked 0 js m)
  unfolding all_or_picked
  once_kept m e h = cases (leb (length m) 4) (λ t. rw t h) (λ t. rw t (once_taken m p e h))

-- ---- the theorem, at any speculative distance whose square is above 0
-- the picks are made by the scores of l, and take from images that are as many
pub chosen : (far : Float) → lt (float 0) (tolerance far) ≡ true → (direction normal : Vec3) (l images : List ClipVertex) → length images ≡ length l
    → let picks = first_picks far direction normal l in Chosen images (points_of picks images) (places_of picks (length images))
unfolding points_of places_of
chosen far positive direction normal l images as_many =
    let n = length images in
    let js = first_picks far direction normal l in
    let p : Picked 4 js n = subst (Picked 4 js) (sym as_many) (first_picked far positive normal direction l) in
    let at : ℕ → Point = λ j. point_of j (get_or images j past_vertex) in
    let m : length (numbered n) ≡ n = length_numbered n in
    let once : Once (numbered n) = λ a b h k e. sym (at_numbered n a (omega (arith, m))) ∙ (e ∙ at_numbered n b (omega (arith, m))) in
    let low : Every (λ (x : ℕ). x < n) (numbered n) = λ i h. rw (at_numbered n i (omega (arith, m))) (omega (arith, m)) in
    record {
      few = few_kept js n p past_point (placed images);
      same = ap (all_or_picked past_point js) (all_places images) ∙ map_kept js n p at 0 past_point (numbered n) m;
      below = every_kept js n p (λ (x : ℕ). x < n) (numbered n) m low;
      apart = λ i j h k e. let q = once_kept js n p (numbered n) m once i j (omega arith) k e in omega arith;
      all = λ h. sym (all_kept js images h);
    }

-- points that are carried are the points of the carried images
pub points_map : (far : Float) → lt (float 0) (tolerance far) ≡ true → (direction normal : Vec3) (l : List ClipVertex) (g : ClipVertex → ClipVertex)
    (h : Point → Point)
    → ((j : ℕ) (v : ClipVertex) → h (point_of j v) ≡ point_of j (g v))
    → let picks = first_picks far direction normal l in map h (points_of picks l) ≡ points_of picks (map g l)
unfolding points_of
points_map far positive direction normal l g h e =
    let js = first_picks far direction normal l in
    sym (map_kept js (length l) (first_picked far positive normal direction l) h past_point past_point (placed l) (length_placed 0 l))
    ∙ ap (all_or_picked past_point js) (placed_map g h e 0 l)
