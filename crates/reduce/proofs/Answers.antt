-- The four searches: a loop that reads each candidate at its place, and what its answer is. Assumes nothing.
use Prim.Native.Nat.{ℕ, suc, ◌+◌, ◌-◌, ◌≤◌, ◌<◌}
use mathlib.Core.Path.{◌≡◌, refl, sym, ap, subst, ◌∙◌}
use mathlib.Core.Bool.{Bool, true, false, cond, false≢true}
use mathlib.Core.Logic.{◌⊎◌, inl, inr, ⊎_elim}
use mathlib.Core.List.{List}
use native.Mathlib.Omega.{arith}
use lib.ListN.{length, get_or}
use Rattle.std.specs.Prelude.{Option, Some, None, unwrap_or}
use Rattle.std.proofs.lemmas.Option.{none-some}
use lib.Ieee.{Float, lt, le, neg}
use Rattle.vector.specs.declared.Vec3.{Vec3}
use Rattle.vector.specs.Rounded.{float, ◌⊗◌}
use Rattle.vector.specs.Scalar.{abs_of}
use Rattle.vector.specs.Arithmetic.{sub_of}
use Rattle.manifold.specs.declared.ClipVertex.{ClipVertex}
use Rattle.manifold.specs.Records.{past_vertex}
use Rattle.manifold.proofs.Polygons.{turns_keep}
use Rattle.reduce_scores.specs.declared.Best.{Best}
use Rattle.reduce_scores.specs.declared.Triangle.{Triangle}
use Rattle.reduce_scores.specs.Images.{largest}
use Rattle.reduce_scores.specs.Scores.{bias, better_pick_of, as_good_of, first_turn, reach_of, spread_of, signed_area_of, outside_of}
use Rattle.reduce_scores.proofs.Over.{over, start_over, turn_over, end_over}
use Rattle.reduce_scores.proofs.Imaged.{length_images}
use Rattle.reduce.specs.declared.held.Images.{Images}
use Rattle.reduce.specs.inner.Held.{images_of}
use Rattle.reduce.specs.Reduce.{first_best, second_best, third_best, fourth_best}
use Rattle.reduce.proofs.Standing.{left, stands, read_left, length_left_of}

-- ---- one turn of each, and where they start
abbrev pub Turn : Type 0
Turn = Best → ℕ → ClipVertex → Best

abbrev pub second_turn : Vec3 → Vec3 → Turn
second_turn normal a best i v = better_pick_of best i (spread_of normal a v)

abbrev pub third_turn : Vec3 → Vec3 → Vec3 → Turn
third_turn normal a ba best i v = as_good_of best i (abs_of (signed_area_of normal a ba v.position))

abbrev pub fourth_turn : Vec3 → Triangle → Turn
fourth_turn normal t best i v = better_pick_of best i (outside_of normal t v.position)

abbrev pub nothing : Float → Best
nothing score = record { index = None; score = score }

-- ---- the loop: over what is left of the images once those at js were taken, each read at its place
pub record Searching (f : Turn) (start : Best) (images : Images) (js : List ℕ) (best : Best) (i : ℕ) : Type 0 where
  pub so_far : best ≡ over f start (left past_vertex (images_of images) js) i

pub sized : (images : Images) → length (images_of images) ≡ images.n
sized images = length_images images.normal images.corners.now.numbers images.corners.now.tags images.from images.n

module _ (f : Turn) (start : Best) (images : Images) (js : List ℕ) where
  pub search_begins : Searching f start images js start 0
  search_begins = record { so_far = start_over f start (left past_vertex (images_of images) js) }

  pub search_turn : (s next : Best) (i place : ℕ) (v : ClipVertex) → Searching f start images js s i → i < images.n - length js
      → place ≡ stands images.n js i → v ≡ get_or (images_of images) place past_vertex → next ≡ f s i v → Searching f start images js next (i + 1)
  search_turn s next i place v p h e q r = record {
    so_far =
        turn_over f start (left past_vertex (images_of images) js) s next i v p.so_far
        (q ∙ read_left past_vertex (images_of images) images.n (sized images) js i place h e) r;
  }

  pub search_end : (s : Best) (i : ℕ) → Searching f start images js s i → i ≤ images.n - length js → images.n - length js ≤ i
      → s ≡ over f start (left past_vertex (images_of images) js) (length (left past_vertex (images_of images) js))
  search_end s i p h k =
      end_over f start (left past_vertex (images_of images) js) s i (images.n - length js)
      (length_left_of past_vertex (images_of images) images.n (sized images) js) h k p.so_far

-- the end of the third and of the fourth search, whose turns read what a call gave
pub third_end : (tolerance : Float) (normal a b d : Vec3) (l : List ClipVertex) (s : Best) → d ≡ sub_of b a → s ≡ over (third_turn normal a d)
    (nothing tolerance) l (length l)
    → s ≡ third_best normal tolerance a b l
unfolding third_best
third_end tolerance normal a b d l s e h = h ∙ ap (λ (x : Vec3). over (third_turn normal a x) (nothing tolerance) l (length l)) e

pub fourth_end : (tolerance : Float) (normal : Vec3) (t u : Triangle) (l : List ClipVertex) (s : Best) → u ≡ t
    → s ≡ over (fourth_turn normal u) (nothing tolerance) l (length l)
    → s ≡ fourth_best normal tolerance t l
unfolding fourth_best
fourth_end tolerance normal t u l s e h = h ∙ ap (λ (x : Triangle). over (fourth_turn normal x) (nothing tolerance) l (length l)) e

-- ---- the answer: where each turn keeps the best or takes its own index, it is the start, or an index below the length
abbrev pub Takes : Turn → Type 0
Takes f = (s : Best) (i : ℕ) (v : ClipVertex) → (f s i v ≡ s) ⊎ ((f s i v).index ≡ Some i)

-- an index below n
abbrev Below : Option ℕ → ℕ → Type 0
Below None n = ⊥
Below (Some j) n = j < n

below_next : (o : Option ℕ) (n : ℕ) → Below o n → Below o (suc n)
below_next None n h = elim h [ ]
below_next (Some j) n h = omega arith

below_read : (o : Option ℕ) (n : ℕ) → Below o n → unwrap_or o 0 < n
below_read None n h = elim h [ ]
below_read (Some j) n h = h

pub answer : (f : Turn) → Takes f → (start : Best) (l : List ClipVertex)
    → (over f start l (length l) ≡ start) ⊎ Below (over f start l (length l)).index (length l)
answer f takes start l =
    turns_keep (λ (s : Best) (i : ℕ). f s i (get_or l i past_vertex)) (λ (s : Best) (i : ℕ). (s ≡ start) ⊎ Below s.index i) keep start (inl refl) (length l)
  where
    keep : (s : Best) (i : ℕ) → (s ≡ start) ⊎ Below s.index i
        → (f s i (get_or l i past_vertex) ≡ start) ⊎ Below (f s i (get_or l i past_vertex)).index (suc i)
    keep s i h =
        ⊎_elim (λ e. ⊎_elim (λ q. inl (e ∙ q)) (λ b. inr (rw e (below_next s.index i b))) h) (λ e. inr (rw e (omega arith)))
        (takes s i (get_or l i past_vertex))

takes_either : (q : Bool) (s next : Best) (i : ℕ) → next.index ≡ Some i → (cond q next s ≡ s) ⊎ ((cond q next s).index ≡ Some i)
takes_either true s next i e = inr e
takes_either false s next i e = inl refl

takes_better : (s : Best) (i : ℕ) (score : Float) → (better_pick_of s i score ≡ s) ⊎ ((better_pick_of s i score).index ≡ Some i)
unfolding better_pick_of
takes_better s i score = takes_either (lt s.score (bias ⊗ score)) s (record { index = Some i; score = score }) i refl

takes_as_good : (s : Best) (i : ℕ) (score : Float) → (as_good_of s i score ≡ s) ⊎ ((as_good_of s i score).index ≡ Some i)
unfolding as_good_of
takes_as_good s i score = takes_either (le s.score (bias ⊗ score)) s (record { index = Some i; score = score }) i refl

passed_over : (q : Bool) (s next : Best) (i : ℕ) → (next ≡ s) ⊎ (next.index ≡ Some i) → (cond q s next ≡ s) ⊎ ((cond q s next).index ≡ Some i)
passed_over true s next i e = inl refl
passed_over false s next i e = e

takes_first : (far : Float) (direction : Vec3) → Takes (first_turn far direction)
unfolding first_turn
takes_first far direction s i v = passed_over (lt far v.separation) s (better_pick_of s i (reach_of direction v)) i
    (takes_better s i (reach_of direction v))

-- what is found lies below the length
found_low : (f : Turn) → Takes f → (score : Float) (l : List ClipVertex) (r : Best) → r ≡ over f (nothing score) l (length l) → (j : ℕ) → r.index ≡ Some j
    → j < length l
found_low f takes score l r e j t =
    ⊎_elim (λ q. absurd (none-some j (sym (ap (λ (b : Best). b.index) (e ∙ q)) ∙ t)))
    (λ b. subst (λ (o : Option ℕ). Below o (length l)) (sym (ap (λ (b : Best). b.index) e) ∙ t) b) (answer f takes (nothing score) l)

pub first_low : (far : Float) (direction : Vec3) (l : List ClipVertex) (r : Best) → r ≡ first_best far direction l → (j : ℕ) → r.index ≡ Some j
    → j < length l
unfolding first_best
first_low far direction = found_low (first_turn far direction) (takes_first far direction) (neg largest)

pub third_low : (tolerance : Float) (normal a b : Vec3) (l : List ClipVertex) (r : Best) → r ≡ third_best normal tolerance a b l → (j : ℕ)
    → r.index ≡ Some j → j < length l
unfolding third_best
third_low tolerance normal a b =
    found_low (third_turn normal a (sub_of b a)) (λ s i v. takes_as_good s i (abs_of (signed_area_of normal a (sub_of b a) v.position))) tolerance

pub fourth_low : (tolerance : Float) (normal : Vec3) (t : Triangle) (l : List ClipVertex) (r : Best)
    → r ≡ fourth_best normal tolerance t l → (j : ℕ) → r.index ≡ Some j → j < length l
unfolding fourth_best
fourth_low tolerance normal t = found_low (fourth_turn normal t) (λ s i v. takes_better s i (outside_of normal t v.position)) tolerance

pub second_found : (normal a : Vec3) (l : List ClipVertex) (r : Best) → r ≡ second_best normal a l → (j : ℕ) → r.index ≡ Some j → j < length l
unfolding second_best
second_found normal a = found_low (second_turn normal a) (λ s i v. takes_better s i (spread_of normal a v)) (float 0)

-- the second search starts below a tolerance above 0, so that a score that is not below it was found
module _ (tolerance : Float) (positive : lt (float 0) tolerance ≡ true) (normal a : Vec3) (l : List ClipVertex) (r : Best)
    (e : r ≡ second_best normal a l) where
  second_answer : (r ≡ nothing (float 0)) ⊎ Below r.index (length l)
  unfolding second_best
  second_answer = rw e (answer (second_turn normal a) (λ s i v. takes_better s i (spread_of normal a v)) (nothing (float 0)) l)

  pub second_low : lt r.score tolerance ≡ false → unwrap_or r.index 0 < length l
  second_low t =
      ⊎_elim (λ q. absurd (false≢true (sym t ∙ ap (λ (b : Best). lt b.score tolerance) q ∙ positive))) (λ b. below_read r.index (length l) b) second_answer

  pub second_none : r.index ≡ None → lt r.score tolerance ≡ true
  second_none t =
      ⊎_elim (λ q. ap (λ (b : Best). lt b.score tolerance) q ∙ positive)
      (λ b. absurd (subst (λ (o : Option ℕ). Below o (length l)) t b)) second_answer
