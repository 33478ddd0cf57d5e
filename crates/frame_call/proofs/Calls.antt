-- The call that a frame asks for: sizes beyond H1 are refused whatever the numbers are, so that numbers which no accepted hull has need not be taken.
-- Assumes nothing.
use Prim.Native.Nat.{ℕ, ◌+◌, ◌-◌, ◌<◌, ◌≤◌}
use mathlib.Core.Path.{◌≡◌, sym, ap, ◌∙◌}
use mathlib.Core.Bool.{Bool, true, false, cond}
use mathlib.Core.List.{List}
use native.Mathlib.Omega.{arith}
use lib.Dec.{eqb, leb}
use lib.ListN.{length, take, drop}
use lib.Seq.{take_at}
use lib.IntN.{ℤ, pos}
use lib.Signed.{lt_z}
use lib.Ieee.{Float}
use borrow.Author.Tests.{leb-true, leb-false, ne_eqb}
use Rattle.vector.specs.declared.Transform.{Transform}
use Rattle.manifold.specs.declared.SatCache.{SatCache}
use Rattle.manifold.specs.Records.{empty_contact}
use Rattle.hull_links.specs.declared.HullSize.{HullSize}
use Rattle.hull_links.specs.Links.{link_count, number_count}
use Rattle.hull_links.specs.Rules.{h1}
use Rattle.hull_links.proofs.Tests.{cases, breaks}
use Rattle.hull_links.proofs.Facts.{unfit}
use Rattle.hull.specs.Rule8.{broken_rule}
use Rattle.collide_refusals.specs.Refusals.{refusal_of}
use Rattle.collide_outcome.specs.Answers.{accepted, refused_of}
use Rattle.collide.specs.Call.{collide_of}
use Rattle.lists.proofs.Written.{front, wrote_length}
use Rattle.frame_decode.specs.Fields.{size_at, transform_at, capacity_at, cache_at}
use Rattle.frame_decode.specs.Hulls.{links_from, planes_at, hull_length, numbers_taken, numbers_of, links_of, Taken}
use Rattle.frame_decode.proofs.Takes.{taken_all, taken_length, taken_none}
use Rattle.frame_call.specs.Requests.{Sized, hull_a, hull_b, begins_b, call_of}

-- more than 902 numbers: more than 128 vertices or faces
too_large : (s : HullSize) (n : List Float) (l : List ℕ) → 902 < number_count s → h1 s n l ≡ false
too_large s n l h = unfit s n l (λ r w. let v = r.v_high in let f = r.f_high in absurd (omega arith))

-- such a hull breaks a rule
pub breaks_h1 : (s : HullSize) (n : List Float) (l : List ℕ) → 902 < number_count s → eqb (broken_rule s n l) 0 ≡ false
unfolding broken_rule
breaks_h1 s n l h = ap (λ k. eqb k 0) (sym (breaks 1 (h1 s n l) _ (too_large s n l h)))

module _ (s : HullSize) (l : List ℕ) (t : HullSize) (k : List ℕ) (x : Transform) (capacity : ℤ) (cache : SatCache) where
  -- a call with this refusal
  refused : (n m : List Float) (number : ℕ) → refusal_of s n l t m k x cache ≡ number → (number ≡ 0 → ⊥)
      → collide_of s n l t m k x capacity cache ≡ cond (lt_z capacity (pos 4)) (accepted 0 empty_contact cache) (refused_of number cache)
  unfolding collide_of
  refused n m number e z = rw (e, ne_eqb number 0 z)

  -- the numbers of hull A do not matter where it breaks a rule with any numbers; then those of hull B
  same_a : (n n' m : List Float) → eqb (broken_rule s n l) 0 ≡ false → eqb (broken_rule s n' l) 0 ≡ false
      → collide_of s n l t m k x capacity cache ≡ collide_of s n' l t m k x capacity cache
  unfolding refusal_of
  same_a n n' m e e' =
      let one : ◌≡◌ {A = ℕ} 1 0 → ⊥ = λ z. absurd (omega arith) in
      refused n m 1 (rw e) one ∙ sym (refused n' m 1 (rw e') one)

  not_none : (a : Bool) → ◌≡◌ {A = ℕ} (cond a 2 1) 0 → ⊥
  not_none true z = absurd (omega arith)
  not_none false z = absurd (omega arith)

  same_b : (n m m' : List Float) → eqb (broken_rule t m k) 0 ≡ false → eqb (broken_rule t m' k) 0 ≡ false
      → collide_of s n l t m k x capacity cache ≡ collide_of s n l t m' k x capacity cache
  unfolding refusal_of
  same_b n m m' e e' =
      let ok = eqb (broken_rule s n l) 0 in
      refused n m (cond ok 2 1) (rw e) (not_none ok) ∙ sym (refused n m' (cond ok 2 1) (rw e') (not_none ok))

  -- so what is taken of the numbers does as well as all of them
  taken_a : (f : List ℕ) (at : ℕ) (m : List Float) → collide_of s (numbers_taken f at s) l t m k x capacity cache ≡ collide_of s (numbers_of f at s)
      l t m k x capacity cache
  taken_a f at m =
      cases (leb (number_count s) 902) (λ e. ap (λ n. collide_of s n l t m k x capacity cache) (taken_all f at s (leb-true (number_count s) 902 e)))
      (λ e. let h = leb-false (number_count s) 902 e in same_a (numbers_taken f at s) (numbers_of f at s) m (breaks_h1 s _ l h) (breaks_h1 s _ l h))

  taken_b : (f : List ℕ) (at : ℕ) (n : List Float) → collide_of s n l t (numbers_taken f at t) k x capacity cache ≡ collide_of s n l t
      (numbers_of f at t) k x capacity cache
  taken_b f at n =
      cases (leb (number_count t) 902) (λ e. ap (λ m. collide_of s n l t m k x capacity cache) (taken_all f at t (leb-true (number_count t) 902 e)))
      (λ e. let h = leb-false (number_count t) 902 e in same_b n (numbers_taken f at t) (numbers_of f at t) (breaks_h1 t _ k h) (breaks_h1 t _ k h))

-- n places hold what is taken of the numbers where they hold all of them, or where these are too many to be taken
pub room_holds : (f : List ℕ) (at : ℕ) (s : HullSize) {n : ℕ} → (number_count s ≤ 902 → number_count s ≤ n) → length (numbers_taken f at s) ≤ n
room_holds f at s fits =
    cases (leb (number_count s) 902)
    (λ e. let most = leb-true (number_count s) 902 e in let long = taken_length f at s most in let room = fits most in omega arith)
    (λ e. let none = ap length (taken_none f at s (leb-false (number_count s) 902 e)) in omega arith)

-- the numbers went into a room that holds what is taken of them
module _ {f : List ℕ} {at : ℕ} {s : HullSize} {m m' : List Float} {r : ℕ} (taken : Taken f at s m r m') (room : length (numbers_taken f at s) ≤ length m) where
  pub taken_inside : r ≤ length m'
  taken_inside = let count = taken.count in let same = wrote_length taken.numbers in omega arith

  -- those that were taken stand first
  pub taken_first : take r m' ≡ numbers_taken f at s
  taken_first =
      ap (take r) (front taken.numbers room)
      ∙ take_at (numbers_taken f at s) (drop (length (numbers_taken f at s)) m) r (sym taken.count)

  pub taken_long : r ≡ length (take r m')
  taken_long = taken.count ∙ sym (ap length taken_first)

-- the links where they stand in the frame
pub links_at : (f : List ℕ) (at : ℕ) (s : HullSize) {from to : ℕ} → from ≡ links_from s at → to ≡ planes_at s at
    → take (to - from) (drop from f) ≡ links_of f at s
unfolding links_of
links_at f at s {from} {to} e g = let long : to - from ≡ link_count s = omega arith in ap (λ n. take n (drop from f)) long
    ∙ ap (λ i. take (link_count s) (drop i f)) e

module _ {f : List ℕ} {a b : HullSize} {at : ℕ} (sized : Sized f a at b) where
  -- hull A ends before the frame does, and so does what stands before it
  pub a_inside : 41 + hull_length a ≤ length f
  a_inside = let begins = sized.at_is in let whole = sized.whole in omega arith

  pub head_inside : 41 ≤ length f
  head_inside = let inside = a_inside in omega arith

  -- the call with what the frame holds
  pub call_is : {n m : List Float} {l k : List ℕ} {x : Transform} {z : ℤ} {cache : SatCache} → n ≡ numbers_taken f 41 a → l ≡ links_of f 41 a
      → m ≡ numbers_taken f at b → k ≡ links_of f at b
      → x ≡ transform_at f 13 → z ≡ capacity_at f 1 → cache ≡ cache_at f 5 → collide_of a n l b m k x z cache ≡ call_of f
  unfolding call_of
  call_is {n} {m} {l} {k} {x} {z} {cache} en el em ek ex ez ec =
      let eb : at ≡ begins_b f = sized.at_is ∙ ap (λ s. 41 + hull_length s) sized.a_is in
      let e2 : b ≡ hull_b f = sized.b_is ∙ ap (size_at f) eb in
      ap (λ v. collide_of a v l b m k x z cache) en
      ∙ (taken_a a l b k x z cache f 41 m
      ∙ (ap (λ v. collide_of a (numbers_of f 41 a) l b v k x z cache) em
      ∙ (taken_b a l b k x z cache f at (numbers_of f 41 a)
      ∙ (ap (λ v. collide_of a (numbers_of f 41 a) v b (numbers_of f at b) k x z cache) el
      ∙ (ap (λ v. collide_of a (numbers_of f 41 a) (links_of f 41 a) b (numbers_of f at b) v x z cache) ek
      ∙ (ap (λ v. collide_of a (numbers_of f 41 a) (links_of f 41 a) b (numbers_of f at b) (links_of f at b) v z cache) ex
      ∙ (ap (λ v. collide_of a (numbers_of f 41 a) (links_of f 41 a) b (numbers_of f at b) (links_of f at b) (transform_at f 13) v cache) ez
      ∙ (ap (λ v. collide_of a (numbers_of f 41 a) (links_of f 41 a) b (numbers_of f at b) (links_of f at b) (transform_at f 13) (capacity_at f 1) v) ec
      ∙ (ap (λ s. collide_of s (numbers_of f 41 s) (links_of f 41 s) b (numbers_of f at b) (links_of f at b) (transform_at f 13) (capacity_at f 1)
      (cache_at f 5)) sized.a_is
      ∙ (ap (λ p. collide_of (hull_a f) (numbers_of f 41 (hull_a f)) (links_of f 41 (hull_a f)) b (numbers_of f p b) (links_of f p b) (transform_at f 13)
      (capacity_at f 1) (cache_at f 5)) eb
      ∙ ap (λ s. collide_of (hull_a f) (numbers_of f 41 (hull_a f)) (links_of f 41 (hull_a f)) s (numbers_of f (begins_b f) s) (links_of f (begins_b f) s)
      (transform_at f 13) (capacity_at f 1) (cache_at f 5)) e2))))))))))
