-- The mark of each part of the call; and of a cache that names no axis, that it is answered as one of type 0, mark aside. Assumes nothing.
use Prim.Native.Nat.{ℕ, ◌≤◌}
use mathlib.Core.Bool.{false}
use mathlib.Core.List.{List}
use mathlib.Core.Path.{◌≡◌, refl, sym, ap, subst, ◌∙◌}
use native.Mathlib.Omega.{arith}
use lib.Dec.{eqb, leb}
use lib.IntN.{ℤ, pos}
use lib.Signed.{lt_z}
use lib.Ieee.{Float}
use borrow.Author.Tests.{eqb-true, eqb-false, leb-true, leb-false}
use Rattle.bounds.proofs.Laws.{picked}
use Rattle.vector.specs.declared.Transform.{Transform}
use Rattle.manifold.specs.declared.SatCache.{SatCache}
use Rattle.manifold.specs.declared.Answer.{Answer}
use Rattle.hull_links.specs.declared.HullSize.{HullSize}
use Rattle.hull_links.proofs.Tests.{cases}
use Rattle.collide_refusals.specs.Refusals.{refusal_of}
use Rattle.collide_refusals.proofs.Cases.{names_none}
use Rattle.collide_outcome.specs.Builds.{Built}
use Rattle.collide_outcome.specs.Served.{Cached}
use Rattle.collide_outcome.specs.Answers.{retired_of, refused_of, answer_of}
use Rattle.collide_outcome.proofs.Cases.{unmarked_below, unmarked_above, built_refused, built_accepted}
use Rattle.collide_full.specs.Full.{full_of}
use Rattle.collide.specs.Call.{after_cached, worked_of, collide_of}
use Rattle.collide.proofs.Steps.{cached_refused, cached_hit, cached_missed, at_2, at_3, at_4, at_rest, too_small, call_refused, call_worked}
use Rattle.promises.specs.Retired.{Retired, NoAxis, of_type0, mark_aside}

-- ---- the mark of a type
pub mark_range : (kind : ℕ) → retired_of kind ≡ 1 → Retired kind
mark_range kind q =
    cases (leb 6 kind)
    (λ low. cases (leb kind 8) (λ high. (leb-true 6 kind low, leb-true kind 8 high))
    (λ high. absurd (omega (arith, q, unmarked_above kind (leb-false kind 8 high)))))
    (λ low. absurd (omega (arith, q, unmarked_below kind (leb-false 6 kind low))))

pub mark_low : (kind : ℕ) → retired_of kind ≤ 1
unfolding retired_of
mark_low kind = picked (λ (z : ℕ). z ≤ 1) (leb 6 kind) (picked (λ (z : ℕ). z ≤ 1) (leb kind 8) (omega arith) (omega arith)) (omega arith)

-- ---- the mark of an answer: that of the type which was read where it accepts, and none where it refuses
pub record Marks (c : SatCache) (a : Answer) : Type 0 where
  pub set : a.outcome.status ≡ 0 → a.outcome.retired ≡ retired_of c.kind
  pub unset : (a.outcome.status ≡ 0 → ⊥) → a.outcome.retired ≡ 0

module _ (c : SatCache) where
  marks_refused : (number : ℕ) → (number ≡ 0 → ⊥) → Marks c (refused_of number c)
  marks_refused number h = record { set = λ q. absurd (h q); unset = λ q. refl }

  marks_answer : (built : Built) → Marks c (answer_of c built)
  marks_answer built =
      cases (eqb built.status 0)
      (λ p. subst (Marks c) (built_accepted c built (eqb-true _ _ p)) (record { set = λ q. refl; unset = λ h. absurd (h refl) }))
      (λ p. subst (Marks c) (built_refused c built (eqb-false _ _ p)) (marks_refused built.status (eqb-false _ _ p)))

  module _ (s : HullSize) (n : List Float) (l : List ℕ) (t : HullSize) (m : List Float) (k : List ℕ) (x : Transform) where
    -- a cached axis has a type that is not retired
    marks_cached : (cached : Cached) → 0 ≡ retired_of c.kind → Marks c (after_cached s n l t m k x c cached)
    marks_cached cached none =
        cases (eqb cached.status 0)
        (λ p. cases cached.hit
        (λ h. subst (Marks c) (cached_hit s n l t m k x c cached (eqb-true _ _ p) h) (record { set = λ q. none; unset = λ no. absurd (no refl) }))
        (λ h. subst (Marks c) (cached_missed s n l t m k x c cached (eqb-true _ _ p) h) (marks_answer _)))
        (λ p. subst (Marks c) (cached_refused s n l t m k x c cached (eqb-false _ _ p)) (marks_refused cached.status (eqb-false _ _ p)))

    marks_work : Marks c (worked_of s n l t m k x c)
    marks_work =
        cases (eqb c.kind 2)
        (λ p. let q = eqb-true _ _ p in subst (Marks c) (at_2 s n l t m k x c q) (marks_cached _ (unmarked_below _ (omega (arith, q)))))
        (λ p2. cases (eqb c.kind 3)
        (λ p. let q = eqb-true _ _ p in subst (Marks c) (at_3 s n l t m k x c q) (marks_cached _ (unmarked_below _ (omega (arith, q)))))
        (λ p3. cases (eqb c.kind 4)
        (λ p. let q = eqb-true _ _ p in subst (Marks c) (at_4 s n l t m k x c q) (marks_cached _ (unmarked_below _ (omega (arith, q)))))
        (λ p4. subst (Marks c) (at_rest s n l t m k x c (eqb-false _ _ p2) (eqb-false _ _ p3) (eqb-false _ _ p4)) (marks_answer _))))

    pub marks_call : (capacity : ℤ) → lt_z capacity (pos 4) ≡ false → Marks c (collide_of s n l t m k x capacity c)
    marks_call capacity wide =
        cases (eqb (refusal_of s n l t m k x c) 0)
        (λ p. subst (Marks c) (call_worked s n l t m k x c capacity wide (eqb-true _ _ p)) marks_work)
        (λ p. subst (Marks c) (call_refused s n l t m k x c capacity wide (eqb-false _ _ p)) (marks_refused _ (eqb-false _ _ p)))

-- ---- the answer to a cache that names no axis, beside that to the same cache with type 0
module _ (s : HullSize) (n : List Float) (l : List ℕ) (t : HullSize) (m : List Float) (k : List ℕ) (x : Transform) (capacity : ℤ) (was : SatCache)
    (no_axis : NoAxis was.kind) where
  abbrev call : SatCache → Answer
  call = collide_of s n l t m k x capacity

  abbrev zero : SatCache
  zero = of_type0 was

  same_refusal : refusal_of s n l t m k x was ≡ refusal_of s n l t m k x zero
  unfolding refusal_of
  same_refusal =
      rw (
        sym (names_none s t was no_axis.not_2 no_axis.not_3 no_axis.not_4),
        sym (names_none s t zero (λ q. absurd (omega (arith, q))) (λ q. absurd (omega (arith, q))) (λ q. absurd (omega (arith, q)))),
      )

  module _ (wide : lt_z capacity (pos 4) ≡ false) (right : refusal_of s n l t m k x was ≡ 0) where
    worked_was : answer_of was (full_of s n l t m k x) ≡ call was
    worked_was =
        at_rest s n l t m k x was no_axis.not_2 no_axis.not_3 no_axis.not_4 ∙ call_worked s n l t m k x was capacity wide right

    worked_zero : answer_of zero (full_of s n l t m k x) ≡ call zero
    worked_zero =
        at_rest s n l t m k x zero (λ q. absurd (omega (arith, q))) (λ q. absurd (omega (arith, q))) (λ q. absurd (omega (arith, q)))
        ∙ call_worked s n l t m k x zero capacity wide (sym same_refusal ∙ right)

  aside : (built : Built) → mark_aside (answer_of was built).outcome ≡ (answer_of zero built).outcome
  unfolding answer_of retired_of
  aside built = cases (eqb built.status 0) (λ p. rw p) (λ p. rw p)

  pub outcome_aside : mark_aside (call was).outcome ≡ (call zero).outcome
  outcome_aside =
      cases (lt_z capacity (pos 4))
      (λ small.
      ap (λ (a : Answer). mark_aside a.outcome) (sym (too_small s n l t m k x was capacity small))
      ∙ ap (λ (a : Answer). a.outcome) (too_small s n l t m k x zero capacity small))
      (λ wide. cases (eqb (refusal_of s n l t m k x was) 0)
      (λ p. let right = eqb-true _ _ p in
      ap (λ (a : Answer). mark_aside a.outcome) (sym (worked_was wide right)) ∙ aside (full_of s n l t m k x)
      ∙ ap (λ (a : Answer). a.outcome) (worked_zero wide right))
      (λ p. let some = eqb-false _ _ p in
      ap (λ (a : Answer). mark_aside a.outcome) (sym (call_refused s n l t m k x was capacity wide some))
      ∙ ap (λ (z : ℕ). (refused_of z zero).outcome) same_refusal
      ∙ ap (λ (a : Answer). a.outcome) (call_refused s n l t m k x zero capacity wide (λ q. some (same_refusal ∙ q)))))

  same_next : (built : Built) → (answer_of was built).outcome.status ≡ 0 → (answer_of was built).cache ≡ (answer_of zero built).cache
  same_next built ok =
      cases (eqb built.status 0)
      (λ p. let fine = eqb-true _ _ p in
      ap (λ (a : Answer). a.cache) (sym (built_accepted was built fine)) ∙ ap (λ (a : Answer). a.cache) (built_accepted zero built fine))
      (λ p. let some = eqb-false _ _ p in
      absurd (some (ap (λ (a : Answer). a.outcome.status) (built_refused was built some) ∙ ok)))

  pub next_same : lt_z capacity (pos 4) ≡ false → (call was).outcome.status ≡ 0 → (call was).cache ≡ (call zero).cache
  next_same wide ok =
      cases (eqb (refusal_of s n l t m k x was) 0)
      (λ p. let right = eqb-true _ _ p in
      ap (λ (a : Answer). a.cache) (sym (worked_was wide right))
      ∙ same_next _ (ap (λ (a : Answer). a.outcome.status) (worked_was wide right) ∙ ok)
      ∙ ap (λ (a : Answer). a.cache) (worked_zero wide right))
      (λ p. let some = eqb-false _ _ p in
      absurd (some (ap (λ (a : Answer). a.outcome.status) (call_refused s n l t m k x was capacity wide some) ∙ ok)))
