-- The question at each of its cases, for the code that comes through it. Assumes nothing.
use Prim.Native.Nat.{ℕ}
use mathlib.Core.List.{List}
use mathlib.Core.Path.{◌≡◌, sym, ap, ◌∙◌}
use native.Mathlib.Omega.{arith}
use lib.Ieee.{Float}
use borrow.Author.Tests.{eq-eqb, ne_eqb}
use Rattle.vector.specs.declared.Transform.{Transform}
use Rattle.hull_links.specs.declared.HullSize.{HullSize}
use Rattle.hull_limits.specs.Transform.{Placed}
use Rattle.hull.specs.Rule8.{broken_rule}
use Rattle.hull.specs.Accepted.{Accepted}
use Rattle.collide_refusals.specs.Refusals.{placed_refusal_of, question_refusal_of}
use Rattle.collide_refusals.proofs.Cases.{asks_1, asks_2, asks_placed, unrefused_question}
use Rattle.axis.specs.Search.{search_of}
use Rattle.apart.specs.Question.{refused_question, answered_question, question_of}
use Rattle.apart.specs.inner.Ends.{ends_apart}
use Rattle.apart.proofs.Early.{same_yes}

module _ (s : HullSize) (n : List Float) (l : List ℕ) (t : HullSize) (m : List Float) (k : List ℕ) (x : Transform) where
  asked_refused : {number : ℕ} → number ≡ question_refusal_of s n l t m k x → (number ≡ 0 → ⊥) → refused_question number ≡ question_of s n l t m k x
  unfolding question_of
  asked_refused e h = ap refused_question e ∙ rw (ne_eqb _ _ (λ z. h (e ∙ z)))

  pub refused_a : (broken_rule s n l ≡ 0 → ⊥) → refused_question 1 ≡ question_of s n l t m k x
  refused_a h = asked_refused (asks_1 s n l t m k x h) (λ q. omega (arith, q))

  module _ (a : broken_rule s n l ≡ 0) where
    pub refused_b : (broken_rule t m k ≡ 0 → ⊥) → refused_question 2 ≡ question_of s n l t m k x
    refused_b h = asked_refused (asks_2 s n l t m k x a h) (λ q. omega (arith, q))

    -- of two hulls that break no rule: what is left to be refused, or the answer
    module _ (b : broken_rule t m k ≡ 0) {placed : ℕ} (e : placed ≡ placed_refusal_of s t x 0) where
      refusal_is : placed ≡ question_refusal_of s n l t m k x
      refusal_is = e ∙ asks_placed s n l t m k x a b

      pub refused_placed : (placed ≡ 0 → ⊥) → refused_question placed ≡ question_of s n l t m k x
      refused_placed = asked_refused refusal_is

      pub may_search : placed ≡ 0 → Accepted s n l × Accepted t m k × Placed x
      may_search z = let w = unrefused_question s n l t m k x (sym refusal_is ∙ z) in (w.0, w.1, w.2)

      one_unit : placed ≡ 0 → s.unit ≡ t.unit
      one_unit z = (unrefused_question s n l t m k x (sym refusal_is ∙ z)).3

      -- what the search says is the answer
      pub says : placed ≡ 0 → answered_question (ends_apart (search_of s n l t m k x)) ≡ question_of s n l t m k x
      unfolding question_of
      says z = ap answered_question (same_yes s n l t m k x (one_unit z)) ∙ rw (eq-eqb _ _ (sym refusal_is ∙ z))
