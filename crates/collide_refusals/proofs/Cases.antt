-- The refusals before any work, each at its case; and where none is given, the work may begin. Assumes nothing.
use Prim.Native.Nat.{ℕ, ◌+◌, ◌%◌, ◌≤◌, ◌<◌}
use mathlib.Core.Bool.{Bool, true, false}
use mathlib.Core.List.{List}
use mathlib.Core.Logic.{◌⊎◌, inl, inr}
use mathlib.Core.Path.{◌≡◌, refl, ◌∙◌}
use native.Mathlib.Omega.{arith}
use lib.Dec.{eqb, ltb}
use lib.Ieee.{Float}
use borrow.Author.Tests.{ltb-true, eqb-true, eqb-false, eq-eqb, ne_eqb}
use Rattle.vector.specs.declared.Transform.{Transform}
use Rattle.manifold.specs.declared.SatCache.{SatCache}
use Rattle.hull_links.specs.declared.HullSize.{HullSize}
use Rattle.hull_links.specs.Tests.{◌&◌, implies}
use Rattle.hull_links.proofs.Tests.{and_left, and_right}
use Rattle.hull_limits.specs.Transform.{transform_right, Placed}
use Rattle.hull_limits.proofs.Placed.{placed}
use Rattle.hull.specs.Rule8.{broken_rule}
use Rattle.hull.specs.Accepted.{Accepted}
use Rattle.hull.proofs.Accepted.{accepted}
use Rattle.collide_refusals.specs.Refusals.{first_half, cache_right, unless, placed_refusal_of, later_refusal_of, refusal_of, question_refusal_of}

-- ---- refusal 4
and_true : (a : Bool) → a ≡ (a & true)
unfolding ◌&◌
and_true true = refl
and_true false = refl

-- of two half-edges the second is there too
second_there : (s : HullSize) (e : ℕ) → s.half_edges % 2 ≡ 0 → first_half s e ≡ true → e + 1 < s.half_edges
unfolding first_half
second_there s e f h =
    let even : e % 2 ≡ 0 = eqb-true _ _ (and_left _ _ h) in
    let below : e < s.half_edges = ltb-true _ _ (and_right _ _ h) in
    omega (arith, f, even, below)

module _ (s t : HullSize) (c : SatCache) where
  pub names_face_a : c.kind ≡ 2 → ltb c.index_a s.faces ≡ cache_right s t c
  unfolding cache_right implies
  names_face_a q = rw q (and_true _ ∙ and_true _)

  pub names_face_b : c.kind ≡ 3 → ltb c.index_b t.faces ≡ cache_right s t c
  unfolding cache_right implies ◌&◌
  names_face_b q = rw q (and_true _)

  pub names_edges : c.kind ≡ 4 → (first_half s c.index_a & first_half t c.index_b) ≡ cache_right s t c
  unfolding cache_right implies ◌&◌
  names_edges q = rw q

  pub names_none : (c.kind ≡ 2 → ⊥) → (c.kind ≡ 3 → ⊥) → (c.kind ≡ 4 → ⊥) → true ≡ cache_right s t c
  unfolding cache_right implies ◌&◌
  names_none p q r = rw (ne_eqb _ _ p, ne_eqb _ _ q, ne_eqb _ _ r)

  module _ (right : cache_right s t c ≡ true) where
    pub face_a_there : c.kind ≡ 2 → c.index_a < s.faces
    face_a_there q = ltb-true _ _ (names_face_a q ∙ right)

    pub face_b_there : c.kind ≡ 3 → c.index_b < t.faces
    face_b_there q = ltb-true _ _ (names_face_b q ∙ right)

    both_there : c.kind ≡ 4 → (first_half s c.index_a & first_half t c.index_b) ≡ true
    both_there q = names_edges q ∙ right

    pub edges_there : c.kind ≡ 4 → s.half_edges % 2 ≡ 0 → t.half_edges % 2 ≡ 0
        → (c.index_a + 1 < s.half_edges) × (c.index_b + 1 < t.half_edges)
    edges_there q f g = (second_there s _ f (and_left _ _ (both_there q)), second_there t _ g (and_right _ _ (both_there q)))

-- ---- the refusals before any work: five tests, in their order
module _ (a b u x c : Bool) where
  abbrev in_order : ℕ
  in_order = unless 1 a (unless 2 b (unless 17 u (unless 3 x (unless 4 c 0))))

-- the number says which test fails, and that those before it pass
only_1 : (a b u x c : Bool) → in_order a b u x c ≡ 1 → a ≡ false
only_1 false b u x c q = refl
only_1 true false u x c q = absurd (omega (arith, q))
only_1 true true false x c q = absurd (omega (arith, q))
only_1 true true true false c q = absurd (omega (arith, q))
only_1 true true true true false q = absurd (omega (arith, q))
only_1 true true true true true q = absurd (omega (arith, q))

only_2 : (a b u x c : Bool) → in_order a b u x c ≡ 2 → (a ≡ true) × (b ≡ false)
only_2 false b u x c q = absurd (omega (arith, q))
only_2 true false u x c q = (refl, refl)
only_2 true true false x c q = absurd (omega (arith, q))
only_2 true true true false c q = absurd (omega (arith, q))
only_2 true true true true false q = absurd (omega (arith, q))
only_2 true true true true true q = absurd (omega (arith, q))

only_17 : (a b u x c : Bool) → in_order a b u x c ≡ 17 → (a ≡ true) × (b ≡ true) × (u ≡ false)
only_17 false b u x c q = absurd (omega (arith, q))
only_17 true false u x c q = absurd (omega (arith, q))
only_17 true true false x c q = (refl, refl, refl)
only_17 true true true false c q = absurd (omega (arith, q))
only_17 true true true true false q = absurd (omega (arith, q))
only_17 true true true true true q = absurd (omega (arith, q))

only_3 : (a b u x c : Bool) → in_order a b u x c ≡ 3 → (a ≡ true) × (b ≡ true) × (u ≡ true) × (x ≡ false)
only_3 false b u x c q = absurd (omega (arith, q))
only_3 true false u x c q = absurd (omega (arith, q))
only_3 true true false x c q = absurd (omega (arith, q))
only_3 true true true false c q = (refl, refl, refl, refl)
only_3 true true true true false q = absurd (omega (arith, q))
only_3 true true true true true q = absurd (omega (arith, q))

only_4 : (a b u x c : Bool) → in_order a b u x c ≡ 4 → (a ≡ true) × (b ≡ true) × (u ≡ true) × (x ≡ true) × (c ≡ false)
only_4 false b u x c q = absurd (omega (arith, q))
only_4 true false u x c q = absurd (omega (arith, q))
only_4 true true false x c q = absurd (omega (arith, q))
only_4 true true true false c q = absurd (omega (arith, q))
only_4 true true true true false q = (refl, refl, refl, refl, refl)
only_4 true true true true true q = absurd (omega (arith, q))

only_none : (a b u x c : Bool) → in_order a b u x c ≡ 0 → (a ≡ true) × (b ≡ true) × (u ≡ true) × (x ≡ true) × (c ≡ true)
only_none false b u x c q = absurd (omega (arith, q))
only_none true false u x c q = absurd (omega (arith, q))
only_none true true false x c q = absurd (omega (arith, q))
only_none true true true false c q = absurd (omega (arith, q))
only_none true true true true false q = absurd (omega (arith, q))
only_none true true true true true q = (refl, refl, refl, refl, refl)

-- 0 to 4, or 17
early_numbers : (a b u x c : Bool) → (in_order a b u x c ≤ 4) ⊎ (in_order a b u x c ≡ 17)
early_numbers false b u x c = inl (omega arith)
early_numbers true false u x c = inl (omega arith)
early_numbers true true false x c = inr refl
early_numbers true true true false c = inl (omega arith)
early_numbers true true true true false = inl (omega arith)
early_numbers true true true true true = inl (omega arith)

-- ---- what is left to be refused of two hulls that break no rule
-- two tests and what comes after them: a number of theirs is given whatever comes later, and where they pass, what comes later
stays : (u d : Bool) (later : ℕ) → (unless 17 u (unless 3 d 0) ≡ 0 → ⊥) → unless 17 u (unless 3 d 0) ≡ unless 17 u (unless 3 d later)
stays false d later h = refl
stays true false later h = refl
stays true true later h = absurd (h refl)

passes_on : (u d : Bool) (later : ℕ) → unless 17 u (unless 3 d 0) ≡ 0 → later ≡ unless 17 u (unless 3 d later)
passes_on false d later h = absurd (omega (arith, h))
passes_on true false later h = absurd (omega (arith, h))
passes_on true true later h = refl

module _ (s t : HullSize) (c : SatCache) where
  pub four : cache_right s t c ≡ false → 4 ≡ unless 4 (cache_right s t c) 0
  four e = rw e

  pub not_four : cache_right s t c ≡ true → 0 ≡ unless 4 (cache_right s t c) 0
  not_four e = rw e

module _ (s t : HullSize) (x : Transform) (later : ℕ) where
  pub placed_17 : (s.unit ≡ t.unit → ⊥) → 17 ≡ placed_refusal_of s t x later
  placed_17 u = rw (ne_eqb _ _ u)

  module _ (u : s.unit ≡ t.unit) where
    pub placed_3 : transform_right s.unit x ≡ false → 3 ≡ placed_refusal_of s t x later
    placed_3 d = rw (eq-eqb _ _ u, d)

    pub placed_none : transform_right s.unit x ≡ true → later ≡ placed_refusal_of s t x later
    placed_none d = rw (eq-eqb _ _ u, d)

  pub placed_first : (placed_refusal_of s t x 0 ≡ 0 → ⊥) → placed_refusal_of s t x 0 ≡ placed_refusal_of s t x later
  placed_first = stays (eqb s.unit t.unit) (transform_right s.unit x) later

  pub placed_passed : placed_refusal_of s t x 0 ≡ 0 → later ≡ placed_refusal_of s t x later
  placed_passed = passes_on (eqb s.unit t.unit) (transform_right s.unit x) later

module _ (s : HullSize) (n : List Float) (l : List ℕ) (t : HullSize) (m : List Float) (k : List ℕ) (x : Transform) (c : SatCache) where
  -- the five tests
  abbrev kept_a : Bool
  kept_a = eqb (broken_rule s n l) 0

  abbrev kept_b : Bool
  kept_b = eqb (broken_rule t m k) 0

  abbrev alike : Bool
  alike = eqb s.unit t.unit

  abbrev placed_right : Bool
  placed_right = transform_right s.unit x

  abbrev named : Bool
  named = cache_right s t c

  pub refuses_1 : (broken_rule s n l ≡ 0 → ⊥) → 1 ≡ refusal_of s n l t m k x c
  unfolding refusal_of
  refuses_1 a = rw (ne_eqb _ _ a)

  pub refuses_2 : broken_rule s n l ≡ 0 → (broken_rule t m k ≡ 0 → ⊥) → 2 ≡ refusal_of s n l t m k x c
  unfolding refusal_of
  refuses_2 a b = rw (eq-eqb _ _ a, ne_eqb _ _ b)

  -- of two hulls that break no rule what is left decides
  pub refuses_later : broken_rule s n l ≡ 0 → broken_rule t m k ≡ 0 → later_refusal_of s t x c ≡ refusal_of s n l t m k x c
  unfolding refusal_of
  refuses_later a b = rw (eq-eqb _ _ a, eq-eqb _ _ b)

  module _ (a : broken_rule s n l ≡ 0) (b : broken_rule t m k ≡ 0) where
    pub refuses_17 : (s.unit ≡ t.unit → ⊥) → 17 ≡ refusal_of s n l t m k x c
    refuses_17 u = placed_17 s t x _ u ∙ refuses_later a b

    pub refuses_3 : s.unit ≡ t.unit → transform_right s.unit x ≡ false → 3 ≡ refusal_of s n l t m k x c
    refuses_3 u d = placed_3 s t x _ u d ∙ refuses_later a b

    pub refuses_4 : s.unit ≡ t.unit → transform_right s.unit x ≡ true → cache_right s t c ≡ false → 4 ≡ refusal_of s n l t m k x c
    refuses_4 u d e = four s t c e ∙ placed_none s t x _ u d ∙ refuses_later a b

  -- ---- and what each number says
  pub means_1 : refusal_of s n l t m k x c ≡ 1 → broken_rule s n l ≡ 0 → ⊥
  unfolding refusal_of
  means_1 q = eqb-false _ _ (only_1 kept_a kept_b alike placed_right named q)

  pub means_2 : refusal_of s n l t m k x c ≡ 2 → (broken_rule s n l ≡ 0) × (broken_rule t m k ≡ 0 → ⊥)
  unfolding refusal_of
  means_2 q = let w = only_2 kept_a kept_b alike placed_right named q in (eqb-true _ _ w.0, eqb-false _ _ w.1)

  pub means_17 : refusal_of s n l t m k x c ≡ 17 → (broken_rule s n l ≡ 0) × (broken_rule t m k ≡ 0) × (s.unit ≡ t.unit → ⊥)
  unfolding refusal_of
  means_17 q = let w = only_17 kept_a kept_b alike placed_right named q in (eqb-true _ _ w.0, eqb-true _ _ w.1, eqb-false _ _ w.2)

  pub means_3 : refusal_of s n l t m k x c ≡ 3 → (broken_rule s n l ≡ 0) × (broken_rule t m k ≡ 0) × (s.unit ≡ t.unit) × (transform_right s.unit x ≡ false)
  unfolding refusal_of
  means_3 q = let w = only_3 kept_a kept_b alike placed_right named q in (eqb-true _ _ w.0, eqb-true _ _ w.1, eqb-true _ _ w.2, w.3)

  pub means_4 : refusal_of s n l t m k x c ≡ 4
      → (broken_rule s n l ≡ 0) × (broken_rule t m k ≡ 0) × (s.unit ≡ t.unit) × (transform_right s.unit x ≡ true) × (cache_right s t c ≡ false)
  unfolding refusal_of
  means_4 q = let w = only_4 kept_a kept_b alike placed_right named q in (eqb-true _ _ w.0, eqb-true _ _ w.1, eqb-true _ _ w.2, w.3, w.4)

  -- no other number is given here
  pub refusal_early : (refusal_of s n l t m k x c ≤ 4) ⊎ (refusal_of s n l t m k x c ≡ 17)
  unfolding refusal_of
  refusal_early = early_numbers kept_a kept_b alike placed_right named

  -- where none is given, no rule is broken
  pub means_none : refusal_of s n l t m k x c ≡ 0
      → (broken_rule s n l ≡ 0) × (broken_rule t m k ≡ 0) × (s.unit ≡ t.unit) × (transform_right s.unit x ≡ true) × (cache_right s t c ≡ true)
  unfolding refusal_of
  means_none q = let w = only_none kept_a kept_b alike placed_right named q in (eqb-true _ _ w.0, eqb-true _ _ w.1, eqb-true _ _ w.2, w.3, w.4)

  -- and the work may begin
  pub unrefused : refusal_of s n l t m k x c ≡ 0 → Accepted s n l × Accepted t m k × Placed x × (cache_right s t c ≡ true)
  unrefused q = let w = means_none q in (accepted s n l w.0, accepted t m k w.1, placed s.unit x w.3, w.4)

  -- a question is refused as a call whose cache names what is there
  pub as_the_call : cache_right s t c ≡ true → question_refusal_of s n l t m k x ≡ refusal_of s n l t m k x c
  unfolding refusal_of question_refusal_of
  as_the_call e = rw e

-- ---- the same of a question
module _ (s : HullSize) (n : List Float) (l : List ℕ) (t : HullSize) (m : List Float) (k : List ℕ) (x : Transform) where
  pub asks_1 : (broken_rule s n l ≡ 0 → ⊥) → 1 ≡ question_refusal_of s n l t m k x
  unfolding question_refusal_of
  asks_1 a = rw (ne_eqb _ _ a)

  pub asks_2 : broken_rule s n l ≡ 0 → (broken_rule t m k ≡ 0 → ⊥) → 2 ≡ question_refusal_of s n l t m k x
  unfolding question_refusal_of
  asks_2 a b = rw (eq-eqb _ _ a, ne_eqb _ _ b)

  pub asks_placed : broken_rule s n l ≡ 0 → broken_rule t m k ≡ 0 → placed_refusal_of s t x 0 ≡ question_refusal_of s n l t m k x
  unfolding question_refusal_of
  asks_placed a b = rw (eq-eqb _ _ a, eq-eqb _ _ b)

  -- where none is given, the search may begin, and the hulls have one unit
  pub unrefused_question : question_refusal_of s n l t m k x ≡ 0 → Accepted s n l × Accepted t m k × Placed x × (s.unit ≡ t.unit)
  unfolding question_refusal_of
  unrefused_question q =
      let w = only_none (eqb (broken_rule s n l) 0) (eqb (broken_rule t m k) 0) (eqb s.unit t.unit) (transform_right s.unit x) true q in
      (accepted s n l (eqb-true _ _ w.0), accepted t m k (eqb-true _ _ w.1), placed s.unit x w.3, eqb-true _ _ w.2)
