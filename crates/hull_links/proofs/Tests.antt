-- What a test says where it is true and where it is false, and the loops that try a test of every number. Assumes nothing.
use mathlib.Core.Path.{◌≡◌, refl, sym, ap, ap₂, ◌∙◌, subst}
use mathlib.Core.Bool.{Bool, true, false, ◌&&◌, ◌||◌, false≢true}
use mathlib.Core.List.{List, [], ◌∷◌, ◌++◌}
use Prim.Native.Nat.{ℕ, zero, suc, ◌+◌, ◌≤◌, ◌<◌}
use native.Mathlib.Numerals.{add-one}
use native.Mathlib.Omega.{arith}
use lib.Dec.{eqb}
use lib.ListN.{length, get_or}
use borrow.Author.Tests.{eqb-true, eqb-false}
use Rattle.hull_links.specs.Tests.{◌&◌, ◌or◌, implies, all, any, first_broken}

-- a test is true or it is false
pub cases {ℓ} : {C : Type ℓ} (b : Bool) → (b ≡ true → C) → (b ≡ false → C) → C
cases true y n = y refl
cases false y n = n refl

-- two tests are the same where each is true if the other is
pub same_test : (a b : Bool) → (a ≡ true → b ≡ true) → (b ≡ true → a ≡ true) → a ≡ b
same_test true b h k = sym (h refl)
same_test false true h k = k refl
same_test false false h k = refl

-- ---- both, either, one where the other
pub and_left : (a b : Bool) → (a & b) ≡ true → a ≡ true
unfolding ◌&◌
and_left true b e = refl
and_left false b e = e

pub and_right : (a b : Bool) → (a & b) ≡ true → b ≡ true
unfolding ◌&◌
and_right true b e = e
and_right false b e = absurd (false≢true e)

pub and_intro : (a b : Bool) → a ≡ true → b ≡ true → (a & b) ≡ true
unfolding ◌&◌
and_intro true b p q = q
and_intro false b p q = p

-- where the first test is true, the second decides
pub and_last : (a b x : Bool) → a ≡ true → x ≡ b → x ≡ (a & b)
unfolding ◌&◌
and_last true b x p q = q
and_last false b x p q = absurd (false≢true p)

pub and_false_left : (a b : Bool) → a ≡ false → (a & b) ≡ false
unfolding ◌&◌
and_false_left true b p = absurd (false≢true (sym p))
and_false_left false b p = refl

pub and_false_right : (a b : Bool) → b ≡ false → (a & b) ≡ false
unfolding ◌&◌
and_false_right true b p = p
and_false_right false b p = refl

pub or_left : (a b : Bool) → a ≡ true → (a or b) ≡ true
unfolding ◌or◌
or_left true b h = refl
or_left false b h = absurd (false≢true h)

pub or_right : (a b : Bool) → b ≡ true → (a or b) ≡ true
unfolding ◌or◌
or_right true b h = refl
or_right false b h = h

pub or_use : {C : Type 0} (a b : Bool) → (a or b) ≡ true → (a ≡ true → C) → (b ≡ true → C) → C
unfolding ◌or◌
or_use true b h f g = f refl
or_use false b h f g = g h

pub implies_use : (a b : Bool) → implies a b ≡ true → a ≡ true → b ≡ true
unfolding implies
implies_use true b e t = e
implies_use false b e t = absurd (false≢true t)

pub implies_intro : (a b : Bool) → (a ≡ true → b ≡ true) → implies a b ≡ true
unfolding implies
implies_intro true b h = h refl
implies_intro false b h = refl

pub not_implied : (a b : Bool) → implies a b ≡ false → (a ≡ true) × (b ≡ false)
unfolding implies
not_implied true b h = (refl, h)
not_implied false b h = absurd (false≢true (sym h))

-- the code's `&` and `|` are the definitions'
pub and_is : (a b : Bool) → (a && b) ≡ (a & b)
unfolding ◌&◌
and_is true b = refl
and_is false b = refl

pub or_is : (a b : Bool) → (a || b) ≡ (a or b)
unfolding ◌or◌
or_is true b = refl
or_is false b = refl

-- ---- all below a number
pub all_at : (p : ℕ → Bool) (k : ℕ) → all p k ≡ true → (i : ℕ) → i < k → p i ≡ true
unfolding all
all_at p zero h i l = absurd (omega arith)
all_at p (suc k) h i l =
    cases (eqb i k) (λ t. rw (eqb-true i k t) (and_right (all p k) (p k) h))
    (λ t. all_at p k (and_left (all p k) (p k) h) i (omega (arith, eqb-false i k t)))

pub all_intro : (p : ℕ → Bool) (k : ℕ) → ((i : ℕ) → i < k → p i ≡ true) → all p k ≡ true
unfolding all
all_intro p zero h = refl
all_intro p (suc k) h = and_intro _ _ (all_intro p k (λ i l. h i (omega arith))) (h k (omega arith))

pub all_fails : (p : ℕ → Bool) (k i : ℕ) → i < k → p i ≡ false → all p k ≡ false
all_fails p k i l q = cases (all p k) (λ t. absurd (false≢true (sym q ∙ all_at p k t i l))) (λ t. t)

pub not_all : (p : ℕ → Bool) (k : ℕ) → all p k ≡ false → (d : ℕ) × (d < k) × (p d ≡ false)
unfolding all ◌&◌
not_all p zero h = absurd (false≢true (sym h))
not_all p (suc k) h =
    cases (all p k) (λ t. (k, omega arith, rw t at h)) (λ t. let z = not_all p k t in let y = z.1 in (z.0, omega arith, z.2))

-- one of them
pub any_some : (p : ℕ → Bool) (k : ℕ) → any p k ≡ true → (d : ℕ) × (d < k) × (p d ≡ true)
unfolding any
any_some p zero h = absurd (false≢true h)
any_some p (suc k) h =
    or_use (any p k) (p k) h (λ t. let z = any_some p k t in let y = z.1 in (z.0, omega arith, z.2)) (λ t. (k, omega arith, t))

pub any_one : (p : ℕ → Bool) (k d : ℕ) → d < k → p d ≡ true → any p k ≡ true
unfolding any
any_one p zero d l h = absurd (omega arith)
any_one p (suc k) d l h =
    cases (eqb d k) (λ t. or_right (any p k) (p k) (subst (λ (x : ℕ). p x ≡ true) (eqb-true d k t) h))
    (λ t. or_left (any p k) (p k) (any_one p k d (omega (arith, eqb-false d k t)) h))

pub all_same : (p q : ℕ → Bool) (k : ℕ) → ((i : ℕ) → i < k → p i ≡ q i) → all p k ≡ all q k
unfolding all
all_same p q zero h = refl
all_same p q (suc k) h = ap₂ ◌&◌ (all_same p q k (λ i l. h i (omega arith))) (h k (omega arith))

-- a loop that stops at the first number whose test is false: before the first turn, after one more, and at the end
pub all_none : (p : ℕ → Bool) → all p 0 ≡ true
unfolding all
all_none p = refl

pub all_more : (p : ℕ → Bool) (k : ℕ) → all p k ≡ true → p k ≡ true → all p (k + 1) ≡ true
unfolding all
all_more p k a b = rw add-one (and_intro _ _ a b)

pub all_done : (p : ℕ → Bool) (k i : ℕ) → i ≤ k → k ≤ i → all p i ≡ true → all p k ≡ true
all_done p k i a b h = let e : k ≡ i = omega arith in rw e h

-- a loop that keeps the answer so far in ok and never stops early: after one more turn, and at the end
pub all_and : (p : ℕ → Bool) (i : ℕ) (ok t : Bool) → ok ≡ all p i → t ≡ p i → (ok && t) ≡ all p (i + 1)
unfolding all
all_and p i ok t q w = rw (add-one i) (and_is ok t ∙ ap₂ ◌&◌ q w)

pub all_end : (p : ℕ → Bool) (k i : ℕ) (ok : Bool) → i ≤ k → k ≤ i → ok ≡ all p i → ok ≡ all p k
all_end p k i ok a b q = let e : k ≡ i = omega arith in rw e q

-- ---- the first test that fails
pub breaks : (k : ℕ) (t : Bool) (tests : List Bool) → t ≡ false → k ≡ first_broken k (t ∷ tests)
unfolding first_broken
breaks k t tests q = rw q

pub passes : (k r : ℕ) (t : Bool) (tests : List Bool) → t ≡ true → r ≡ first_broken (suc k) tests → r ≡ first_broken k (t ∷ tests)
unfolding first_broken
passes k r t tests q w = rw q w

pub none_broken : (k : ℕ) → 0 ≡ first_broken k []
unfolding first_broken
none_broken k = refl

-- where the answer is 0, each test is true
pub unbroken : (k : ℕ) (tests : List Bool) → 0 < k → first_broken k tests ≡ 0 → (i : ℕ) → get_or tests i true ≡ true
unfolding first_broken
unbroken k [] h q i = refl
unbroken k (true ∷ tests) h q zero = refl
unbroken k (true ∷ tests) h q (suc i) = unbroken (suc k) tests (omega arith) q i
unbroken k (false ∷ tests) h q i = absurd (omega arith)

-- a rule that is broken among the first tests is the first of all; where none of them is, the tests after them decide
pub broken_early : (k : ℕ) (tests later : List Bool) → (first_broken k tests ≡ 0 → ⊥) → first_broken k tests ≡ first_broken k (tests ++ later)
unfolding first_broken
broken_early k [] later q = absurd (q refl)
broken_early k (true ∷ tests) later q = broken_early (suc k) tests later q
broken_early k (false ∷ tests) later q = refl

pub broken_late : (k : ℕ) (tests later : List Bool) → 0 < k → first_broken k tests ≡ 0 → first_broken (k + length tests) later ≡ first_broken k (tests ++ later)
unfolding first_broken
broken_late k [] later h q = ap (λ (x : ℕ). first_broken x later) (omega arith)
broken_late k (true ∷ tests) later h q = ap (λ (x : ℕ). first_broken x later) (omega arith) ∙ broken_late (suc k) tests later (omega arith) q
broken_late k (false ∷ tests) later h q = absurd (omega arith)
