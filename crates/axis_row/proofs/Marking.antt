-- The marks of the first pass: one more, how many there can be, and what they tell. Assumes nothing.
use Prim.Native.Nat.{ℕ, zero, suc, ◌+◌, ◌-◌, ◌≤◌, ◌<◌}
use mathlib.Core.Path.{◌≡◌, refl, sym, ap, ◌∙◌, subst}
use mathlib.Core.Bool.{Bool, true, false, cond}
use mathlib.Core.List.{List, [], ◌∷◌, ◌++◌}
use native.Mathlib.Omega.{arith}
use native.Mathlib.Nat.{not-suc-le-zero}
use native.Mathlib.Numerals.{add-one}
use borrow.Author.Count.{below_more}
use lib.Dec.{eqb}
use lib.ListN.{length, set, get_or, length-set, length-append}
use lib.Seq.{get_or-set_same, get_or-set_other}
use Rattle.axis_row.specs.inner.Marks.{passing, up_to, Marked, unmarked}
use Rattle.axis_row.proofs.Passing.{passing_snoc}

bit : (z : Bool) → cond z 0 1 ≤ 1
bit true = omega arith
bit false = omega arith

module _ (fails : ℕ → Bool) where
  -- ---- how many pass
  one_more : (n : ℕ) → passing fails (up_to (suc n)) ≡ cond (fails n) (passing fails (up_to n)) (passing fails (up_to n) ++ (n ∷ []))
  unfolding up_to
  one_more n = passing_snoc fails (up_to n) n

  length_more : (n : ℕ) → length (passing fails (up_to (suc n))) ≡ length (passing fails (up_to n)) + cond (fails n) 0 1
  length_more n = ap length (one_more n) ∙ by (fails n)
    where
      by : (z : Bool) → length (cond z (passing fails (up_to n)) (passing fails (up_to n) ++ (n ∷ []))) ≡ length (passing fails (up_to n)) + cond z 0 1
      by true = omega arith
      by false = length-append (passing fails (up_to n)) (n ∷ [])

  pub few_pass : (n : ℕ) → length (passing fails (up_to n)) ≤ n
  unfolding passing up_to
  few_pass zero = omega arith
  few_pass (suc n) = omega (arith, few_pass n, length_more n, bit (fails n))

  fewer_pass : (n width : ℕ) → n ≤ width → length (passing fails (up_to n)) ≤ length (passing fails (up_to width))
  fewer_pass n width h = more (width - n) width (omega (arith, h))
    where
      more : (d w : ℕ) → d + n ≡ w → length (passing fails (up_to n)) ≤ length (passing fails (up_to w))
      more zero w e = subst (λ (x : ℕ). length (passing fails (up_to n)) ≤ length (passing fails (up_to x))) {x = n} (omega (arith, e)) (omega arith)
      more (suc d) w e =
          subst (λ (x : ℕ). length (passing fails (up_to n)) ≤ length (passing fails (up_to x))) {x = suc (d + n)} (omega (arith, e))
          (omega (arith, more d (d + n) refl, length_more (d + n)))

  -- ---- the loop
  pub begins : (marks : List ℕ) → length marks ≡ 128 → Marked fails 0 0 marks
  unfolding passing up_to
  begins marks h = record { long = h; each = λ k q. absurd (not-suc-le-zero q); counted = refl }

  pub goes_on : (i count : ℕ) (marks : List ℕ) (one next : ℕ) → Marked fails i count marks → i < 128 → one ≡ cond (fails i) 0 1
      → next ≡ count + one → Marked fails (i + 1) next (set marks i one)
  goes_on i count marks one next m h e q =
      record {
        long = length-set marks i one ∙ m.long;
        each = below_more (λ k. get_or (set marks i one) k 0 ≡ cond (fails k) 0 1) i
            (λ k r. get_or-set_other marks i k one 0 (λ x. omega (arith, x, r)) ∙ m.each k r)
            (get_or-set_same marks i one 0 (omega (arith, h, m.long)) ∙ e);
        counted = q ∙ cc (m.counted, e, length_more i, add-one i);
      }

  pub bounded : (i count : ℕ) (marks : List ℕ) → Marked fails i count marks → count ≤ i
  bounded i count marks m = omega (arith, m.counted, few_pass i)

  -- ---- what the marks tell
  pub small : (n count : ℕ) (marks : List ℕ) → Marked fails n count marks → (k : ℕ) → k < n → get_or marks k 0 ≤ 1
  small n count marks m k h = subst (λ (x : ℕ). x ≤ 1) (sym (m.each k h)) (bit (fails k))

  pub told : (n count : ℕ) (marks : List ℕ) → Marked fails n count marks → (k : ℕ) → k < n → unmarked marks k ≡ fails k
  unfolding unmarked
  told n count marks m k h = ap (λ (x : ℕ). eqb x 0) (m.each k h) ∙ by (fails k)
    where
      by : (z : Bool) → eqb (cond z 0 1) 0 ≡ z
      by true = refl
      by false = refl

  -- where none of the first `width` is marked, none of fewer passes
  pub none_marked : (width n count : ℕ) (marks : List ℕ) → Marked fails width count marks → n ≤ width → count ≡ 0 → [] ≡ passing fails (up_to n)
  none_marked width n count marks m few h = empty (passing fails (up_to n)) (omega (arith, m.counted, h, fewer_pass n width few))
    where
      empty : (xs : List ℕ) → length xs ≡ 0 → [] ≡ xs
      empty [] q = refl
      empty (x ∷ xs) q = absurd (omega (arith, q))

-- tests that agree below n pass the same numbers
pub same_passing : (f g : ℕ → Bool) (n : ℕ) → ((k : ℕ) → k < n → f k ≡ g k) → passing f (up_to n) ≡ passing g (up_to n)
unfolding passing up_to
same_passing f g zero h = refl
same_passing f g (suc n) h =
    passing_snoc f (up_to n) n ∙ rw (h n (omega arith), same_passing f g n (λ k q. h k (omega (arith, q)))) (sym (passing_snoc g (up_to n) n))

-- a mark is added to the count of those before it
pub adds : (marks : List ℕ) (i m next : ℕ) → get_or marks i 0 ≤ 1 → next ≡ m + get_or marks i 0 → next ≡ cond (unmarked marks i) m (m + 1)
unfolding unmarked
adds marks i m next h e = e ∙ by (get_or marks i 0) h
  where
    by : (x : ℕ) → x ≤ 1 → m + x ≡ cond (eqb x 0) m (m + 1)
    by zero q = omega arith
    by (suc zero) q = refl
    by (suc (suc x)) q = absurd (omega (arith, q))
