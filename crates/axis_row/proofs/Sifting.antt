-- The loop of a sift: at the front of the list stand the numbers so far that pass. Assumes nothing.
use Prim.Native.Nat.{ℕ, ◌+◌, ◌≤◌, ◌<◌}
use mathlib.Core.Path.{◌≡◌, refl, ap, ◌∙◌}
use mathlib.Core.Bool.{Bool, true, false, cond}
use mathlib.Core.List.{List, [], ◌∷◌, ◌++◌}
use native.Mathlib.Omega.{arith}
use native.Mathlib.Nat.{le_refl}
use native.Mathlib.Numerals.{add-one}
use lib.ListN.{length, take, set, get_or, length-set}
use lib.Seq.{take-suc, take-set-le, take-suc-set}
use Rattle.axis_row.specs.inner.Marks.{passing, up_to}
use Rattle.axis_row.proofs.Passing.{passing_snoc}

-- of i numbers, xs, m have passed: they stand at the front of l
pub record Sifted (fails : ℕ → Bool) (xs : List ℕ) (i m : ℕ) (l : List ℕ) : Type 0 where
  pub few : m ≤ i
  pub long : length l ≡ 128
  pub front : take m l ≡ passing fails xs

module _ (fails : ℕ → Bool) where
  none : (l : List ℕ) → length l ≡ 128 → Sifted fails [] 0 0 l
  unfolding passing
  none l h = record { few = omega arith; long = h; front = refl }

  -- one number more is put behind those that have passed, and is kept there where it passes
  more : (xs : List ℕ) (i m : ℕ) (l : List ℕ) (x next : ℕ) → Sifted fails xs i m l → m < 128 → next ≡ cond (fails x) m (m + 1)
      → Sifted fails (xs ++ (x ∷ [])) (i + 1) next (set l m x)
  more xs i m l x next s h q = by (fails x) refl
    where
      by : (z : Bool) → fails x ≡ z → Sifted fails (xs ++ (x ∷ [])) (i + 1) next (set l m x)
      by true e =
          let n : next ≡ m = rw e at q in
          record {
            few = omega (arith, n, s.few);
            long = length-set l m x ∙ s.long;
            front = rw (n, take-set-le m l m x (le_refl m), passing_snoc fails xs x, e) s.front;
          }
      by false e =
          let n : next ≡ m + 1 = rw e at q in
          record {
            few = omega (arith, n, s.few);
            long = length-set l m x ∙ s.long;
            front = rw (n, add-one m, take-suc-set l m x (omega (arith, s.long)), passing_snoc fails xs x, e)
                (ap (λ (z : List ℕ). z ++ (x ∷ [])) s.front);
          }

  -- ---- of the numbers 0 to i - 1
  pub up_begins : (l : List ℕ) → length l ≡ 128 → Sifted fails (up_to 0) 0 0 l
  unfolding up_to
  up_begins = none

  pub up_goes_on : (i m : ℕ) (l : List ℕ) (next : ℕ) → Sifted fails (up_to i) i m l → i < 128 → next ≡ cond (fails i) m (m + 1)
      → Sifted fails (up_to (i + 1)) (i + 1) next (set l m i)
  unfolding up_to
  up_goes_on i m l next s h q = rw (ap up_to (add-one i)) (more (up_to i) i m l i next s (omega (arith, s.few)) q)

  -- ---- of the first k of a list
  module _ (xs : List ℕ) where
    pub list_begins : (l : List ℕ) → length l ≡ 128 → Sifted fails (take 0 xs) 0 0 l
    list_begins = none

    pub list_goes_on : (k m : ℕ) (l : List ℕ) (next : ℕ) → Sifted fails (take k xs) k m l → k < 128 → k < length xs
        → next ≡ cond (fails (get_or xs k 0)) m (m + 1)
        → Sifted fails (take (k + 1) xs) (k + 1) next (set l m (get_or xs k 0))
    list_goes_on k m l next s h u q =
        let e : take (k + 1) xs ≡ take k xs ++ (get_or xs k 0 ∷ []) = rw (add-one k) (take-suc xs k 0 u) in
        rw e (more (take k xs) k m l (get_or xs k 0) next s (omega (arith, s.few)) q)
