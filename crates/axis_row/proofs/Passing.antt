-- The numbers that pass a test, in their order: what one number more does, and that each is below a bound that all are below. Assumes nothing.
use Prim.Native.Nat.{ℕ, zero, suc, ◌≤◌, ◌<◌}
use mathlib.Core.Path.{◌≡◌, refl, sym, ap, ◌∙◌, subst}
use mathlib.Core.Bool.{Bool, true, false, cond}
use mathlib.Core.List.{List, [], ◌∷◌, ◌++◌}
use native.Mathlib.Omega.{arith}
use native.Mathlib.Nat.{le_of_suc-le-suc}
use lib.ListN.{length, take, get_or}
use lib.Seq.{length-take-le, get_or-take}
use Rattle.axis_row.specs.inner.Marks.{passing, up_to}

-- every number of a list lies below n
abbrev pub Below : ℕ → List ℕ → Type 0
Below n xs = (k : ℕ) → k < length xs → get_or xs k 0 < n

below_snoc : (n x : ℕ) (xs : List ℕ) → x < n → Below n xs → Below n (xs ++ (x ∷ []))
below_snoc n x [] h b zero q = h
below_snoc n x [] h b (suc k) q = absurd (omega arith)
below_snoc n x (y ∷ xs) h b zero q = b 0 (omega arith)
below_snoc n x (y ∷ xs) h b (suc k) q = below_snoc n x xs h (λ i r. b (suc i) (omega (arith, r))) k (le_of_suc-le-suc q)

-- so do 0 to m - 1
pub below_up : (m n : ℕ) → m ≤ n → Below n (up_to m)
unfolding up_to
below_up zero n h = λ k q. absurd (omega arith)
below_up (suc m) n h = below_snoc n m (up_to m) h (below_up m n (omega arith))

-- ---- those that pass
swap : (a b : Bool) (x y : ℕ) (p : List ℕ) → cond a (cond b p (p ++ (x ∷ []))) (y ∷ cond b p (p ++ (x ∷ []))) ≡ cond b (cond a p (y ∷ p))
    (cond a p (y ∷ p) ++ (x ∷ []))
swap true true x y p = refl
swap true false x y p = refl
swap false true x y p = refl
swap false false x y p = refl

module _ (fails : ℕ → Bool) where
  pub passing_snoc : (xs : List ℕ) (x : ℕ) → passing fails (xs ++ (x ∷ [])) ≡ cond (fails x) (passing fails xs) (passing fails xs ++ (x ∷ []))
  unfolding passing
  passing_snoc [] x = refl
  passing_snoc (y ∷ xs) x = rw (passing_snoc xs x) (swap (fails y) (fails x) x y (passing fails xs))

  pub below_passing : (n : ℕ) (xs : List ℕ) → Below n xs → Below n (passing fails xs)
  unfolding passing
  below_passing n [] b = b
  below_passing n (y ∷ xs) b = by (fails y) (below_passing n xs (λ k q. b (suc k) (omega (arith, q))))
    where
      by : (z : Bool) → Below n (passing fails xs) → Below n (cond z (passing fails xs) (y ∷ passing fails xs))
      by true t k q = t k q
      by false t zero q = b 0 (omega arith)
      by false t (suc k) q = t k (le_of_suc-le-suc q)

-- the same of the front of a list
pub front_below : (n m : ℕ) (l xs : List ℕ) → m ≤ length l → take m l ≡ xs → Below n xs → (k : ℕ) → k < m → get_or l k 0 < n
front_below n m l xs h e b k q =
    subst (λ (z : ℕ). z < n) (ap (λ (z : List ℕ). get_or z k 0) (sym e) ∙ get_or-take m l k 0 q)
    (b k (subst (λ (z : List ℕ). k < length z) e (rw (length-take-le m l h) q)))
