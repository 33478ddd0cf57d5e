-- The laws of a search with a stop, for loops that carry its lead: the start, one turn, a stop, turns that change nothing, steps that are the same, and what
-- every step keeps. Assumes nothing.
use mathlib.Core.Path.{◌≡◌, refl, sym, ap, ◌∙◌}
use mathlib.Core.Bool.{Bool, true, false, cond}
use mathlib.Core.Logic.{⊎_elim}
use Prim.Native.Nat.{ℕ, zero, suc, ◌+◌, ◌-◌, ◌<◌, ◌≤◌}
use native.Mathlib.Numerals.{add-one}
use native.Mathlib.Nat.{eq-or-lt_of_le, le_of_suc-le-suc}
use native.Mathlib.Omega.{arith}
use lib.Ieee.{inf, neg, of_bits, div}
use Rattle.bounds.proofs.Laws.{picked}
use Rattle.axis_best.specs.declared.Lead.{Lead}
use Rattle.axis_best.specs.Leads.{lowest, lead_after}

-- nothing found is minus infinity
pub lowest_is : lowest ≡ inf true
unfolding div of_bits neg
lowest_is = refl

module _ (step : ℕ → Lead → Lead) (start : Lead) where
  pub begins : start ≡ lead_after step start 0
  unfolding lead_after
  begins = refl

  -- one more step of a search that has not stopped
  pub goes_on : (n : ℕ) (s r : Lead) → s ≡ lead_after step start n → s.apart ≡ false → r ≡ step n s → r ≡ lead_after step start (n + 1)
  unfolding lead_after
  goes_on n s r p q e =
      e ∙ sym
      (ap (lead_after step start) (add-one n)
      ∙ ap (λ (t : Lead). cond t.apart t (step n t)) (sym p)
      ∙ ap (λ (z : Bool). cond z s (step n s)) q)

  -- a search that has stopped
  pub stays : (m n : ℕ) (s : Lead) → n ≤ m → s ≡ lead_after step start n → s.apart ≡ true → s ≡ lead_after step start m
  unfolding lead_after
  stays zero n s h p q = let z : n ≡ 0 = omega (arith, h) in p ∙ ap (lead_after step start) z
  stays (suc m) n s h p q =
      ⊎_elim (λ e. p ∙ ap (lead_after step start) e)
      (λ l.
      let g : s ≡ lead_after step start m = stays m n s (le_of_suc-le-suc l) p q in
      sym (ap (λ (t : Lead). cond t.apart t (step m t)) (sym g) ∙ ap (λ (z : Bool). cond z s (step m s)) q))
      (eq-or-lt_of_le h)

  -- k steps that leave the lead as it is
  idle : (k n : ℕ) (s : Lead) → s ≡ lead_after step start n → s.apart ≡ false → ((i : ℕ) → n ≤ i → i < n + k → s ≡ step i s)
      → s ≡ lead_after step start (n + k)
  idle zero n s e w u = e ∙ ap (lead_after step start) (omega arith)
  idle (suc k) n s e w u =
      let o : n + 1 + k ≡ n + suc k = omega arith in
      idle k (n + 1) s (goes_on n s s e w (u n (omega arith) (omega arith))) w (λ i y z. u i (omega (arith, y)) (omega (arith, z)))
      ∙ ap (lead_after step start) o

  -- from n to m, where no step in between changes the lead
  pub skips : (n m : ℕ) (s : Lead) → n ≤ m → s ≡ lead_after step start n → s.apart ≡ false → ((i : ℕ) → n ≤ i → i < m → s ≡ step i s)
      → s ≡ lead_after step start m
  skips n m s h e w u =
      let o : n + (m - n) ≡ m = omega (arith, h) in
      idle (m - n) n s e w (λ i y z. u i y (omega (arith, z, h))) ∙ ap (lead_after step start) o

-- only the steps below n are looked at
pub same_steps : (f g : ℕ → Lead → Lead) (start : Lead) (n : ℕ) → ((i : ℕ) → i < n → (s : Lead) → f i s ≡ g i s) → lead_after f start n ≡ lead_after g start n
unfolding lead_after
same_steps f g start zero h = refl
same_steps f g start (suc n) h =
    let s : Lead = lead_after g start n in
    ap (λ (t : Lead). cond t.apart t (f n t)) (same_steps f g start n (λ i q. h i (omega (arith, q))))
    ∙ ap (λ (t : Lead). cond s.apart s t) (h n (omega arith) s)

-- what holds of the start, and stays so in every step below n, holds of what n steps make
pub holds : (P : Lead → Type 0) (step : ℕ → Lead → Lead) (start : Lead) (n : ℕ) → P start → ((i : ℕ) → i < n → (s : Lead) → P s → P (step i s))
    → P (lead_after step start n)
unfolding lead_after
holds P step start zero p q = p
holds P step start (suc n) p q =
    let before : P (lead_after step start n) = holds P step start n p (λ i h. q i (omega (arith, h))) in
    picked P (lead_after step start n).apart before (q n (omega arith) (lead_after step start n) before)
