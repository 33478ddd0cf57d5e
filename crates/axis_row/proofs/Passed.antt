-- A search over the numbers that pass two tests is the search over all numbers, where those that fail leave the lead as it is. Assumes nothing.
use Prim.Native.Nat.{ℕ, zero, suc, ◌<◌, ◌≤◌}
use mathlib.Core.Path.{◌≡◌, refl, sym, ap, ◌∙◌}
use mathlib.Core.Bool.{Bool, true, false, cond}
use mathlib.Core.List.{List, [], ◌∷◌, ◌++◌}
use native.Mathlib.Omega.{arith}
use native.Mathlib.Numerals.{add-one}
use lib.ListN.{length, take, get_or, length-append, get_or-append}
use lib.Seq.{length-take-le, get_or-take, get_or-append_seam}
use Rattle.axis_best.specs.declared.Lead.{Lead}
use Rattle.axis_best.specs.Leads.{lead_after}
use Rattle.axis_best.proofs.Searches.{same_steps}
use Rattle.axis_row.specs.inner.Marks.{passing, up_to}
use Rattle.axis_row.proofs.Passing.{passing_snoc}

same_cond : {A : Type 0} (z : Bool) (a : A) → cond z a a ≡ a
same_cond true a = refl
same_cond false a = refl

-- the search over the numbers of a list
abbrev over : (ℕ → Lead → Lead) → Lead → List ℕ → Lead
over f start xs = lead_after (λ k. f (get_or xs k 0)) start (length xs)

over_snoc : (f : ℕ → Lead → Lead) (start : Lead) (xs : List ℕ) (x : ℕ)
    → over f start (xs ++ (x ∷ [])) ≡ cond (over f start xs).apart (over f start xs) (f x (over f start xs))
unfolding lead_after
over_snoc f start xs x =
    let ys : List ℕ = xs ++ (x ∷ []) in
    let s : Lead = over f start xs in
    ap (lead_after (λ k. f (get_or ys k 0)) start) (length-append xs (x ∷ []) ∙ add-one (length xs))
    ∙ ap (λ (t : Lead). cond t.apart t (f (get_or ys (length xs) 0) t))
    (same_steps (λ k. f (get_or ys k 0)) (λ k. f (get_or xs k 0)) start (length xs) (λ k q t. ap (λ (z : ℕ). f z t) (get_or-append xs (x ∷ []) 0 k q)))
    ∙ ap (λ (z : ℕ). cond s.apart s (f z s)) (get_or-append_seam xs x [] 0)

-- at the front of a list
over_front : (f : ℕ → Lead → Lead) (start : Lead) (l xs : List ℕ) (m : ℕ) → m ≤ length l → take m l ≡ xs
    → lead_after (λ k. f (get_or l k 0)) start m ≡ over f start xs
over_front f start l xs m h e =
    let n : m ≡ length xs = sym (length-take-le m l h) ∙ ap length e in
    same_steps (λ k. f (get_or l k 0)) (λ k. f (get_or xs k 0)) start m
    (λ k q t. ap (λ (z : ℕ). f z t) (sym (get_or-take m l k 0 q) ∙ ap (λ (z : List ℕ). get_or z k 0) e))
    ∙ ap (lead_after (λ k. f (get_or xs k 0)) start) n

module _ (f g : ℕ → Lead → Lead) (first later : ℕ → Bool) (start : Lead) where
  abbrev both : ℕ → List ℕ
  both n = passing later (passing first (up_to n))

  both_more : (n : ℕ) → both (suc n) ≡ cond (first n) (both n) (cond (later n) (both n) (both n ++ (n ∷ [])))
  unfolding up_to
  both_more n = ap (passing later) (passing_snoc first (up_to n) n) ∙ by (first n)
    where
      by : (z : Bool) → passing later (cond z (passing first (up_to n)) (passing first (up_to n) ++ (n ∷ []))) ≡ cond z (both n)
          (cond (later n) (both n) (both n ++ (n ∷ [])))
      by true = refl
      by false = passing_snoc later (passing first (up_to n)) n

  over_more : (n : ℕ) (s : Lead) → over f start (both n) ≡ s → over f start (both (suc n)) ≡ cond s.apart s (cond (first n) s (cond (later n) s (f n s)))
  over_more n s e = ap (over f start) (both_more n) ∙ by (first n) (later n)
    where
      by : (a b : Bool) → over f start (cond a (both n) (cond b (both n) (both n ++ (n ∷ [])))) ≡ cond s.apart s (cond a s (cond b s (f n s)))
      by true b = e ∙ sym (same_cond s.apart s)
      by false true = e ∙ sym (same_cond s.apart s)
      by false false = over_snoc f start (both n) n ∙ ap (λ (t : Lead). cond t.apart t (f n t)) e

  over_both : (n : ℕ) → ((i : ℕ) → i < n → (s : Lead) → g i s ≡ cond (first i) s (cond (later i) s (f i s))) → over f start (both n) ≡ lead_after g start n
  unfolding lead_after up_to passing
  over_both zero h = refl
  over_both (suc n) h =
      let s : Lead = lead_after g start n in
      over_more n s (over_both n (λ i q. h i (omega (arith, q)))) ∙ ap (λ (t : Lead). cond s.apart s t) (sym (h n (omega arith) s))

  module _ (n : ℕ) (same : (i : ℕ) → i < n → (s : Lead) → g i s ≡ cond (first i) s (cond (later i) s (f i s))) (list : List ℕ) (m : ℕ)
      (front : take m list ≡ passing first (up_to n)) where
    -- none passes the first test
    pub none_pass : m ≡ 0 → start ≡ lead_after g start n
    unfolding lead_after passing
    none_pass z =
        let e : passing first (up_to n) ≡ [] = sym front ∙ ap (λ (k : ℕ). take k list) z in
        sym (ap (λ (xs : List ℕ). over f start (passing later xs)) e) ∙ over_both n same

    -- those that pass both stand at the front of `out`
    pub some_pass : (out : List ℕ) (left : ℕ) (r : Lead) → left ≤ length out → take left out ≡ passing later (take m list)
        → r ≡ lead_after (λ k. f (get_or out k 0)) start left
        → r ≡ lead_after g start n
    some_pass out left r h e q = q ∙ over_front f start out (both n) left h (e ∙ ap (passing later) front) ∙ over_both n same
