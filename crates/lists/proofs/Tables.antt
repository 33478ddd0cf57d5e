-- Tables, and lists that are filled by one turn after another. Assumes nothing.
use Prim.Native.Nat.{ℕ, zero, suc, ◌+◌, ◌≤◌, ◌<◌}
use mathlib.Core.Path.{◌≡◌, refl, sym, ap, subst, ◌∙◌}
use mathlib.Core.List.{List, [], ◌∷◌, ◌++◌}
use native.Mathlib.Omega.{arith}
use native.Mathlib.Nat.{zero-add}
use native.Mathlib.Numerals.{add-one}
use lib.ListN.{length, set, drop, get_or, get_or-append}
use Rattle.lists.specs.Written.{Wrote, table}
use Rattle.lists.proofs.Written.{none, once, then, wrote_same, front}

pub table_length : {A : Type 0} (g : ℕ → A) (n : ℕ) → length (table g n) ≡ n
unfolding table
table_length g zero = refl
table_length g (suc n) = ap suc (table_length (λ i. g (suc i)) n)

table_suc : {A : Type 0} (g : ℕ → A) (n : ℕ) → table g n ++ (g n ∷ []) ≡ table g (suc n)
unfolding table
table_suc g zero = refl
table_suc g (suc n) = ap (λ t. g 0 ∷ t) (table_suc (λ i. g (suc i)) n)

-- before the first turn, one turn more, and the last
pub begun : {A : Type 0} (g : ℕ → A) (s : List A) (from : ℕ) → Wrote s from (table g 0) s
unfolding table
begun g s from = none

pub turned : {A : Type 0} (g : ℕ → A) {s m : List A} {from : ℕ} (i : ℕ) {v : A} → Wrote s from (table g i) m → v ≡ g i
    → Wrote s from (table g (i + 1)) (set m (from + i) v)
turned g {s} {m} {from} i {v} w e =
    wrote_same (then w (once m (from + i) v) (ap (λ k. from + k) (sym (table_length g i)))) (ap (λ x. table g i ++ (x ∷ [])) e
    ∙ (table_suc g i ∙ ap (table g) (sym (add-one i))))

pub ended : {A : Type 0} (g : ℕ → A) {s m : List A} {from i n : ℕ} → Wrote s from (table g i) m → i ≡ n → Wrote s from (table g n) m
ended g w e = wrote_same w (ap (table g) e)

-- one turn more, where the first place is 0
pub turned_front : {A : Type 0} (g : ℕ → A) {s m : List A} (i : ℕ) {v : A} → Wrote s 0 (table g i) m → v ≡ g i → Wrote s 0 (table g (i + 1)) (set m i v)
turned_front g {s} {m} i {v} w e = subst (λ k. Wrote s 0 (table g (i + 1)) (set m k v)) (zero-add i) (turned g i w e)

pub table_at : {A : Type 0} (g : ℕ → A) (n i : ℕ) (d : A) → i < n → get_or (table g n) i d ≡ g i
unfolding table
table_at g zero i d h = absurd (omega (arith, h))
table_at g (suc n) zero d h = refl
table_at g (suc n) (suc i) d h = table_at (λ j. g (suc j)) n i d (omega (arith, h))

-- what a table that was written from the first place on has at i
pub written_at : {A : Type 0} (g : ℕ → A) {s m : List A} {n : ℕ} (i : ℕ) (d : A) → Wrote s 0 (table g n) m → n ≤ length s → i < n → get_or m i d ≡ g i
written_at g {s} {m} {n} i d w room h =
    let l : length (table g n) ≡ n = table_length g n in
    ap (λ y. get_or y i d) (front w (omega arith))
    ∙ (get_or-append (table g n) (drop (length (table g n)) s) d i (omega arith) ∙ table_at g n i d h)
