-- Loops that go place by place, and the first 64 of a list. Assumes nothing.
use Prim.Native.Nat.{ℕ, zero, suc, ◌+◌, ◌≤◌}
use mathlib.Core.Path.{◌≡◌, refl, ap, ◌∙◌}
use mathlib.Core.List.{List}
use native.Mathlib.Omega.{arith}
use native.Mathlib.Decide.{dec_le}
use native.Mathlib.Numerals.{add-one}
use lib.ListN.{length, take}
use lib.Seq.{length-take-le, take_all}
use Rattle.manifold.specs.Polygons.{turns}

-- ---- turns: none, and one more
pub no_turn : {S : Type 0} (f : S → ℕ → S) (s : S) → s ≡ turns f s 0
unfolding turns
no_turn f s = refl

pub one_turn : {S : Type 0} (f : S → ℕ → S) (start s next : S) (i : ℕ) → s ≡ turns f start i → next ≡ f s i → next ≡ turns f start (i + 1)
unfolding turns
one_turn f start s next i p q = rw (add-one i) (q ∙ ap (λ (x : _). f x i) p)

-- what a turn keeps, all turns keep
pub turns_keep : {S : Type 0} (f : S → ℕ → S) (P : S → ℕ → Type 0) → ((s : S) (i : ℕ) → P s i → P (f s i) (suc i)) → (s : S) → P s 0 → (n : ℕ)
    → P (turns f s n) n
unfolding turns
turns_keep f P keep s p zero = p
turns_keep f P keep s p (suc n) = keep (turns f s n) n (turns_keep f P keep s p n)

-- ---- no more than 64 are among the first 64
pub first_most : {A : Type 0} (l : List A) → length (take 64 l) ≤ 64
first_most l = by (dec_le (length l) 64)
  where
    by : Dec (length l ≤ 64) → length (take 64 l) ≤ 64
    by (yes h) = rw (take_all 64 l h) h
    by (no h) = omega (arith, length-take-le 64 l (omega arith))
