-- What it means that a run of values was written into a list, and the list of what a function gives. Definitions only.
use Rattle.std.specs.Prelude.{ℕ, zero, suc, ◌≡◌, List, [], ◌∷◌}
use Rattle.std.proofs.lemmas.List.Edits.{sets}

-- m is s with these values over it, from the place `at` on
pub record Wrote {A : Type 0} (s : List A) (at : ℕ) (vs m : List A) : Type 0 where
  pub by : m ≡ sets s at vs

-- g 0, g 1, .., g (n - 1)
unfoldable pub table : {A : Type 0} → (ℕ → A) → ℕ → List A
table g zero = []
table g (suc n) = g 0 ∷ table (λ i. g (suc i)) n
