-- Inner: what a walk that came back has found, and a tour of walks that together are as long as there are numbers: how the functions that decide the
-- rules tell each other what they saw. Definitions only.
use Rattle.std.specs.Prelude.{◌≡◌, ℕ, ◌≤◌, ◌<◌, length}
use Rattle.hull_links.specs.Walks.{joined, ring, steps}

-- from s, n steps lead back to s and fewer do not; each number passed has P
pub record Walk (step : ℕ → ℕ) (P : ℕ → Type 0) (s n : ℕ) : Type 0 where
  pub some : 1 ≤ n
  pub back : steps step n s ≡ s
  pub apart : (i : ℕ) → 1 ≤ i → i < n → steps step i s ≡ s → ⊥
  pub each : (i : ℕ) → i < n → P (steps step i s)

-- from each start below k a walk of at least `least` and at most h steps, in which each number has P of the start's number
pub record Walked (step start : ℕ → ℕ) (P : ℕ → ℕ → Type 0) (least h k : ℕ) : Type 0 where
  pub walks : (f : ℕ) → f < k → Walk step (P f) (start f) (length (ring step h (start f)))
  pub long : (f : ℕ) → f < k → least ≤ length (ring step h (start f))
  pub short : (f : ℕ) → f < k → length (ring step h (start f)) ≤ h

-- and together the walks are h long
pub record Toured (step start : ℕ → ℕ) (P : ℕ → ℕ → Type 0) (least h k : ℕ) : Type 0 where
  pub walked : Walked step start P least h k
  pub whole : length (joined (λ f. ring step h (start f)) k) ≡ h
