-- What is made of a state place by place. Definitions only.
use Rattle.std.specs.Prelude.{ℕ, zero, suc}

-- what the turns at the places 0, 1, .., n - 1 make of a state
unfoldable pub turns {ℓ} : {S : Type ℓ} → (S → ℕ → S) → S → ℕ → S
turns f s zero = s
turns f s (suc n) = f (turns f s n) n
