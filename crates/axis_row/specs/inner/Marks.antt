-- Inner: how one edge of B is scanned. The numbers of A's edges that pass the first test of signs against it, in their order. Definitions only.
use Rattle.std.specs.Prelude.{ℕ, zero, suc, ◌+◌, ◌<◌, ◌≤◌, Bool, cond, List, [], ◌∷◌, ◌++◌, ◌≡◌, eqb, length, get_or, Float}
use Rattle.std.specs.Float.Ieee as Ieee
use Rattle.std.specs.Float.{nan}
use Rattle.vector.specs.Rounded.{◌⊗◌}
use Rattle.axis_edges.specs.Edges.{eps}

-- a product at or above -0.0001
unfoldable pub at_least_eps : Float → Bool
at_least_eps x = Ieee.le eps x

-- edge i fails the first test: cba * dba, which stand in the table from p and from q on
unfoldable pub fails_first : List Float → ℕ → ℕ → ℕ → Bool
fails_first table p q i = at_least_eps (get_or table (p + i) nan ⊗ get_or table (q + i) nan)

-- the numbers of a list that do not fail, in their order
unfoldable pub passing : (ℕ → Bool) → List ℕ → List ℕ
passing fails [] = []
passing fails (i ∷ is) = cond (fails i) (passing fails is) (i ∷ passing fails is)

-- 0 to n - 1
unfoldable pub up_to : ℕ → List ℕ
up_to zero = []
up_to (suc n) = up_to n ++ (n ∷ [])

-- two rows of so many places stand in the table from p and from q on, and the first n of each are looked at
pub record Wide (width n p q : ℕ) (table : List Float) : Type 0 where
  pub enough : n ≤ width
  pub few : width ≤ 128
  pub room0 : p + width ≤ length table
  pub room1 : q + width ≤ length table

-- what the first pass leaves: for each number below n, 0 where it fails and 1 where it passes; the count says how many pass
pub record Marked (fails : ℕ → Bool) (n count : ℕ) (marks : List ℕ) : Type 0 where
  pub long : length marks ≡ 128
  pub each : (k : ℕ) → k < n → get_or marks k 0 ≡ cond (fails k) 0 1
  pub counted : count ≡ length (passing fails (up_to n))

-- number k has no mark
unfoldable pub unmarked : List ℕ → ℕ → Bool
unmarked marks k = eqb (get_or marks k 0) 0
