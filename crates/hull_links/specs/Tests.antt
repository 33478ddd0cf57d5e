-- Tests that compute, put together: both, either, one where the other, all below a number, and the first that fails. Definitions only.
-- They are shut and not `abbrev`, so that antt reads their arguments off a fact about them.
use Rattle.std.specs.Prelude.{Bool, true, false, List, [], ◌∷◌, ℕ, zero, suc}

-- both tests are true
infixl 35 ◌&◌
unfoldable pub ◌&◌ : Bool → Bool → Bool
true & b = b
false & b = false

-- one of the two tests is true
infixl 34 ◌or◌
unfoldable pub ◌or◌ : Bool → Bool → Bool
true or b = true
false or b = b

-- the second test is true where the first is
unfoldable pub implies : Bool → Bool → Bool
implies true b = b
implies false b = true

-- the test p is true of 0, 1, .., k - 1
unfoldable pub all : (ℕ → Bool) → ℕ → Bool
all p zero = true
all p (suc k) = all p k & p k

-- the test p is true of one of 0, 1, .., k - 1
unfoldable pub any : (ℕ → Bool) → ℕ → Bool
any p zero = false
any p (suc k) = any p k or p k

-- the number of the first test that is false, where the first of them has number k; 0 if none is
unfoldable pub first_broken : ℕ → List Bool → ℕ
first_broken k [] = 0
first_broken k (true ∷ tests) = first_broken (suc k) tests
first_broken k (false ∷ tests) = k
