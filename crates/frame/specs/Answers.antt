-- What a function says that puts an answer into a list that is lent. Definitions only.
use Rattle.std.specs.Prelude.{ℕ, ◌≡◌, List, ◌++◌, length, drop}

-- of the values to put, the list o that was lent, the number r that is returned, and what the list holds at the end
pub record Answers (vs o : List ℕ) (r : ℕ) (o' : List ℕ) : Type 0 where
  -- how many they are
  pub count : r ≡ length vs
  -- they stand first, and behind them what was there
  pub bytes : o' ≡ vs ++ drop (length vs) o
