-- A list that has a part of so many places for each number below n, and a sum. Definitions only.
use Rattle.std.specs.Prelude.{ℕ, zero, suc, ◌+◌, ◌*◌, ◌<◌, ◌≡◌, List, length, take, drop}

-- part k of a list that is cut into parts of w places
abbrev pub part_of : {A : Type 0} → ℕ → List A → ℕ → List A
part_of w l k = take w (drop (w * k) l)

-- Part k of `is` is g k for every k below n, and behind them stands what stood in `was`.
pub record Parts {A : Type 0} (w : ℕ) (g : ℕ → List A) (n : ℕ) (was is : List A) : Type 0 where
  pub long : length is ≡ length was
  pub made : (k : ℕ) → k < n → part_of w is k ≡ g k
  pub kept : drop (w * n) is ≡ drop (w * n) was

-- g 0 + g 1 + .. + g (n - 1)
unfoldable pub sum_of : (ℕ → ℕ) → ℕ → ℕ
sum_of g zero = 0
sum_of g (suc n) = sum_of g n + g n
