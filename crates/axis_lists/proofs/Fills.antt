-- The laws of a list that is filled. Assumes nothing.
use Prim.Native.Nat.{ℕ, ◌+◌, ◌*◌, ◌≤◌}
use mathlib.Core.List.{List}
use mathlib.Core.Path.{◌≡◌, ap, ◌∙◌}
use native.Mathlib.Omega.{arith}
use lib.ListN.{get_or}
use lib.Ieee.{Float, nan}
use Rattle.axis_lists.specs.inner.Fills.{Given, Filled, normal_at}

-- a stretch given by a relation that tells every number
pub told : {r : ℕ → Float → Type 0} {at n : ℕ} {was is : List Float} (g : ℕ → Float) → Given r at n was is → ((k : ℕ) (x : Float) → r k x → x ≡ g k)
    → Filled g at n was is
told g a h = record { long = a.long; kept = a.kept; made = λ k q. h k _ (a.made k q) }

-- the same numbers from another function
pub same_fill : {f g : ℕ → Float} {at n : ℕ} {was is : List Float} → Filled f at n was is → ((k : ℕ) → f k ≡ g k) → Filled g at n was is
same_fill a h = record { long = a.long; kept = a.kept; made = λ k q. a.made k q ∙ h k }

-- coordinate i of normal k stands i places after its first
pub coordinate : (xs : List Float) (from i k : ℕ) → normal_at xs (from + i) k ≡ get_or xs (from + 4 * k + i) nan
coordinate xs from i k = let place : from + i + 4 * k ≡ from + 4 * k + i = omega arith in ap (λ (j : ℕ). get_or xs j nan) place

-- a fill has every shorter one
pub fewer : {g : ℕ → Float} {at n : ℕ} {was is : List Float} (m : ℕ) → m ≤ n → Filled g at n was is → Filled g at m was is
fewer m h a = record { long = a.long; kept = λ k q. a.kept k (omega (arith, q)); made = λ k q. a.made k (omega (arith, q, h)) }
