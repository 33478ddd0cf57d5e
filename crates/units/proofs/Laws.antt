-- The limits at every unit: finite, in their order, and at most those of the largest unit. Assumes nothing.
use mathlib.Core.Path.{◌≡◌, refl}
use mathlib.Core.Bool.{true}
use mathlib.Core.Logic.{◌⊎◌, inl, inr}
use Prim.Native.Nat.{ℕ}
use lib.Dec.{T}
use lib.Ieee.{Float, lt, le, mul, of_bits, to_bits}
use Rattle.bounds.specs.Bound.{Below}
use Rattle.bounds.specs.LowBits.{index_of}
use Rattle.bounds.specs.Within.{Within}
use Rattle.bounds.proofs.Laws.{constant}
use Rattle.bounds.proofs.Within as finer
use Rattle.bounds.proofs.Sized.{sized}
use Rattle.vector.specs.Rounded.{float, ◌⊗◌}
use Rattle.units.specs.Units.{units_per_meter}
use Rattle.units.specs.Limits.{slop, speculative, huge, coordinate_limit, offset_limit, edge_limit}
use Rattle.units.proofs.Every.{every_unit}

-- ---- how large each is: 4096 * 1000 is below 2 ^ 22, 8192 * 1000 below 2 ^ 23, 100000 * 1000 below 2 ^ 27, 20 below 2 ^ 5
pub coordinate_below : (unit : ℕ) → Below 22 (coordinate_limit unit)
unfolding coordinate_limit units_per_meter mul of_bits
coordinate_below = every_unit (λ (p : Float). Below 22 (float 0x4580_0000 ⊗ p)) (constant 22 tt) (constant 22 tt) (constant 22 tt) (constant 22 tt)

-- 4096000, more closely
pub coordinate_within : (unit : ℕ) → Within 4000 26 (coordinate_limit unit)
unfolding coordinate_limit units_per_meter mul of_bits
coordinate_within =
    every_unit (λ (p : Float). Within 4000 26 (float 0x4580_0000 ⊗ p)) (finer.constant 4000 26 tt) (finer.constant 4000 26 tt) (finer.constant 4000 26 tt)
    (finer.constant 4000 26 tt)

pub offset_below : (unit : ℕ) → Below 23 (offset_limit unit)
unfolding offset_limit units_per_meter mul of_bits
offset_below = every_unit (λ (p : Float). Below 23 (float 0x4600_0000 ⊗ p)) (constant 23 tt) (constant 23 tt) (constant 23 tt) (constant 23 tt)

pub huge_below : (unit : ℕ) → Below 27 (huge unit)
unfolding huge units_per_meter mul of_bits
huge_below = every_unit (λ (p : Float). Below 27 (float 0x47c3_5000 ⊗ p)) (constant 27 tt) (constant 27 tt) (constant 27 tt) (constant 27 tt)

pub speculative_below : (unit : ℕ) → Below 5 (speculative unit)
unfolding speculative slop units_per_meter mul of_bits
speculative_below = every_unit (λ (p : Float). Below 5 (float 0x4080_0000 ⊗ (float 0x3ba3_d70a ⊗ p))) (constant 5 tt) (constant 5 tt) (constant 5 tt)
    (constant 5 tt)

-- finite and not negative, so that what is inside a box within the limit is within it
pub coordinate_sized : (unit : ℕ) → T (sized (coordinate_limit unit) (coordinate_limit unit))
unfolding coordinate_limit units_per_meter mul of_bits
coordinate_sized = every_unit (λ (p : Float). T (sized (float 0x4580_0000 ⊗ p) (float 0x4580_0000 ⊗ p))) tt tt tt tt

-- the low seven bits of the starting support value are 0, but for the largest
pub start_number : (unit : ℕ) → (index_of (huge unit) ≡ 0) ⊎ (huge unit ≡ float 0x4cbe_bc20)
unfolding huge units_per_meter index_of to_bits mul of_bits
start_number =
    every_unit (λ (p : Float). (index_of (float 0x47c3_5000 ⊗ p) ≡ 0) ⊎ (float 0x47c3_5000 ⊗ p ≡ float 0x4cbe_bc20)) (inl refl) (inl refl) (inl refl) (inr refl)

-- the square of the speculative distance is above 0
pub tolerance_positive : (unit : ℕ) → lt (float 0) (speculative unit ⊗ speculative unit) ≡ true
unfolding speculative slop units_per_meter mul of_bits lt
tolerance_positive =
    every_unit (λ (p : Float). lt (float 0) (float 0x4080_0000 ⊗ (float 0x3ba3_d70a ⊗ p) ⊗ (float 0x4080_0000 ⊗ (float 0x3ba3_d70a ⊗ p))) ≡ true)
    refl refl refl refl

-- ---- in their order: 1/1024 < slop < speculative < 4096 < 8192 < the starting support value, each by the unit
pub edge_under_slop : (unit : ℕ) → lt (edge_limit unit) (slop unit) ≡ true
unfolding edge_limit slop units_per_meter mul of_bits lt
edge_under_slop = every_unit (λ (p : Float). lt (float 0x3a80_0000 ⊗ p) (float 0x3ba3_d70a ⊗ p) ≡ true) refl refl refl refl

pub slop_under_speculative : (unit : ℕ) → lt (slop unit) (speculative unit) ≡ true
unfolding slop speculative units_per_meter mul of_bits lt
slop_under_speculative = every_unit (λ (p : Float). lt (float 0x3ba3_d70a ⊗ p) (float 0x4080_0000 ⊗ (float 0x3ba3_d70a ⊗ p)) ≡ true) refl refl refl refl

pub speculative_under_coordinate : (unit : ℕ) → lt (speculative unit) (coordinate_limit unit) ≡ true
unfolding speculative slop coordinate_limit units_per_meter mul of_bits lt
speculative_under_coordinate = every_unit (λ (p : Float). lt (float 0x4080_0000 ⊗ (float 0x3ba3_d70a ⊗ p)) (float 0x4580_0000 ⊗ p) ≡ true) refl refl refl refl

pub coordinate_under_offset : (unit : ℕ) → lt (coordinate_limit unit) (offset_limit unit) ≡ true
unfolding coordinate_limit offset_limit units_per_meter mul of_bits lt
coordinate_under_offset = every_unit (λ (p : Float). lt (float 0x4580_0000 ⊗ p) (float 0x4600_0000 ⊗ p) ≡ true) refl refl refl refl

pub offset_under_huge : (unit : ℕ) → lt (offset_limit unit) (huge unit) ≡ true
unfolding offset_limit huge units_per_meter mul of_bits lt
offset_under_huge = every_unit (λ (p : Float). lt (float 0x4600_0000 ⊗ p) (float 0x47c3_5000 ⊗ p) ≡ true) refl refl refl refl

-- ---- at most those of unit 1000
pub edge_largest : (unit : ℕ) → le (edge_limit unit) (edge_limit 1000) ≡ true
unfolding edge_limit units_per_meter mul of_bits le lt
edge_largest = every_unit (λ (p : Float). le (float 0x3a80_0000 ⊗ p) (edge_limit 1000) ≡ true) refl refl refl refl

pub slop_largest : (unit : ℕ) → le (slop unit) (slop 1000) ≡ true
unfolding slop units_per_meter mul of_bits le lt
slop_largest = every_unit (λ (p : Float). le (float 0x3ba3_d70a ⊗ p) (slop 1000) ≡ true) refl refl refl refl

pub speculative_largest : (unit : ℕ) → le (speculative unit) (speculative 1000) ≡ true
unfolding speculative slop units_per_meter mul of_bits le lt
speculative_largest = every_unit (λ (p : Float). le (float 0x4080_0000 ⊗ (float 0x3ba3_d70a ⊗ p)) (speculative 1000) ≡ true) refl refl refl refl

pub coordinate_largest : (unit : ℕ) → le (coordinate_limit unit) (coordinate_limit 1000) ≡ true
unfolding coordinate_limit units_per_meter mul of_bits le lt
coordinate_largest = every_unit (λ (p : Float). le (float 0x4580_0000 ⊗ p) (coordinate_limit 1000) ≡ true) refl refl refl refl

pub offset_largest : (unit : ℕ) → le (offset_limit unit) (offset_limit 1000) ≡ true
unfolding offset_limit units_per_meter mul of_bits le lt
offset_largest = every_unit (λ (p : Float). le (float 0x4600_0000 ⊗ p) (offset_limit 1000) ≡ true) refl refl refl refl

pub huge_largest : (unit : ℕ) → le (huge unit) (huge 1000) ≡ true
unfolding huge units_per_meter mul of_bits le lt
huge_largest = every_unit (λ (p : Float). le (float 0x47c3_5000 ⊗ p) (huge 1000) ≡ true) refl refl refl refl
