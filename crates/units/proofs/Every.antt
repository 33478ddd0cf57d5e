-- What holds of 1, 10, 100 and 1000 holds of the units per metre, whatever the unit is. The laws of the limits cite it; nothing above them goes through
-- the four. Assumes nothing.
use Prim.Native.Nat.{ℕ}
use lib.Dec.{eqb}
use lib.Ieee.{Float}
use Rattle.bounds.proofs.Laws.{picked}
use Rattle.units.specs.Units.{units_per_meter}

pub every_unit : (P : Float → Type 0) → P (units_per_meter 1) → P (units_per_meter 10) → P (units_per_meter 100) → P (units_per_meter 1000)
    → (unit : ℕ) → P (units_per_meter unit)
unfolding units_per_meter
every_unit P a b c d unit = picked P (eqb unit 10) b (picked P (eqb unit 100) c (picked P (eqb unit 1000) d a))
