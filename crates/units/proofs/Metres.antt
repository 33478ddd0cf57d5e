-- At unit 1 every limit is the number that document 01 names. Assumes nothing.
use mathlib.Core.Path.{◌≡◌, refl}
use lib.Ieee.{mul, of_bits}
use Rattle.vector.specs.Rounded.{float}
use Rattle.units.specs.Units.{units_per_meter}
use Rattle.units.specs.Limits.{slop, speculative, huge, coordinate_limit, offset_limit, edge_limit}

pub slop_1 : slop 1 ≡ float 0x3ba3_d70a
unfolding slop units_per_meter mul of_bits
slop_1 = refl

pub speculative_1 : speculative 1 ≡ float 0x3ca3_d70a
unfolding speculative slop units_per_meter mul of_bits
speculative_1 = refl

pub huge_1 : huge 1 ≡ float 0x47c3_5000
unfolding huge units_per_meter mul of_bits
huge_1 = refl

pub coordinate_1 : coordinate_limit 1 ≡ float 0x4580_0000
unfolding coordinate_limit units_per_meter mul of_bits
coordinate_1 = refl

pub offset_1 : offset_limit 1 ≡ float 0x4600_0000
unfolding offset_limit units_per_meter mul of_bits
offset_1 = refl

pub edge_1 : edge_limit 1 ≡ float 0x3a80_0000
unfolding edge_limit units_per_meter mul of_bits
edge_1 = refl
