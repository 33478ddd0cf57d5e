-- The limits that are lengths, each a number of document 01 times the unit: "The hull rules' 4096, 8192 and 1/1024 are multiplied by it, as are slop,
-- speculative distance, the starting support value and the transform .. limits" (document 02, i). Each product is rounded once; all but slop's and
-- speculative's are exact. Definitions only; proofs/Metres.antt has them at unit 1, proofs/Laws.antt what holds at every unit.
use Rattle.std.specs.Prelude.{ℕ, Float}
use Rattle.vector.specs.Rounded.{float, ◌⊗◌}
use Rattle.units.specs.Units.{units_per_meter}

-- "Slop is binary32 0.005 (3ba3d70a)"
unfoldable pub slop : ℕ → Float
slop unit = float 0x3ba3_d70a ⊗ units_per_meter unit

-- "speculative distance four times that"
unfoldable pub speculative : ℕ → Float
speculative unit = float 0x4080_0000 ⊗ slop unit

-- "starting support value 100000 (47c35000)"
unfoldable pub huge : ℕ → Float
huge unit = float 0x47c3_5000 ⊗ units_per_meter unit

-- "Coordinates, padding and box within 4096"; a transform's "position is within 4096 on each axis"
unfoldable pub coordinate_limit : ℕ → Float
coordinate_limit unit = float 0x4580_0000 ⊗ units_per_meter unit

-- "Offsets within 8192"
unfoldable pub offset_limit : ℕ → Float
offset_limit unit = float 0x4600_0000 ⊗ units_per_meter unit

-- "1/1024 or more either way"
unfoldable pub edge_limit : ℕ → Float
edge_limit unit = float 0x3a80_0000 ⊗ units_per_meter unit
