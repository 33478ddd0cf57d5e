-- "A hull carries its length unit: 1, 10, 100 or 1000 per metre" (document 02, i). Definitions only.
use Rattle.std.specs.Prelude.{Bool, cond, ◌||◌, ℕ, eqb, Float}
use Rattle.vector.specs.Rounded.{float}

unfoldable pub known_unit : ℕ → Bool
known_unit unit = eqb unit 1 || eqb unit 10 || eqb unit 100 || eqb unit 1000

-- `get_length_units_per_meter`: the unit as a float. What is no unit is refused by H1, before any limit is asked for; it counts as 1
unfoldable pub units_per_meter : ℕ → Float
units_per_meter unit =
    cond (eqb unit 10) (float 0x4120_0000) (cond (eqb unit 100) (float 0x42c8_0000) (cond (eqb unit 1000) (float 0x447a_0000) (float 0x3f80_0000)))
