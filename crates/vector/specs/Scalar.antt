-- Single numbers. Provisional readings, each beside its words in docs/DECISIONS.md. Definitions only.
use Rattle.std.specs.Prelude.{ℕ, cond, ltb, Float}
use Rattle.std.specs.Float.Ieee as Ieee
use Rattle.vector.specs.Rounded.{float}

-- `-a` where `a < 0`, else `a`
unfoldable pub abs_of : Float → Float
abs_of a = cond (Ieee.lt a (float 0)) (Ieee.neg a) a

-- `a` where `a < b`, else `b`
unfoldable pub min_of : Float → Float → Float
min_of a b = cond (Ieee.lt a b) a b

-- `a` where `a > b`, else `b`
unfoldable pub max_of : Float → Float → Float
max_of a b = cond (Ieee.lt b a) a b

-- `a` where `a < b`, else `b`, of counts
unfoldable pub min_int_of : ℕ → ℕ → ℕ
min_int_of a b = cond (ltb a b) a b
