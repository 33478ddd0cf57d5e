-- The refusals that are given before any work: the first rows of document 01's table in its order, and 17 of document 02, i, "units differ, after 2 and
-- before 3". Definitions only.
use Rattle.std.specs.Prelude.{ℕ, ◌%◌, Bool, cond, List, eqb, ltb, Float}
use Rattle.vector.specs.declared.Transform.{Transform}
use Rattle.manifold.specs.declared.SatCache.{SatCache}
use Rattle.hull_links.specs.declared.HullSize.{HullSize}
use Rattle.hull_links.specs.Tests.{◌&◌, implies}
use Rattle.hull_limits.specs.Transform.{transform_right}
use Rattle.hull.specs.Rule8.{broken_rule}

-- even, and below the hull's H
unfoldable pub first_half : HullSize → ℕ → Bool
first_half s e = eqb (e % 2) 0 & ltb e s.half_edges

-- "4: the cache's type is 2 and index_a >= F of A; 3 and index_b >= F of B; 4 and either index is odd or not below its hull's H": where it is not so
unfoldable pub cache_right : HullSize → HullSize → SatCache → Bool
cache_right s t c =
    implies (eqb c.kind 2) (ltb c.index_a s.faces)
    & implies (eqb c.kind 3) (ltb c.index_b t.faces)
    & implies (eqb c.kind 4) (first_half s c.index_a & first_half t c.index_b)

-- a number unless the test is true; else what the later tests give
abbrev pub unless : ℕ → Bool → ℕ → ℕ
unless number test later = cond test later number

-- "1, 2: hull A, hull B breaks a rule"; else what the later tests give
abbrev hulls_refusal_of : HullSize → List Float → List ℕ → HullSize → List Float → List ℕ → ℕ → ℕ
hulls_refusal_of s n l t m k later =
    unless 1 (eqb (broken_rule s n l) 0)
    (unless 2 (eqb (broken_rule t m k) 0)
    later)

-- 17, "both hulls of a call must agree"; "3: the transform breaks a rule", whose limit goes by their unit; else what the later tests give
abbrev pub placed_refusal_of : HullSize → HullSize → Transform → ℕ → ℕ
placed_refusal_of s t x later =
    unless 17 (eqb s.unit t.unit)
    (unless 3 (transform_right s.unit x)
    later)

-- what is left of two hulls that break no rule: 17, 3, then 4
abbrev pub later_refusal_of : HullSize → HullSize → Transform → SatCache → ℕ
later_refusal_of s t x cache = placed_refusal_of s t x (unless 4 (cache_right s t cache) 0)

-- of a call: the number of the first that is given, 0 if none
unfoldable pub refusal_of : HullSize → List Float → List ℕ → HullSize → List Float → List ℕ → Transform → SatCache → ℕ
refusal_of s n l t m k x cache = hulls_refusal_of s n l t m k (later_refusal_of s t x cache)

-- of a question, which has no cache: "1, 2, 3 only, in their old order" (document 02, b), and 17 in its place
unfoldable pub question_refusal_of : HullSize → List Float → List ℕ → HullSize → List Float → List ℕ → Transform → ℕ
question_refusal_of s n l t m k x = hulls_refusal_of s n l t m k (placed_refusal_of s t x 0)
