-- Inner: what the tests that name a rule answer. Definitions only.
use Rattle.std.specs.Prelude.{Bool, List, [], ◌∷◌, ℕ, ◌+◌, ltb, get_or}
use Rattle.hull_links.specs.declared.HullSize.{HullSize}
use Rattle.hull_links.specs.Tests.{first_broken}
use Rattle.hull_links.specs.Rules.{h2, h3, h4, h5}

-- stored edge i of those from `from` on is below h
unfoldable pub stored_in_range : List ℕ → ℕ → ℕ → ℕ → Bool
stored_in_range l from h i = ltb (get_or l (from + i) 0) h

-- the first broken rule of H2 to H5, 0 if none
unfoldable pub broken_before_walks : HullSize → List ℕ → ℕ
broken_before_walks s l = first_broken 2 (h2 s l ∷ h3 s l ∷ h4 s l ∷ h5 s l ∷ [])
