-- Request c of document 02: "Add H9, tested last: every half-edge can be reached from half-edge 0 by next and twin, and V - H/2 + F = 2. Demands 2 and
-- 3 are then read over the smaller set of hulls." Definitions only; what H9 says is `hull_shell: Shell.antt` `OneShell`.
use Rattle.std.specs.Prelude.{List, [], ◌∷◌, ℕ, Float}
use Rattle.hull_links.specs.declared.HullSize.{HullSize}
use Rattle.hull_links.specs.Tests.{first_broken}
use Rattle.hull_links.specs.Rules.{h1, h2, h3, h4, h5, h6, h7}
use Rattle.hull.specs.Rule8.{h8}

-- the first broken rule of document 01's own, H1 to H8, 0 if none
unfoldable pub broken_of_eight : HullSize → List Float → List ℕ → ℕ
broken_of_eight s n l = first_broken 1 (h1 s n l ∷ h2 s l ∷ h3 s l ∷ h4 s l ∷ h5 s l ∷ h6 s l ∷ h7 s l ∷ h8 s n l ∷ [])
