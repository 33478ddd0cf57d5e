-- Inner: how one edge of B is scanned. The other two tests of signs of an edge of A against it; the first is in Marks.antt. Definitions only.
use Rattle.std.specs.Prelude.{ℕ, ◌+◌, ◌*◌, Bool, ◌||◌, List, get_or, Float}
use Rattle.std.specs.Float.{nan}
use Rattle.vector.specs.Rounded.{◌⊗◌}
use Rattle.hull_links.specs.declared.HullSize.{HullSize}
use Rattle.hull_links.specs.Links.{face}
use Rattle.axis_row.specs.inner.Marks.{at_least_eps}

-- edge i fails one of the other two: adc * bdc, cba * bdc. adc and bdc stand by A's faces
unfoldable pub fails_later : List Float → ℕ → List Float → HullSize → List ℕ → ℕ → Bool
fails_later table p along s l i =
    let adc = get_or along (face s l (2 * i)) nan in
    let bdc = get_or along (face s l (2 * i + 1)) nan in
    at_least_eps (adc ⊗ bdc) || at_least_eps (get_or table (p + i) nan ⊗ bdc)
