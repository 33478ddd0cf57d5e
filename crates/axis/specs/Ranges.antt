-- The numbers of an answer are in range: its faces are faces of their hulls, its pair of edges half-edges. Definitions only; proofs/Ranges.antt shows
-- it of every search.
use Rattle.std.specs.Prelude.{◌<◌, Option, Some, None}
use Rattle.hull_links.specs.declared.HullSize.{HullSize}
use Rattle.axis.specs.declared.Axis.{Axis}
use Rattle.axis.specs.declared.Search.{Search}

unfoldable pub EdgeInRange : HullSize → HullSize → Option Axis → Type 0
EdgeInRange s t (Some e) = (e.index_a < s.half_edges) × (e.index_b < t.half_edges)
EdgeInRange s t None = Unit {0}

unfoldable pub InRange : HullSize → HullSize → Search → Type 0
InRange s t (Search.Apart a) = Unit {0}
InRange s t (Search.Found f) = (f.face_a.index_a < s.faces) × (f.face_b.index_b < t.faces) × EdgeInRange s t f.edge
