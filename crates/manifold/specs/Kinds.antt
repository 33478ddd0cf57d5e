-- The types of a cache that name an axis: "Type 2 or 3: .. the cached face. Type 4: ..". Definitions only.
use Rattle.std.specs.Prelude.{ℕ, cond, eqb, Option, Some, None}
use Rattle.manifold.specs.declared.kinds.AxisKind.{AxisKind}

abbrev pub kind_number : AxisKind → ℕ
kind_number AxisKind.FaceA = 2
kind_number AxisKind.FaceB = 3
kind_number AxisKind.Edges = 4

abbrev pub axis_kind_of : ℕ → Option AxisKind
axis_kind_of kind =
    cond (eqb kind 2) (Some AxisKind.FaceA) (cond (eqb kind 3) (Some AxisKind.FaceB) (cond (eqb kind 4) (Some AxisKind.Edges) None))
