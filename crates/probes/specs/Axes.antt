-- The answer of the axis search as one record. Definitions only.
use Rattle.std.specs.Prelude.{true, false, Option, Some, None}
use Rattle.vector.specs.Rounded.{float}
use Rattle.vector.specs.Arithmetic.{zero_vec}
use Rattle.manifold.specs.Kinds.{kind_number}
use Rattle.axis.specs.declared.Axis.{Axis}
use Rattle.axis.specs.declared.Search.{Search}
use Rattle.probes.specs.declared.axes.Searched.{Searched}

abbrev pub zero_axis : Axis
zero_axis = record { normal = zero_vec; separation = float 0; index_a = 0; index_b = 0 }

unfoldable pub paired_of : Axis → Axis → Option Axis → Searched
paired_of a b (Some e) =
    record { apart = false; kind = 0; pair = true; separation = float 0; index_a = 0; index_b = 0; face_a = a; face_b = b; edge = e }
paired_of a b None =
    record { apart = false; kind = 0; pair = false; separation = float 0; index_a = 0; index_b = 0; face_a = a; face_b = b; edge = zero_axis }

unfoldable pub searched_of : Search → Searched
searched_of (Search.Apart x) =
    record {
      apart = true;
      kind = kind_number x.kind;
      pair = false;
      separation = x.separation;
      index_a = x.index_a;
      index_b = x.index_b;
      face_a = zero_axis;
      face_b = zero_axis;
      edge = zero_axis;
    }
searched_of (Search.Found f) = paired_of f.face_a f.face_b f.edge
