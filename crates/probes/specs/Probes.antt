-- What a probe of several helpers answers: each helper's definition, field by field. Definitions only.
use Rattle.std.specs.Prelude.{ℕ, [], ◌∷◌, Float}
use Rattle.vector.specs.declared.Vec3.{Vec3}
use Rattle.vector.specs.declared.Plane.{Plane}
use Rattle.vector.specs.declared.Aabb.{Aabb}
use Rattle.vector.specs.declared.Transform.{Transform}
use Rattle.vector.specs.Scalar.{min_of, max_of}
use Rattle.vector.specs.Arithmetic.{add_of, sub_of, neg_of, abs_vec_of, cross_of, mul_sv_of, mul_add_of, mul_sub_of, lerp_of, normalize_of, dot_of}
use Rattle.vector.specs.Arithmetic.{length_squared_of}
use Rattle.rotation.specs.Rotation.{matrix_of, transpose_of, mul_mv_of, rotate_of, inv_rotate_of, transform_point_of, inv_transform_point_of, invert_of}
use Rattle.vector.specs.Shape.{plane_separation_of, plane_of, center_of, extents_of, point_support_of}
use Rattle.vector.specs.Awaited.{arbitrary_perp_of, line_distance_of, is_within_segments_of}
use Rattle.units.specs.Units.{units_per_meter}
use Rattle.units.specs.Limits as limits
use Rattle.probes.specs.declared.Vectors.{Vectors}
use Rattle.probes.specs.declared.Rotations.{Rotations}
use Rattle.probes.specs.declared.Shapes.{Shapes}
use Rattle.probes.specs.declared.Lines.{Lines}
use Rattle.probes.specs.declared.Limits.{Limits}

abbrev pub vectors_of : Vec3 → Vec3 → Float → Vectors
vectors_of a b s =
    record {
      sum = add_of a b;
      difference = sub_of a b;
      opposite = neg_of a;
      size = abs_vec_of a;
      across = cross_of a b;
      scaled = mul_sv_of s a;
      onward = mul_add_of a s b;
      back = mul_sub_of a s b;
      between = lerp_of a b s;
      unit = normalize_of a;
      along = dot_of a b;
      square = length_squared_of a;
      least = min_of a.x s;
      greatest = max_of a.x s;
    }

abbrev pub rotations_of : Transform → Vec3 → Rotations
rotations_of t v =
    record {
      by_rows = mul_mv_of (matrix_of t.q) v;
      by_columns = mul_mv_of (transpose_of (matrix_of t.q)) v;
      turned = rotate_of t.q v;
      turned_back = inv_rotate_of t.q v;
      carried = transform_point_of t v;
      carried_back = inv_transform_point_of t v;
      inverse = invert_of t;
    }

abbrev pub shapes_of : Plane → Vec3 → Aabb → Shapes
shapes_of plane p b =
    record {
      separation = plane_separation_of plane p;
      through = plane_of plane.normal p;
      center = center_of b;
      extents = extents_of b;
      farther = point_support_of (b.lower ∷ b.upper ∷ []) p;
    }

abbrev pub lines_of : Vec3 → Vec3 → Vec3 → Vec3 → Lines
lines_of p1 d1 p2 d2 =
    let line = line_distance_of p1 d1 p2 d2 in
    record {
      perp = arbitrary_perp_of p1;
      point1 = line.point1;
      point2 = line.point2;
      s1 = line.s1;
      s2 = line.s2;
      within = is_within_segments_of line;
    }

abbrev pub limits_of : ℕ → Limits
limits_of unit =
    record {
      slop = limits.slop unit;
      speculative = limits.speculative unit;
      huge = limits.huge unit;
      units = units_per_meter unit;
      coordinate = limits.coordinate_limit unit;
      offset = limits.offset_limit unit;
      edge = limits.edge_limit unit;
    }
