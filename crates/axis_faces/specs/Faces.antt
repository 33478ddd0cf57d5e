-- The faces of one hull against the vertices of the other: the face phase of separating_axis.rs, whose lines stand in the comments. Definitions only.
use Rattle.std.specs.Prelude.{ℕ, List, Float}
use Rattle.vector.specs.declared.Vec3.{Vec3}
use Rattle.vector.specs.declared.Plane.{Plane}
use Rattle.vector.specs.Rounded.{◌⊕◌, ◌⊖◌, ◌⊗◌, float}
use Rattle.vector.specs.Arithmetic.{dot_of, neg_of, abs_vec_of}
use Rattle.vector.specs.Shape.{center_of, extents_of}
use Rattle.rotation.specs.Rotation.{Rows, mul_mv_of}
use Rattle.hull_links.specs.declared.HullSize.{HullSize}
use Rattle.hull.specs.Numbers.{box_of, vertex_at, plane_at}
use Rattle.axis_best.specs.declared.Lead.{Lead}
use Rattle.axis_best.specs.Leads.{better_of, none_of, lead_after}
use Rattle.axis_faces.specs.declared.Face.{Face}
use Rattle.axis_faces.specs.declared.Side.{Side}
use Rattle.axis_faces.specs.Support.{support_of}

-- direction = neg(mul_mv(inv_r, normal)) for a face of A, neg(mul_mv(r, normal)) for one of B: where the other hull is searched, in its own frame
unfoldable pub direction_of : Rows → Vec3 → Vec3
direction_of turn normal = neg_of (mul_mv_of turn normal)

-- bias = dot(direction, c) + 1.0625 * dot(abs(direction), h)
unfoldable pub bias_of : Vec3 → Vec3 → Vec3 → Float
bias_of direction c h = dot_of direction c ⊕ float 0x3f88_0000 ⊗ dot_of (abs_vec_of direction) h

-- the support vertex of hull (t, m) in this direction; c and h are the middle and the half-sizes of the hull's box
unfoldable pub farthest_vertex_of : HullSize → List Float → Vec3 → ℕ
farthest_vertex_of t m direction = support_of (bias_of direction (center_of (box_of m)) (extents_of (box_of m))) direction t m

-- support = (direction.x * v.x + direction.y * v.y) + direction.z * v.z
unfoldable pub exact_of : Vec3 → Vec3 → Float
exact_of direction v = direction.x ⊗ v.x ⊕ direction.y ⊗ v.y ⊕ direction.z ⊗ v.z

-- A's faces: the axis is the normal. B's faces: the axis is the direction
unfoldable pub face_axis_of : Side → Vec3 → Vec3 → Vec3
face_axis_of Side.A normal direction = normal
face_axis_of Side.B normal direction = direction

-- separation = (dot(axis, position) - offset) - support
unfoldable pub face_separation_of : Vec3 → Vec3 → Float → Float → Float
face_separation_of axis position offset support = dot_of axis position ⊖ offset ⊖ support

-- face f against the best before it. Of a face of A the numbers are (face, vertex), of one of B (vertex, face)
unfoldable pub face_taken_of : Side → ℕ → Face → ℕ → Lead → Lead
face_taken_of Side.A unit face f lead = better_of unit face.normal face.separation f face.vertex lead
face_taken_of Side.B unit face f lead = better_of unit face.normal face.separation face.vertex f lead

-- whose faces are tried, what turns their normals into the other hull's frame (inv_r for A's, r for B's), and the position of B in A's frame
module _ (side : Side) (turn : Rows) (position : Vec3) where
  -- the face in this plane against the vertices of hull (t, m)
  unfoldable pub face_of : HullSize → List Float → Plane → Face
  face_of t m plane =
      let direction = direction_of turn plane.normal in
      let vertex = farthest_vertex_of t m direction in
      let axis = face_axis_of side plane.normal direction in
      let support = exact_of direction (vertex_at t m vertex) in
      record { normal = axis; separation = face_separation_of axis position plane.offset support; vertex = vertex }

  -- the best of the faces of hull (s, n), in their order, against the vertices of hull (t, m)
  unfoldable pub face_search_of : HullSize → List Float → HullSize → List Float → Lead
  face_search_of s n t m = lead_after (λ f. face_taken_of side s.unit (face_of t m (plane_at s n f)) f) none_of s.faces
