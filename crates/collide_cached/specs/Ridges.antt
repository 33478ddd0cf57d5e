-- Two edges with the faces on their sides: "Type 4: the three sign tests, the 0.005 parallel test, then the axis." Definitions only.
use Rattle.std.specs.Prelude.{ℕ, ◌+◌, Bool, false, cond, List, Float}
use Rattle.std.specs.Float.Ieee as Ieee
use Rattle.vector.specs.declared.Vec3.{Vec3}
use Rattle.vector.specs.declared.Transform.{Transform}
use Rattle.vector.specs.Rounded.{◌⊖◌, ◌⊗◌, ◌⊘◌, float}
use Rattle.vector.specs.Scalar.{max_of}
use Rattle.vector.specs.Arithmetic.{sub_of, dot_of, length_squared_of, lerp_of, normalize_of}
use Rattle.rotation.specs.Rotation.{rotate_of, transform_point_of}
use Rattle.hull_links.specs.declared.HullSize.{HullSize}
use Rattle.hull_links.specs.Links.{origin, face}
use Rattle.hull.specs.Numbers.{vertex_at, plane_at}
use Rattle.collide_cached.specs.declared.ridges.Edge.{Edge}
use Rattle.collide_cached.specs.declared.ridges.Ridge.{Ridge}

-- half-edges e and e + 1 of a hull: their direction, where they end, and the normals of the faces on both sides
unfoldable pub ridge_of : HullSize → List Float → List ℕ → ℕ → Ridge
ridge_of s n l e =
    let p = vertex_at s n (origin s l e) in
    let q = vertex_at s n (origin s l (e + 1)) in
    record { direction = sub_of q p; end = q; normal0 = (plane_at s n (face s l e)).normal; normal1 = (plane_at s n (face s l (e + 1))).normal }

-- the same carried into A's frame
unfoldable pub carried_ridge : Transform → HullSize → List Float → List ℕ → ℕ → Ridge
carried_ridge x t m k e =
    let p = transform_point_of x (vertex_at t m (origin t k e)) in
    let q = transform_point_of x (vertex_at t m (origin t k (e + 1))) in
    record {
      direction = sub_of q p;
      end = q;
      normal0 = rotate_of x.q (plane_at t m (face t k e)).normal;
      normal1 = rotate_of x.q (plane_at t m (face t k (e + 1))).normal;
    }

-- what both are read from: where each half-edge starts, and the normal of its face
unfoldable pub edge_at : HullSize → List Float → List ℕ → ℕ → Edge
edge_at s n l e =
    record {
      from = vertex_at s n (origin s l e);
      to = vertex_at s n (origin s l (e + 1));
      normal0 = (plane_at s n (face s l e)).normal;
      normal1 = (plane_at s n (face s l (e + 1))).normal;
    }

-- cba*dba < 0, adc*bdc < 0 and cba*bdc > 0
unfoldable pub cross_over : Float → Float → Float → Float → Bool
cross_over cba dba adc bdc = cond (Ieee.lt (cba ⊗ dba) (float 0)) (cond (Ieee.lt (adc ⊗ bdc) (float 0)) (Ieee.lt (float 0) (cba ⊗ bdc)) false) false

-- the tolerance: 0.005
abbrev tol : Float
tol = float 0x3ba3_d70a

-- not near parallel: the larger square is at least tol * tol * length_squared(direction)
unfoldable pub wide_of : Float → Float → Vec3 → Bool
wide_of cba dba d = Ieee.le (tol ⊗ tol ⊗ length_squared_of d) (max_of (cba ⊗ cba) (dba ⊗ dba))

-- both tests, with cba = u_b·e_a, dba = v_b·e_a, adc = -(u_a·e_b), bdc = -(v_a·e_b)
unfoldable pub crosses_of : Ridge → Ridge → Bool
crosses_of a b =
    let cba = dot_of b.normal0 a.direction in
    let dba = dot_of b.normal1 a.direction in
    let adc = Ieee.neg (dot_of a.normal0 b.direction) in
    let bdc = Ieee.neg (dot_of a.normal1 b.direction) in
    cond (cross_over cba dba adc bdc) (wide_of cba dba a.direction) false

-- the vector between u_b and v_b at cba / (cba - dba), normalised
unfoldable pub axis_between : Ridge → Ridge → Vec3
axis_between a b =
    let cba = dot_of b.normal0 a.direction in
    let dba = dot_of b.normal1 a.direction in
    normalize_of (lerp_of b.normal0 b.normal1 (cba ⊘ (cba ⊖ dba)))
