-- Bounds of the separations of the face phase: what keeps each of them finite; those of the support search are in Starts.antt. Assumes nothing.
use lib.Ieee.{Float}
use Rattle.bounds.specs.Bound.{Below}
use Rattle.bounds.proofs.Laws.{subtracted, dot3}
use Rattle.vector.specs.declared.Vec3.{Vec3}
use Rattle.vector.specs.Bounded.{VecBelow}
use Rattle.vector.proofs.Bounded.{more_below, dot_below}
use Rattle.axis_faces.specs.declared.Side.{Side}
use Rattle.axis_faces.specs.Faces.{exact_of, face_axis_of, face_separation_of}

pub exact_below : {d v : Vec3} → VecBelow 8 d → VecBelow 22 v → Below 32 (exact_of d v)
unfolding exact_of
exact_below p q = dot3 tt p.on_x p.on_y p.on_z q.on_x q.on_y q.on_z

-- a normal as it stands, or the direction
pub axis_below : (side : Side) {normal d : Vec3} → VecBelow 1 normal → VecBelow 8 d → VecBelow 8 (face_axis_of side normal d)
unfolding face_axis_of
axis_below Side.A p q = more_below 8 tt p
axis_below Side.B p q = q

pub separation_below : {axis position : Vec3} {offset support : Float} → VecBelow 8 axis → VecBelow 22 position → Below 23 offset
    → Below 32 support → Below 34 (face_separation_of axis position offset support)
unfolding face_separation_of
separation_below p q r s = subtracted tt (subtracted tt (dot_below tt p q) r) s
