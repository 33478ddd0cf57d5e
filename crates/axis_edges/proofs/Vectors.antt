-- The differences and sums of the edge phase are those of vectors. Assumes nothing.
use mathlib.Core.Path.{◌≡◌, refl}
use Rattle.vector.specs.declared.Vec3.{Vec3}
use Rattle.vector.specs.Arithmetic.{add_of, sub_of}
use Rattle.axis_edges.specs.Edges.{difference_of, sum_of}

pub sub_is : (a b : Vec3) → sub_of a b ≡ difference_of a b
unfolding sub_of difference_of
sub_is a b = refl

pub add_is : (a b : Vec3) → add_of a b ≡ sum_of a b
unfolding add_of sum_of
add_is a b = refl
