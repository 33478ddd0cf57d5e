-- `rotate_vector`: each call answers its own definition, and together they are this one.
use Rattle.rotation.specs.Rotation.{rotate_of}
use Rattle.rotation.proofs.rotate_vector.Goals as goal

pub returns : goal.returns
unfolding rotate_of
returns c = simp (c.mul_add.ensures, c.cross-t3.ensures, c.mul_add-t2.ensures, c.cross-t1.ensures)
