-- `inv_rotate_vector`: each call answers its own definition, and together they are this one.
use Rattle.rotation.specs.Rotation.{inv_rotate_of}
use Rattle.rotation.proofs.inv_rotate_vector.Goals as goal

pub returns : goal.returns
unfolding inv_rotate_of
returns c = simp (c.mul_add.ensures, c.cross-t3.ensures, c.mul_sub-t2.ensures, c.cross-t1.ensures)
