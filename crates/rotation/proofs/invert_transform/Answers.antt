-- `invert_transform`: each call answers its own definition, and together they are this one.
use Rattle.rotation.specs.Rotation.{invert_of}
use Rattle.rotation.proofs.invert_transform.Goals as goal

pub returns : goal.returns
unfolding invert_of
returns c = simp (c.neg-v.ensures, c.inv_rotate_vector-p.ensures, c.neg.ensures)
