-- `abs`: each call answers its own definition, and together they are this one.
use Rattle.vector.specs.Arithmetic.{abs_vec_of}
use Rattle.vector.proofs.arithmetic.abs.Goals as goal

pub returns : goal.returns
unfolding abs_vec_of
returns c = simp (c.abs_float-3.ensures, c.abs_float-2.ensures, c.abs_float.ensures)
