-- `parallel`: the larger square and the square of the length are the helpers' answers.
use Rattle.axis_edges.specs.Edges.{parallel_of}
use Rattle.vector.specs.Arithmetic.{length_squared_of}
use Rattle.axis_edges.proofs.parallel.Goals as goal

pub returns : goal.returns
unfolding parallel_of length_squared_of
returns c = simp (c.max_float.ensures, c.length_squared.ensures)
