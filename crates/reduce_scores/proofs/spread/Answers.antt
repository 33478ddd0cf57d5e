-- `spread`: each call answers its own definition, and together they are this one.
use Rattle.reduce_scores.specs.Scores.{across_of, spread_of}
use Rattle.reduce_scores.proofs.spread.Goals as goal

pub returns : goal.returns
unfolding across_of spread_of
returns c =
    let sub = c.sub-d.ensures in
    let dot = c.dot.ensures in
    simp (c.length_squared.ensures, c.max_float-deep.ensures, c.mul_sub-across.ensures, dot, sub)
