-- `outside`: each call answers its own definition, and together they are this one.
use Rattle.reduce_scores.specs.Scores.{outside_of}
use Rattle.reduce_scores.proofs.outside.Goals as goal

pub returns : goal.returns
unfolding outside_of
returns c =
    let third = c.before.before.before in
    let second = third.before.before.before in
    let first = second.before.before.before in
    simp (
      c.max_float-2.ensures,
      c.max_float.ensures,
      third.side-3.ensures,
      third.sub-3.ensures,
      second.side-2.ensures,
      second.sub-2.ensures,
      first.side.ensures,
      first.sub.ensures,
    )
