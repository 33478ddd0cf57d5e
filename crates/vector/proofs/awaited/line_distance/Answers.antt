-- `line_distance`: the tests pick the definition's case, and each call answers its own definition.
use Rattle.vector.specs.Awaited.{line_distance_of}
use Rattle.vector.proofs.awaited.line_distance.Goals as goal

pub returns-then-det : goal.returns-then-det
unfolding line_distance_of
returns-then-det c =
    let w = c.before.before in
    simp (
      simp (
        w.dot-a22.ensures,
        w.dot-a21.ensures,
        w.dot-a12.ensures,
        w.dot-a11.ensures,
      ) at
          c.if-det.true,
      c.mul_add.ensures,
      w.dot-b1.ensures,
      w.sub-w.ensures,
      w.dot-a11.ensures,
    )

pub returns : goal.returns
unfolding line_distance_of
returns c =
    let w = c.before.before.before in
    simp (
      simp (
        w.dot-a22.ensures,
        w.dot-a21.ensures,
        w.dot-a12.ensures,
        w.dot-a11.ensures,
      ) at
          c.if-det.false,
      c.mul_add-3.ensures,
      c.mul_add-2.ensures,
      w.dot-b2.ensures,
      w.dot-b1.ensures,
      w.sub-w.ensures,
      w.dot-a22.ensures,
      w.dot-a21.ensures,
      w.dot-a12.ensures,
      w.dot-a11.ensures,
    )
