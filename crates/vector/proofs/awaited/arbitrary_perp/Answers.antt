-- `arbitrary_perp`: the tests pick the definition's case, and each call answers its own definition.
use Rattle.vector.specs.Awaited.{arbitrary_perp_of}
use Rattle.vector.proofs.awaited.arbitrary_perp.Goals as goal
use Rattle.vector.proofs.awaited.arbitrary_perp.Goals.{then-v-via-then-v, then-v-via-else-v+then-v-2}

pub returns-then-v : goal.returns-then-v
unfolding arbitrary_perp_of
returns-then-v c =
    elim c.then-v.branch [
      | then-v-via-then-v w ↦ simp (w.if-v.true, c.normalize.ensures)
      | then-v-via-else-v+then-v-2 w ↦ simp (w.if-v-2.true, w.if-v.false, c.normalize.ensures)
    ]

pub returns : goal.returns
unfolding arbitrary_perp_of
returns c = simp (c.if-v-2.false, c.if-v.false, c.normalize-2.ensures)
