-- `flip_pair`: the tests pick the definition's case, and each call answers its own definition.
use borrow.Author.Tests.{le-ltb, lt-ltb}
use Rattle.manifold.specs.Pairs.{flip_of}
use Rattle.manifold.proofs.pairs.flip_pair.Goals as goal
use Rattle.manifold.proofs.pairs.flip_pair.Goals.{then-pair-gt1-via-then-pair-gt1, then-pair-gt1-via-else-pair-gt1+then-pair-gt1-2}

pub returns-then-pair-gt1 : goal.returns-then-pair-gt1
unfolding flip_of
returns-then-pair-gt1 c =
    elim c.then-pair-gt1.branch [
      | then-pair-gt1-via-then-pair-gt1 w ↦ simp (lt-ltb _ _ w.if-pair-gt1.true)
      | then-pair-gt1-via-else-pair-gt1+then-pair-gt1-2 w ↦
          simp (lt-ltb _ _ w.if-pair-gt1-2.true, le-ltb _ _ w.if-pair-gt1.false)
    ]

pub returns : goal.returns
unfolding flip_of
returns c = simp (le-ltb _ _ c.if-pair-gt1-2.false, le-ltb _ _ c.if-pair-gt1.false)
