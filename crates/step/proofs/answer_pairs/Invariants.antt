-- Pairs below k are answered, and all at or above k is as at entry.
use Rattle.step.specs.Step.{answer_in, PairsDone}
use Rattle.step.proofs.answer_pairs.Given as goal

abbrev pub invariant-loop-k : goal.invariant-loop-k
invariant-loop-k l =
    PairsDone (answer_in l.pools.numbers.now l.pools.links.now l.pools.hulls.now l.pairs l.transforms) l.k l.initial.caches l.initial.floats
    l.initial.bytes l.points l.caches l.floats l.bytes
