-- `numbers_small`: what the closure answers is the definition's own expression.
use borrow.Author.Rules.{rules}
use Rattle.hull.specs.inner.Passes.{small_from}
use Rattle.hull.proofs.rule8.numbers_small.Goals as goal

pub returns : goal.returns
unfolding small_from
returns c = c.every.ensures _ (λ k b h q. search rules)
