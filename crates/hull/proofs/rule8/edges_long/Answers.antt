-- `edges_long`: what the closure answers is the definition's own expression.
use borrow.Author.Rules.{rules}
use Rattle.hull.proofs.rule8.edges_long.Goals as goal

pub returns : goal.returns
returns c = c.every.ensures _ (λ k b h q. search rules)
