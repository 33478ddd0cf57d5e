-- `worked`: the axis tried again, and what comes after it.
use mathlib.Core.Path.{ap, ◌∙◌}
use Rattle.collide.specs.Call.{after_cached}
use Rattle.collide.proofs.Steps.{after_retried}
use Rattle.collide.proofs.worked.Goals as goal

pub returns : goal.returns
returns c = let g = c.args in let a = g.a.now in let b = g.b.now in
    c.after_cached.ensures ∙ ap (after_cached a.size a.numbers.now a.links.now b.size b.numbers.now b.links.now g.transform g.cache) c.retried-cached.ensures
    ∙ after_retried a.size a.numbers.now a.links.now b.size b.numbers.now b.links.now g.transform g.cache
