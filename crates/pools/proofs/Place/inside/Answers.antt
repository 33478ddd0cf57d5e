-- The numbers, then the links.
use mathlib.Core.Path.{◌∙◌}
use borrow.Author.Tests.{lt-leb}
use Rattle.pools.proofs.Laws.{inside_not, inside_links}
use Rattle.pools.proofs.Place.inside.Goals as goal

pub returns-then-numbers_end-n : goal.returns-then-numbers_end-n
returns-then-numbers_end-n c = inside_links _ _ _ _ _ c.numbers_end.ensures c.links_end.ensures c.if-numbers_end-n.true

pub returns-else-numbers_end-n : goal.returns-else-numbers_end-n
returns-else-numbers_end-n c = lt-leb _ _ c.if-numbers_end-n.false ∙ inside_not _ _ _ _ c.numbers_end.ensures c.if-numbers_end-n.false
