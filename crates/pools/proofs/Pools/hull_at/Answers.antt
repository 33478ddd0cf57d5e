-- The parts of the pools that are the hull's lists.
use mathlib.Core.Path.{refl}
use borrow.Author.Rules.{rules}
use Rattle.pools.proofs.Laws.{lies, numbers_part, links_part}
use Rattle.pools.proofs.Pools.hull_at.Goals as goal

pub slice_bounds-result-end : goal.slice_bounds-result-end
slice_bounds-result-end c = let in_pools = lies _ _ _ c.requires.1 in search rules

pub slice_bounds-result-end-2 : goal.slice_bounds-result-end-2
slice_bounds-result-end-2 c = let in_pools = lies _ _ _ c.requires.1 in search rules

pub returns : goal.returns
returns c = (refl, numbers_part _ _ c.numbers_end.ensures, links_part _ _ c.links_end.ensures)
