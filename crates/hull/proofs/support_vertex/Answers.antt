-- `support_vertex`: the slices lent are the hull's three lists.
use Rattle.hull.proofs.Support.{lists_are}
use Rattle.hull.proofs.support_vertex.Goals as goal

pub returns : goal.returns
returns c =
    let a = c.args in
    lists_are a.hull.now.size a.hull.now.numbers.now a.d _ c.padded-p.ensures c.find_hull_support_vertex.ensures
