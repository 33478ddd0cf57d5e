-- `edge_long`: the origins are in range by H2, and each call answers its own definition.
use mathlib.Core.Path.{ap, ap₂, ◌∙◌}
use native.Mathlib.Omega.{arith}
use Rattle.hull.specs.Numbers.{vertex_at}
use Rattle.hull_limits.specs.Measures.{ends_apart}
use Rattle.hull.specs.Rule8.{edge_long}
use Rattle.hull.proofs.Laws.{origin_in_list}
use Rattle.hull.proofs.rule8.edge_long.Goals as goal

pub vertex_at-requires : goal.vertex_at-requires
vertex_at-requires c =
    let p = c.requires in
    (p.0, origin_in_list _ _ p.2 _ _ (omega arith) c.origin_of-a.ensures)

pub vertex_at-requires-2 : goal.vertex_at-requires-2
vertex_at-requires-2 c =
    let p = c.requires in
    (p.0, origin_in_list _ _ p.2 _ _ (omega arith) c.origin_of-b.ensures)

pub returns : goal.returns
unfolding edge_long
returns c =
    let b = c.before.before.before in
    rw (← b.requires.4) (c.ends_apart.ensures
    ∙ ap₂ (ends_apart _) (c.vertex_at.ensures ∙ ap (vertex_at _ _) b.origin_of-a.ensures)
    (c.vertex_at-2.ensures ∙ ap (vertex_at _ _) b.origin_of-b.ensures))
