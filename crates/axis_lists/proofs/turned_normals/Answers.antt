-- `turned_normals`: three fills, one a row of the rotation.
use Rattle.axis_lists.proofs.Lists.{three}
use Rattle.axis_lists.proofs.Fills.{same_fill}
use Rattle.axis_edges.specs.Edges.{turned_normal}
use Rattle.hull.specs.Numbers.{plane_at}
use Rattle.axis_lists.proofs.turned_normals.Goals as goal

pub returns : goal.returns
unfolding turned_normal
returns c =
    let h = c.args.hull.now in
    three (λ f. turned_normal c.args.r (plane_at h.size h.numbers.now f).normal) h.size.faces _ _ _ _ c.requires.1 c.requires.0.f_high
    (same_fill c.fill_turned_normals.ensures (λ k. rw c.row.ensures))
    (same_fill c.fill_turned_normals-2.ensures (λ k. rw c.row-2.ensures))
    (same_fill c.fill_turned_normals-3.ensures (λ k. rw c.row-3.ensures))
