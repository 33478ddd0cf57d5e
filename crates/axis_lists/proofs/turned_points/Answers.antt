-- `turned_points`: three fills, one a row of the rotation.
use Rattle.axis_lists.proofs.Lists.{three}
use Rattle.axis_lists.proofs.Fills.{same_fill}
use Rattle.axis_edges.specs.Edges.{turned_point}
use Rattle.hull.specs.Numbers.{vertex_at}
use Rattle.axis_lists.proofs.turned_points.Goals as goal

pub returns : goal.returns
unfolding turned_point
returns c =
    let h = c.args.hull.now in
    three (λ v. turned_point c.args.r c.args.position (vertex_at h.size h.numbers.now v)) h.size.vertices _ _ _ _ c.requires.1 c.requires.0.v_high
    (same_fill c.fill_turned_points.ensures (λ k. rw c.row.ensures))
    (same_fill c.fill_turned_points-2.ensures (λ k. rw c.row-2.ensures))
    (same_fill c.fill_turned_points-3.ensures (λ k. rw c.row-3.ensures))
