-- The loop keeps `Filling`: the rows of the faces so far stand in the table.
use Rattle.axis_pairs.proofs.Tables.{room, goes_on}
use Rattle.axis_pairs.proofs.fill_table.Goals as goal

pub loop-f-preserved : goal.loop-f-preserved
loop-f-preserved c =
    let a = c.args in
    let v = a.lists.now in
    let l = c.loop-f in
    goes_on v.turned v.directions a.width _ a.faces l.f l.table l.invariant _ _ c.vector_in-normal.ensures
    (room v.turned v.directions a.width _ a.faces l.f l.table l.invariant c.loop-f-test.true c.requires.2) c.fill_row.ensures
