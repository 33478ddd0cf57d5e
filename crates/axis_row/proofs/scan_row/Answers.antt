-- The two lists hold the edges that pass, and so the search over the second one is the search over the row.
use lib.ListN.{length, take}
use lib.Seq.{take-length}
use mathlib.Core.Path.{◌∙◌}
use native.Mathlib.Omega.{arith}
use Rattle.axis_lists.proofs.Fills.{fewer}
use Rattle.axis_row.proofs.Rows.{row_none, row_some, first_below, later_below}
use Rattle.axis_row.proofs.scan_row.Goals as goal

pub returns-then-m-eq0 : goal.returns-then-m-eq0
returns-then-m-eq0 c =
    let a = c.args in
    let h = a.hull.now in
    let r = a.rows.now in
    row_none h.size h.numbers.now h.links.now r.n a.normals.now a.b a.j a.start r.table.now r.p r.q c.requires.0 _ c.sift-m.result
    c.sift-m.ensures.3 c.if-m-eq0.true

pub sift_again-left-requires-clause-listed : goal.sift_again-left-requires-clause-listed
sift_again-left-requires-clause-listed c =
    let a = c.args in
    let h = a.hull.now in
    let r = a.rows.now in
    let first = take c.sift-m.result c.sift-m.new.list in
    first_below h.size h.numbers.now h.links.now r.n a.normals.now a.b a.j a.start r.table.now r.p r.q c.requires.0 first (length first)
    (take-length first ∙ c.sift-m.ensures.3) (omega arith)

pub scan_list-requires-clause-listed : goal.scan_list-requires-clause-listed
scan_list-requires-clause-listed c =
    let a = c.args in
    let h = a.hull.now in
    let r = a.rows.now in
    let later = take c.sift_again-left.result c.sift_again-left.new.out in
    later_below h.size h.numbers.now h.links.now r.n a.normals.now a.b a.j a.start r.table.now r.p r.q c.requires.0 _ c.sift-m.result
    c.sift-m.ensures.3 _ later (length later) (omega arith) (take-length later ∙ c.sift_again-left.ensures.2)

pub returns : goal.returns
returns c =
    let a = c.args in
    let h = a.hull.now in
    let r = a.rows.now in
    let p = c.requires in
    let row = fewer h.size.faces (omega arith) c.fill_row.ensures in
    let later = take c.sift_again-left.result c.sift_again-left.new.out in
    row_some h.size h.numbers.now h.links.now r.n a.normals.now a.b a.j a.start r.table.now r.p r.q p.0 _ c.sift-m.result
    c.sift-m.ensures.3 _ _ row (omega (arith, p.0.fit.f_high)) later (length later) c.scan_list.result
    (omega arith) (take-length later ∙ c.sift_again-left.ensures.2) c.scan_list.ensures
