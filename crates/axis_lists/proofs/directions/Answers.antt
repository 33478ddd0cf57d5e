-- `directions`: three fills, one a coordinate.
use Rattle.axis_lists.proofs.Lists.{directions_made}
use native.Mathlib.Omega.{arith}
use Rattle.axis_lists.proofs.directions.Goals as goal

pub returns : goal.returns
returns c =
    let h = c.args.hull.now in
    directions_made h.size h.numbers.now h.links.now c.args.n _ _ _ _ _ _ c.requires.3
    (omega (arith, c.requires.2, c.requires.1.fit.h_high)) c.y_from.ensures c.z_from.ensures
    c.fill_differences.ensures c.fill_differences-2.ensures c.fill_differences-3.ensures
