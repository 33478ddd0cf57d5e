-- `transform_accepted`: each call answers its own definition, and finiteness needs no test of its own.
use Rattle.hull_limits.proofs.Placed.{transform_is}
use Rattle.hull_limits.proofs.transform.transform_accepted.Goals as goal

pub returns : goal.returns
returns c =
    let z = c.before.before.before.before.before in
    let limited = z.before.before.before.before.before in
    let limit = limited.coordinate_limit-limit.ensures in
    transform_is limited.args.unit limited.args.t (rw limit at z.is_within.ensures)
    (rw limit at z.is_within-2.ensures) (rw limit at z.is_within-3.ensures) c.is_near_one.ensures
