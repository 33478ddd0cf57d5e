-- Each round adds the same count.
use Rattle.vector.specs.Awaited.{arbitrary_perp_of}
use Rattle.units.specs.Limits.{speculative}
use Rattle.reduce_scores.specs.Images.{images_in}
use Rattle.reduce_points.specs.Points.{contact_of}
use Rattle.reduce.specs.Reduce.{first_picks, points_of}
use Rattle.probes.proofs.Rounds.{Summed}
use Rattle.probes.proofs.cuts.probe_reduce_rounds.Given as goal

abbrev pub invariant-loop : goal.invariant-loop
invariant-loop l = let images = images_in l.fn.normal l.fn.corners.numbers l.fn.corners.tags l.fn.from l.fn.n in
    Summed (contact_of l.fn.normal (points_of (first_picks (speculative l.fn.unit) (arbitrary_perp_of l.fn.normal) l.fn.normal images) images)).count l.total
    l.counter
