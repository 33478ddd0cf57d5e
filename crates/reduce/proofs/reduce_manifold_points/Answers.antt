-- `reduce_manifold_points`: all of four or fewer, else what the picks take of the images that are held.
use mathlib.Core.Path.{ap, ◌∙◌}
use native.Mathlib.Omega.{arith}
use Rattle.units.proofs.Laws.{tolerance_positive}
use Rattle.reduce_scores.proofs.Imaged.{length_images}
use Rattle.reduce_points.specs.Points.{contact_of}
use Rattle.reduce.proofs.Picks.{all_kept, picks_kept}
use Rattle.reduce.proofs.reduce_manifold_points.Goals as goal

pub returns-then-n-le4 : goal.returns-then-n-le4
returns-then-n-le4 c =
    let a = c.args in
    c.all_points.ensures
    ∙ ap (contact_of a.normal)
    (all_kept _ _ (omega (arith, length_images a.normal a.corners.now.numbers a.corners.now.tags a.from a.n, c.if-n-le4.true)))

pub picked-requires : goal.picked-requires
picked-requires c = (
  record { low = c.requires.0; few = c.requires.1; held = c.hold.ensures },
  c.if-n-le4.false,
  rw c.speculative_distance.ensures (tolerance_positive c.args.unit),
)

pub returns : goal.returns
returns c =
    let a = c.args in
    rw (c.speculative_distance.ensures, c.arbitrary_perp.ensures) at c.picked.ensures
    ∙ ap (contact_of a.normal)
    (picks_kept _ _ (omega (arith, length_images a.normal a.corners.now.numbers a.corners.now.tags a.from a.n, c.if-n-le4.false)))
