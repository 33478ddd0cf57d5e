-- The walk round the ring keeps `Spreading`.
use mathlib.Core.Path.{◌≡◌}
use lib.ListN.{length}
use Rattle.hull_links.specs.Links.{next}
use Rattle.hull_links.proofs.Along.{rest}
use Rattle.hull_marks.specs.inner.Marks.{mark_of}
use Rattle.hull_shell.proofs.Flood.{Spreading}
use Rattle.hull_shell.proofs.Entered.spread.Given as goal

abbrev pub invariant-loop-self : goal.invariant-loop-self
invariant-loop-self l =
    Spreading l.hull.size l.hull.links.now l.start l.initial.self.count l.initial.self.queue (mark_of l.initial.self.seen)
    l.self.count l.self.queue (mark_of l.self.seen) l.e × (length l.self.seen ≡ 4)

abbrev pub decreases-loop-self : goal.decreases-loop-self
decreases-loop-self l = length (rest (next l.hull.size l.hull.links.now) l.hull.size.half_edges l.start l.e)
