-- The loop keeps the lead after the faces so far, and goes on only where that has not stopped the search.
use mathlib.Core.Path.{◌≡◌}
use mathlib.Core.Bool.{false}
use Rattle.axis_faces.proofs.Facing.{lead_before}
use Rattle.axis_faces.proofs.View.search.Given as goal

abbrev pub invariant-loop-f : goal.invariant-loop-f
invariant-loop-f l =
    (l.lead ≡ lead_before l.self.side l.self.turn l.self.position l.hull.size l.hull.numbers.now l.other.size l.other.numbers.now l.f) × (l.lead.apart ≡ false)
