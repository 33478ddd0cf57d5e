-- The loop keeps `Filling`: what stands so far, and what will be put behind it, make the whole batch.
use Rattle.hull_links.specs.Links.{next}
use Rattle.clip.specs.Candidates.{side_plane_of}
use Rattle.clip.proofs.Batches.{Filling}
use Rattle.clip.proofs.sides.fill_sides.Given as goal

abbrev pub invariant-loop-side : goal.invariant-loop-side
invariant-loop-side l =
    Filling (side_plane_of l.hull.size l.hull.numbers.now l.hull.links.now l.normal) (next l.hull.size l.hull.links.now) l.hull.size.half_edges
    l.start l.first l.initial.sides l.sides l.e l.side-index
