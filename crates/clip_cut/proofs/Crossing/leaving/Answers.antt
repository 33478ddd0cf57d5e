-- The new corner stands where the edge meets the plane.
use Rattle.clip_cut.specs.Cut.{leaving_of}
use Rattle.clip_cut.proofs.Crossing.leaving.Goals as goal

pub returns : goal.returns
unfolding leaving_of
returns c = simp (c.plane_separation.ensures, c.meeting-position.ensures)
