-- The new corner stands where the edge meets the plane.
use Rattle.clip_cut.specs.Cut.{entering_of}
use Rattle.clip_cut.proofs.Crossing.entering.Goals as goal

pub returns : goal.returns
unfolding entering_of
returns c = simp (c.plane_separation.ensures, c.meeting-position.ensures)
