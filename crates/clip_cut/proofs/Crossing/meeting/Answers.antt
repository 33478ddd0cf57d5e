-- One quotient, then one vector sum.
use Rattle.clip_cut.specs.Cut.{meeting_of}
use Rattle.clip_cut.proofs.Crossing.meeting.Goals as goal

pub returns : goal.returns
unfolding meeting_of
returns c = simp (c.mul_add.ensures, c.sub.ensures)
