-- Where there is room, and where there is none.
use Rattle.clip_corners.proofs.Laying.{lays_one, lays_past}
use Rattle.clip_corners.proofs.Corners.put.Goals as goal
use Rattle.clip_corners.proofs.Corners.put.Goals.{then-k-lt64, else-k-lt64}

pub returns : goal.returns
returns c =
    elim c.if-k-lt64.branch [
      | then-k-lt64 w ↦ rw w.self-is (lays_one _ _ _ _ _ _ _ w.if-k-lt64.true w.set.ensures.0 w.set.ensures.1)
      | else-k-lt64 w ↦ rw w.self-is (lays_past _ _ _ _ _ w.if-k-lt64.false)
    ]
