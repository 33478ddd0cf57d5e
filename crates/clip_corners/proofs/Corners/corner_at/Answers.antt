-- Eight reads.
use mathlib.Core.Path.{refl}
use Rattle.clip_corners.specs.Places.{corner_in}
use Rattle.clip_corners.proofs.Corners.corner_at.Goals as goal

pub returns : goal.returns
unfolding corner_in
returns c = refl
