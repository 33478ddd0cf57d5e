-- Eight stores.
use mathlib.Core.Path.{refl}
use Rattle.clip_corners.specs.Places.{numbers_with, tags_with}
use Rattle.clip_corners.proofs.Corners.set.Goals as goal

pub returns : goal.returns
unfolding numbers_with tags_with
returns c = (refl, refl)
