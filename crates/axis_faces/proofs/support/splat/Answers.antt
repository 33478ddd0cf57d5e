-- `splat`: the definition, lane by lane.
use mathlib.Core.Path.{refl}
use Rattle.axis_faces.specs.Support.{splat_of}
use Rattle.axis_faces.proofs.support.splat.Goals as goal

pub returns : goal.returns
unfolding splat_of
returns c = refl
