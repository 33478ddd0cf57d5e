-- `separation`: the definition, with the dot that the call answers.
use Rattle.axis_faces.specs.Faces.{face_separation_of}
use Rattle.axis_faces.proofs.View.separation.Goals as goal

pub returns : goal.returns
unfolding face_separation_of
returns c = simp c.dot.ensures
