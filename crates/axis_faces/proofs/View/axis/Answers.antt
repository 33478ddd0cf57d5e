-- `axis`: the two cases of the definition.
use Rattle.axis_faces.specs.Faces.{face_axis_of}
use borrow.Author.Rules.{rules}
use Rattle.axis_faces.proofs.View.axis.Goals as goal

pub returns-in-A : goal.returns-in-A
unfolding face_axis_of
returns-in-A c = search rules

pub returns-in-B : goal.returns-in-B
unfolding face_axis_of
returns-in-B c = search rules
